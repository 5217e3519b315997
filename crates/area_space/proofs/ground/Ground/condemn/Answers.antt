use Rattle.area_space.proofs.GroundLaws.{ground_condemned, named_condemned}
use Rattle.area_space.proofs.ground.Ground.condemn.Goals as goal

pub returns-clause-stays_ground : goal.returns-clause-stays_ground
returns-clause-stays_ground g c =
    ground_condemned (g.M.Memory.seen c.args.self.now.mem) c.args.self.now.table c.condemn.new.self c.args.what c.condemn.ensures.stays_sound.1 c.condemn.ensures.table

pub returns-clause-stays_named : goal.returns-clause-stays_named
returns-clause-stays_named g c =
    named_condemned (g.M.Memory.seen c.args.self.now.mem) c.args.self.now.table c.condemn.new.self c.args.what c.condemn.ensures.stays_sound.0 c.requires c.condemn.ensures.table
