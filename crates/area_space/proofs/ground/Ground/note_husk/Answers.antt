use Rattle.std.proofs.Common.{◌*◌}
use Rattle.area_space.proofs.GroundLaws.{ground_husked, named_husked}
use Rattle.area_space.proofs.ground.Ground.note_husk.Goals as goal

pub returns-clause-stays_ground : goal.returns-clause-stays_ground
returns-clause-stays_ground g c =
    let e = c.requires.in_range in
    ground_husked (g.M.Memory.seen c.args.self.now.mem) c.args.self.now.table c.note_husk.new.self (2 * e.0) c.args.words (c.note_husk.ensures.after e.0 e.1)

pub returns-clause-stays_named : goal.returns-clause-stays_named
returns-clause-stays_named g c =
    let e = c.requires.in_range in
    named_husked (g.M.Memory.seen c.args.self.now.mem) c.args.self.now.table c.note_husk.new.self (2 * e.0) c.args.words (c.note_husk.ensures.after e.0 e.1)
