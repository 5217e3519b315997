use Rattle.std.proofs.Common.{◌≡◌, subst, sym, ap}
use Rattle.lisp_graph.specs.declared.command.Condemn.TheVariants.{Full}
use Rattle.test_ground.specs.Trials.{IsOpen}
use Rattle.test_ground.proofs.MachineFlip.{running-flipped}
use Rattle.test_ground.proofs.transports.trial.Trial.flip.Goals as goal

pub returns : goal.returns
returns g c =
    let t = c.args.self.now.ground.table in
    let u = c.condemn.new.self.table in
    let m = g.M.Memory.seen c.args.self.now.ground.mem in
    let m' = g.M.Memory.seen c.condemn.new.self.mem in
    let same : m' ≡ m = ap g.M.Memory.seen c.condemn.ensures.memory in
    let x = subst (λ s. IsOpen s c.args.self.now.ground.table c.args.self.now.front c.args.self.now.middle) (sym same) c.requires in
    running-flipped m' t u c.args.self.now.front c.args.self.now.middle x Full c.condemn.ensures.table (c.condemn.ensures.stays_ground c.requires.on.ground) (c.condemn.ensures.stays_named c.requires.on.named)
    c.condemn.ensures.sound c.condemn.new.self.sound.marked
