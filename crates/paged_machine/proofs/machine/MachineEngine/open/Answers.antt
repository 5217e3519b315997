use Rattle.std.proofs.Common.{Ok}
use Rattle.paged_machine.proofs.OpenableWorlds.{takes_on}
use Rattle.paged_machine.proofs.machine.MachineEngine.open.Goals as goal

pub returns-in-Ok-load_world-clause-takes : goal.returns-in-Ok-load_world-clause-takes
returns-in-Ok-load_world-clause-takes g c = rw c.put.ensures (takes_on {E = Unit {0}} c.args.world.now c.load_world.new.heap (Ok tt) c.requires.accepted c.in-Ok-load_world.ensures.stands)
