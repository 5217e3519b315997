use Rattle.paged_machine.proofs.OpenableWorlds.{idle_bare}
use Rattle.paged_machine.proofs.machine.MachineEngine.idle_has_no_world.Goals as goal

pub returns : goal.returns
returns g c = rw (← c.self.view_is) (idle_bare g.D.Swap.faults c.self.inside.stage)
