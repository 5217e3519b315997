use Rattle.test_collect.proofs.Machines.{read_machine}
use Rattle.test_collect.proofs.machine.Machine.evict.Goals as goal

pub invariant_of-self : goal.invariant_of-self
invariant_of-self g c = read_machine c.self.invariant c.command_laws.ensures.performs c.command_laws.ensures.represented c.command_laws.ensures.marks c.evict_oldest-evicted.ensures.unchanged
