use Rattle.test_collect.proofs.Machines.{reclaimed_machine, some_state}
use Rattle.test_collect.proofs.machine.Machine.reclaim.Goals as goal

pub reclaim-reply-requires : goal.reclaim-reply-requires
reclaim-reply-requires g c = record { represented = some_state c.self.invariant }

pub invariant_of-self : goal.invariant_of-self
invariant_of-self g c = reclaimed_machine c.self.invariant c.reclaim-reply.result c.command_laws.ensures.represented c.command_laws.ensures.marks c.reclaim-reply.ensures.step
