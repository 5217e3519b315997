use Rattle.test_collect.proofs.Machines.{acted_lent, lent_consistent, lent_eight}
use Rattle.test_collect.proofs.machine.Machine.act.Goals as goal

pub act-reply-requires : goal.act-reply-requires
act-reply-requires g c = record { consistent = lent_consistent c.self.inside.registers c.self.invariant c.deref_mut.ensures.value; size = lent_eight c.self.inside.registers c.self.invariant c.deref_mut.ensures.value }

pub invariant_of-self : goal.invariant_of-self
invariant_of-self g c =
    acted_lent c.self.inside.registers c.self.invariant c.deref_mut.ensures.value (g.M.Memory.seen c.act-reply.new.ground.mem) c.act-reply.new.ground.table c.act-reply.new.registers c.deref_mut.ensures.len c.command_laws.ensures.represented c.command_laws.ensures.marks
    c.act-reply.result c.command_laws.ensures.performs c.act-reply.ensures.some c.act-reply.ensures.none
