use Rattle.std.proofs.Common.{◌<◌, arith}
use Rattle.test_collect.proofs.Machines.{lent_consistent, lent_eight, performed_lent}
use Rattle.test_collect.proofs.machine.Machine.grow.Goals as goal

pub grow-reply-requires-clause-consistent : goal.grow-reply-requires-clause-consistent
grow-reply-requires-clause-consistent g c = lent_consistent c.self.inside.registers c.self.invariant c.deref_mut.ensures.value

pub grow-reply-requires-clause-target : goal.grow-reply-requires-clause-target
grow-reply-requires-clause-target g c =
    let eight = lent_eight c.self.inside.registers c.self.invariant c.deref_mut.ensures.value in
    let low = c.if-target-ge8.false in
    omega arith

pub invariant_of-self : goal.invariant_of-self
invariant_of-self g c =
    performed_lent c.self.inside.registers c.self.invariant c.deref_mut.ensures.value (g.M.Memory.seen c.grow-reply.new.ground.mem) c.grow-reply.new.ground.table c.grow-reply.new.registers c.deref_mut.ensures.len c.command_laws.ensures.represented c.command_laws.ensures.marks
    c.command_laws.ensures.performs c.grow-reply.ensures
