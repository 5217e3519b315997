use Rattle.test_collect.proofs.Machines.{lent_standing, scanned_lent}
use Rattle.test_collect.proofs.machine.Machine.scan.Goals as goal

pub scavenge-reply-requires : goal.scavenge-reply-requires
scavenge-reply-requires g c = record { represented = lent_standing c.self.inside.registers c.self.invariant c.deref_mut.ensures.value }

pub invariant_of-self : goal.invariant_of-self
invariant_of-self g c =
    let x = c.scavenge-reply.ensures in
    scanned_lent c.self.inside.registers c.self.invariant c.deref_mut.ensures.value (g.M.Memory.seen c.scavenge-reply.new.ground.mem) c.scavenge-reply.new.ground.table c.scavenge-reply.new.registers c.deref_mut.ensures.len c.command_laws.ensures.represented c.command_laws.ensures.marks
    c.args.count c.scavenge-reply.result x.goes_on.registers.count x.step
