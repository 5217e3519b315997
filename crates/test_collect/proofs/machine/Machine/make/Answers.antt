use Rattle.std.proofs.Common.{◌<◌, arith, length}
use Rattle.test_collect.proofs.Machines.{lent_consistent, lent_eight, level_is, made_lent}
use Rattle.test_collect.proofs.machine.Machine.make.Goals as goal

pub make-reply-requires : goal.make-reply-requires
make-reply-requires g c = record { consistent = lent_consistent c.self.inside.registers c.self.invariant c.deref_mut.ensures.value; size = lent_eight c.self.inside.registers c.self.invariant c.deref_mut.ensures.value }

pub invariant_of-self : goal.invariant_of-self
invariant_of-self g c =
    let low : c.args.area < length c.as_slice-rules.result.now = (let f = c.if-area-rules.false in omega arith) in
    made_lent c.self.inside.registers c.self.invariant c.deref_mut.ensures.value (g.M.Memory.seen c.make-reply.new.ground.mem) c.make-reply.new.ground.table c.make-reply.new.registers c.deref_mut.ensures.len c.command_laws.ensures.represented c.command_laws.ensures.marks
    c.args.area c.new_level-level.result c.make-reply.result c.command_laws.ensures.err
    (level_is c.as_slice-rules.result.now c.self.inside.areas c.args.area _ c.new_level-level.result low c.as_slice-rules.ensures c.new_level-level.ensures)
    c.make-reply.ensures.some c.make-reply.ensures.none
