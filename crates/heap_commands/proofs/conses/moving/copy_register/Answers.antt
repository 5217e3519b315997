use Rattle.std.proofs.Common.{arith}
use Rattle.heap_state.proofs.SettledRegister.{consistent_on}
use Rattle.heap_commands.proofs.Comparisons.{moved_performs}
use Rattle.heap_state.proofs.CommandEffects.{performs_after}
use Rattle.heap_commands.proofs.conses.moving.copy_register.Goals as goal

pub returns-clause-performs : goal.returns-clause-performs
returns-clause-performs g c =
    let x = c.in_ok-word.ensures in
    let count = x.registers.count in
    let to = c.requires.to in
    let from = c.requires.from in
    performs_after _ _ _ _ _ _ _ _ _ _ _ (record { represented = x.represented; preserves = x.preserves; others = x.registers; stays_fresh = x.stays_fresh; marks = x.marks })
    (moved_performs (g.M.Memory.seen c.settle_register.new.ground.mem) _ c.settle_register.new.registers c.args.to c.args.from c.in_ok-word.word (consistent_on _ _ _ _ _ _ c.requires.consistent x.represented) (omega arith) (omega arith) x.word x.fresh)
