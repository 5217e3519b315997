use Rattle.std.proofs.Common.{refl}
use Rattle.std.proofs.lemmas.Result.{err_from_is_err_and}
use Rattle.heap_state.proofs.CommandEffects.{performs_after, performs_fault}
use Rattle.heap_commands.proofs.ConsReads.{stays_leaves}
use Rattle.heap_commands.proofs.Comparisons.{comparable, compared_performs}
use Rattle.heap_commands.proofs.SettledRegisters.{settles_two}
use Rattle.heap_commands.proofs.Moves.{moves_read}
use Rattle.heap_commands.proofs.conses.moving.eq.Goals as goal

pub is_same-requires : goal.is_same-requires
is_same-requires g c =
    let x = c.in_ok-settle_items.ensures in
    let s = settles_two _ _ _ _ _ _ c.requires.consistent x.represented x.preserves x.registers x.stays_fresh x.marks c.args.left c.args.right x.fresh in
    comparable (g.M.Memory.seen c.settle_items.new.ground.mem) (g.M.Memory.seen c.settle_items.new.ground.mem) c.settle_items.new.ground.table c.settle_items.new.registers c.args.left c.args.right (s.inside _ c.requires.left) (s.inside _ c.requires.right) c.index-registers-left.result c.index-registers-right.result c.index-registers-left.is c.index-registers-right.is s.consistent

pub returns-clause-performs : goal.returns-clause-performs
returns-clause-performs g c =
    let x = c.in_ok-settle_items.ensures in
    let s = settles_two _ _ _ _ _ _ c.requires.consistent x.represented x.preserves x.registers x.stays_fresh x.marks c.args.left c.args.right x.fresh in
    let told = c.in_ok-same.ensures in
    performs_after _ _ _ _ _ _ _ _ _ _ _ s.leaves
    (compared_performs _ _ _ c.settle_items.new.registers c.args.left c.args.right (s.inside _ c.requires.left) (s.inside _ c.requires.right) c.index-registers-left.result c.index-registers-right.result c.index-registers-left.is c.index-registers-right.is c.in_ok-same.same _ told.value c.truth.ensures told.unchanged s.left_settled s.right_settled)

pub returns-in_err-same-clause-performs : goal.returns-in_err-same-clause-performs
returns-in_err-same-clause-performs g c =
    let x = c.in_ok-settle_items.ensures in
    let s = settles_two _ _ _ _ _ _ c.requires.consistent x.represented x.preserves x.registers x.stays_fresh x.marks c.args.left c.args.right x.fresh in
    let p = err_from_is_err_and c.from_residual-in_err-same.result c.from_residual-in_err-same.ensures.1 in
    rw p.1 (performs_after _ _ _ _ _ _ _ _ _ _ _ s.leaves
    (performs_fault _ _ _ _ c.settle_items.new.registers c.settle_items.new.registers _ refl (stays_leaves _ _ _ _ c.settle_items.new.registers refl c.in_err-same.ensures.unchanged)))

-- What moves

pub returns-clause-moves : goal.returns-clause-moves
returns-clause-moves g c = moves_read c.in_ok-settle_items.ensures.moves c.in_ok-same.ensures.unchanged refl

pub returns-in_err-same-clause-moves : goal.returns-in_err-same-clause-moves
returns-in_err-same-clause-moves g c = moves_read c.in_ok-settle_items.ensures.moves c.in_err-same.ensures.unchanged refl

pub returns-in_err-settle_items-clause-performs : goal.returns-in_err-settle_items-clause-performs
returns-in_err-settle_items-clause-performs g c =
    let p = err_from_is_err_and c.from_residual.result c.from_residual.ensures.1 in
    let x = c.in_err-settle_items.ensures in
    rw p.1 (performs_fault _ _ _ _ c.args.registers.now c.settle_items.new.registers _ refl (record { represented = x.represented; preserves = x.preserves; others = x.registers; stays_fresh = x.stays_fresh; marks = x.marks }))
