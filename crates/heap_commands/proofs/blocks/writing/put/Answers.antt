use Rattle.std.proofs.Common.{Err, ap, arith, refl, rules}
use Rattle.std.proofs.lemmas.Result.{err_from_is_err_and}
use Rattle.heap_state.proofs.CommandEffects.{performs_after, performs_fault}
use Rattle.mem_port.proofs.CallReports.{answered}
use Rattle.heap_commands.proofs.Refusals.{failed_ok, failed_tells, quiet-then}
use Rattle.heap_commands.proofs.StoreMarks.{marks_field}
use Rattle.heap_commands.proofs.SettledRegisters.{settles_two}
use Rattle.heap_commands.proofs.FieldStores.{can_set, put_failed, put_performs}
use Rattle.heap_commands.proofs.Moves.{moves_still, settled_word}
use Rattle.heap_commands.proofs.blocks.writing.put.Goals as goal

pub set_field-requires : goal.set_field-requires
set_field-requires g c =
    let x = c.in_ok-settle_items.ensures in
    let s = settles_two _ _ _ _ _ _ c.requires.consistent x.represented x.preserves x.registers x.stays_fresh x.marks c.args.target c.args.from x.fresh in
    can_set _ _ c.settle_items.new.registers c.args.target c.args.from c.index-registers-target.result c.index-registers-from.result c.index-registers-target.is c.index-registers-from.is s.consistent (s.inside _ c.requires.target) (s.inside _ c.requires.from) s.right_settled

pub returns-in-Ok-clause-performs : goal.returns-in-Ok-clause-performs
returns-in-Ok-clause-performs g c =
    let x = c.in_ok-settle_items.ensures in
    let s = settles_two _ _ _ _ _ _ c.requires.consistent x.represented x.preserves x.registers x.stays_fresh x.marks c.args.target c.args.from x.fresh in
    let done = c.in-Ok.ensures in
    performs_after _ _ _ _ _ _ _ _ _ _ _ s.leaves
    (put_performs _ _ _ _ c.settle_items.new.registers c.args.target c.args.index c.args.from c.index-registers-target.result c.index-registers-from.result c.index-registers-target.is c.index-registers-from.is (s.inside _ c.requires.target) (s.inside _ c.requires.from) done.table
    (λ ne. let e = done.refused.1 ne in cc) done.in_range.0 done.in_range.1 done.in_range.2 done.set done.preserves done.stays_fresh
    (marks_field (g.M.Memory.seen c.settle_items.new.ground.mem) _ c.settle_items.new.ground.table _ c.settle_items.new.registers c.args.target (s.inside _ c.requires.target) c.index-registers-target.result c.index-registers-target.is s.consistent c.args.index done.in_range.0 c.index-registers-from.result (λ ne. let e = done.refused.1 ne in cc) done.in_range.1 done.in_range.2 done.written done.marks) s.left_settled s.right_settled)

pub returns-in-Err-clause-performs : goal.returns-in-Err-clause-performs
returns-in-Err-clause-performs g c =
    let x = c.in_ok-settle_items.ensures in
    let s = settles_two _ _ _ _ _ _ c.requires.consistent x.represented x.preserves x.registers x.stays_fresh x.marks c.args.target c.args.from x.fresh in
    let done = c.in-Err.ensures in
    rw c.refusal.ensures (performs_after _ _ _ _ _ _ _ _ _ _ _ s.leaves
    (put_failed _ _ _ _ c.settle_items.new.registers c.args.target c.args.index c.args.from c.index-registers-target.result c.index-registers-from.result c.index-registers-target.is c.index-registers-from.is (s.inside _ c.requires.target) (s.inside _ c.requires.from) done.table done.unchanged
    c.in-Err.fault (λ is. done.refused.0 (ap Err is)) (λ ne. let e = done.refused.1 ne in cc) (λ count is. done.no_field count (ap Err is))))

pub returns-in-Err-clause-costs : goal.returns-in-Err-clause-costs
returns-in-Err-clause-costs g c =
    let settling = c.in_ok-settle_items.ensures.cost in
    let done = c.in-Err.ensures in
    let writing = done.cost in
    record { tells = quiet-then (answered _ c.in_ok-settle_items.ensures.accounted) (failed_tells Unit c.in-Err.fault c.refusal.result c.refusal.ensures done.accounted); few = search rules; cost = failed_ok Unit c.in-Err.fault c.refusal.result c.refusal.ensures (λ _. omega arith) }

pub returns-in_err-settle_items-clause-performs : goal.returns-in_err-settle_items-clause-performs
returns-in_err-settle_items-clause-performs g c =
    let p = err_from_is_err_and c.from_residual.result c.from_residual.ensures.1 in
    let x = c.in_err-settle_items.ensures in
    rw p.1 (performs_fault _ _ _ _ c.args.registers.now c.settle_items.new.registers _ refl (record { represented = x.represented; preserves = x.preserves; others = x.registers; stays_fresh = x.stays_fresh; marks = x.marks }))

-- What moves

pub returns-in-Ok-clause-moves : goal.returns-in-Ok-clause-moves
returns-in-Ok-clause-moves g c =
    let x = c.in_ok-settle_items.ensures in
    let s = settles_two _ _ _ _ _ _ c.requires.consistent x.represented x.preserves x.registers x.stays_fresh x.marks c.args.target c.args.from x.fresh in
    moves_still x.moves (c.set_field.ensures.moves (settled_word c.settle_items.new.ground.table c.settle_items.new.registers c.args.target c.index-registers-target.result (s.inside _ c.requires.target) c.index-registers-target.is s.left_settled))

pub returns-in-Err-clause-moves : goal.returns-in-Err-clause-moves
returns-in-Err-clause-moves g c =
    let x = c.in_ok-settle_items.ensures in
    let s = settles_two _ _ _ _ _ _ c.requires.consistent x.represented x.preserves x.registers x.stays_fresh x.marks c.args.target c.args.from x.fresh in
    moves_still x.moves (c.set_field.ensures.moves (settled_word c.settle_items.new.ground.table c.settle_items.new.registers c.args.target c.index-registers-target.result (s.inside _ c.requires.target) c.index-registers-target.is s.left_settled))
