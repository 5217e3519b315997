use Rattle.std.proofs.Common.{◌≢◌, arith, inl, refl}
use Rattle.std.proofs.lemmas.Result.{err_from_is_err_and}
use Rattle.store_word.specs.Words.{tag_of}
use Rattle.store_word.specs.declared.word.Tag.TheVariants.{List as ListTag}
use Rattle.lisp_graph.specs.declared.object.Body.TheVariants as B
use Rattle.lisp_graph.specs.Effect.{stored}
use Rattle.lisp_graph.specs.Graph.{value_at}
use Rattle.block_store.specs.lisp_meaning.Flip.{graph_of}
use Rattle.heap_state.proofs.CommandEffects.{performs_after, performs_fault, performs_refused}
use Rattle.heap_commands.proofs.ConsReads.{kept_represented, no_cons, stays_leaves}
use Rattle.heap_commands.proofs.StoreMarks.{marks_cdr, marks_faulted}
use Rattle.heap_commands.proofs.ConsRegisters.{settable}
use Rattle.heap_commands.proofs.SettledRegisters.{settles_two}
use Rattle.heap_commands.proofs.ConsStores.{cdr_stores, both_settled, stored_faulted, stored_performs}
use Rattle.block_store.proofs.transporter.TransportSequences.{moves-more, moves-then}
use Rattle.heap_commands.proofs.Moves.{cdr_moves}
use Rattle.heap_commands.proofs.conses.parts.rplacd.Goals as goal

pub set_cdr-requires : goal.set_cdr-requires
set_cdr-requires g c =
    let x = c.in_ok-settle_items.ensures in
    let s = settles_two _ _ _ _ _ _ c.requires.consistent x.represented x.preserves x.registers x.stays_fresh x.marks c.args.target c.args.from x.fresh in
    settable (g.M.Memory.seen c.settle_items.new.ground.mem) c.settle_items.new.ground.table c.settle_items.new.registers c.args.target c.args.from (s.inside _ c.requires.target) (s.inside _ c.requires.from) c.index-registers-target.result c.index-registers-from.result c.index-registers-target.is c.index-registers-from.is s.consistent s.left_settled s.right_settled

pub returns-in-Ok-clause-performs : goal.returns-in-Ok-clause-performs
returns-in-Ok-clause-performs g c =
    let x = c.in_ok-settle_items.ensures in
    let s = settles_two _ _ _ _ _ _ c.requires.consistent x.represented x.preserves x.registers x.stays_fresh x.marks c.args.target c.args.from x.fresh in
    let got = c.set_cdr.ensures in
    let list = λ (other : tag_of c.index-registers-target.result.content ≢ ListTag). (let e = got.refused.not_a_cons.1 other in let is = c.in-Ok.is in absurd {A = ⊥} cc) in
    performs_after _ _ _ _ _ _ _ _ _ _ _ s.leaves
    (stored_performs _ _ _ _ c.settle_items.new.registers _ (cdr_stores (g.M.Memory.seen c.settle_items.new.ground.mem) (g.M.Memory.seen c.set_cdr.new.ground.mem) c.settle_items.new.ground.table c.set_cdr.new.ground.table c.settle_items.new.registers c.args.target c.args.from (s.inside _ c.requires.target) (s.inside _ c.requires.from) c.index-registers-target.result c.index-registers-from.result c.index-registers-target.is c.index-registers-from.is list c.in-Ok.ensures.set.set) got.stays_ground.preserves got.stays_ground.stays_fresh
    (marks_cdr (g.M.Memory.seen c.settle_items.new.ground.mem) _ c.settle_items.new.ground.table _ c.settle_items.new.registers c.args.target (s.inside _ c.requires.target) c.index-registers-target.result c.index-registers-target.is s.consistent list c.index-registers-from.result c.in-Ok.ensures.set.written got.stays_ground.marks)
    (both_settled c.settle_items.new.ground.table c.settle_items.new.registers c.args.target c.args.from (s.inside _ c.requires.target) (s.inside _ c.requires.from) s.left_settled s.right_settled))

pub returns-in-Err-NotACons-clause-performs : goal.returns-in-Err-NotACons-clause-performs
returns-in-Err-NotACons-clause-performs g c =
    let x = c.in_ok-settle_items.ensures in
    let s = settles_two _ _ _ _ _ _ c.requires.consistent x.represented x.preserves x.registers x.stays_fresh x.marks c.args.target c.args.from x.fresh in
    let got = c.set_cdr.ensures in
    performs_after _ _ _ _ _ _ _ _ _ _ _ s.leaves
    (performs_refused _ _ _ _ c.settle_items.new.registers c.settle_items.new.registers _
    (no_cons _ (g.M.Memory.seen c.set_cdr.new.ground.mem) _ c.set_cdr.new.ground.table c.settle_items.new.registers c.args.target (s.inside _ c.requires.target) c.index-registers-target.result c.index-registers-target.is (λ s name car cdr. stored (graph_of s) name (B.Cons car (value_at s.registers c.args.from))) (got.refused.not_a_cons.0 (let is = c.in-Err-NotACons.is in let e = c.in-Err-NotACons.field-0-is in cc)))
    (let unstored = got.refused.unstored (let is = c.in-Err-NotACons.is in let e = c.in-Err-NotACons.field-0-is in cc) in stays_leaves _ _ _ _ c.settle_items.new.registers unstored.1 unstored.0))

pub returns-in-Err-Swap-clause-performs : goal.returns-in-Err-Swap-clause-performs
returns-in-Err-Swap-clause-performs g c =
    let x = c.in_ok-settle_items.ensures in
    let s = settles_two _ _ _ _ _ _ c.requires.consistent x.represented x.preserves x.registers x.stays_fresh x.marks c.args.target c.args.from x.fresh in
    let got = c.set_cdr.ensures in
    let list = λ (other : tag_of c.index-registers-target.result.content ≢ ListTag). (let e = got.refused.not_a_cons.1 other in let is = c.in-Err-Swap.is in let fault = c.in-Err-Swap.field-0-is in absurd {A = ⊥} cc) in
    performs_after _ _ _ _ _ _ _ _ _ _ _ s.leaves
    (stored_faulted _ _ _ _ c.settle_items.new.registers _ refl (kept_represented _ _ _ _ c.settle_items.new.registers c.args.target (s.inside _ c.requires.target) c.index-registers-target.result c.index-registers-target.is c.in-Err-Swap.ensures.fault.fault got.stays_ground.preserves) got.stays_ground.preserves got.stays_ground.stays_fresh
    (marks_faulted (g.M.Memory.seen c.settle_items.new.ground.mem) _ c.settle_items.new.ground.table _ c.settle_items.new.registers c.args.target (s.inside _ c.requires.target) c.index-registers-target.result c.index-registers-target.is s.consistent list got.stays_ground.marks))

pub returns-in_err-settle_items-clause-performs : goal.returns-in_err-settle_items-clause-performs
returns-in_err-settle_items-clause-performs g c =
    let p = err_from_is_err_and c.from_residual.result c.from_residual.ensures.1 in
    let x = c.in_err-settle_items.ensures in
    rw p.1 (performs_fault _ _ _ _ c.args.registers.now c.settle_items.new.registers _ refl (record { represented = x.represented; preserves = x.preserves; others = x.registers; stays_fresh = x.stays_fresh; marks = x.marks }))

-- What moves

pub returns-in-Ok-clause-moves : goal.returns-in-Ok-clause-moves
returns-in-Ok-clause-moves g c =
    let x = c.in_ok-settle_items.ensures in
    let s = settles_two _ _ _ _ _ _ c.requires.consistent x.represented x.preserves x.registers x.stays_fresh x.marks c.args.target c.args.from x.fresh in
    let got = c.set_cdr.ensures in
    let list = λ (other : tag_of c.index-registers-target.result.content ≢ ListTag). (let e = got.refused.not_a_cons.1 other in let is = c.in-Ok.is in absurd {A = ⊥} cc) in
    cdr_moves _ _ _ _ _ _ c.settle_items.new.registers c.args.target c.args.from (s.inside _ c.requires.target) (s.inside _ c.requires.from) c.index-registers-target.result c.index-registers-from.result c.index-registers-target.is c.index-registers-from.is s.consistent list x.moves c.in-Ok.ensures.set.cells c.in-Ok.ensures.set.laid

pub returns-in-Err-NotACons-clause-moves : goal.returns-in-Err-NotACons-clause-moves
returns-in-Err-NotACons-clause-moves g c = inl (moves-then c.in_ok-settle_items.ensures.moves c.in-Err-NotACons.ensures.fault.moves)

pub returns-in-Err-Swap-clause-moves : goal.returns-in-Err-Swap-clause-moves
returns-in-Err-Swap-clause-moves g c = inl (moves-then c.in_ok-settle_items.ensures.moves c.in-Err-Swap.ensures.fault.moves)

pub returns-in_err-settle_items-clause-moves : goal.returns-in_err-settle_items-clause-moves
returns-in_err-settle_items-clause-moves g c = inl (moves-more (omega arith) c.in_err-settle_items.ensures.moves)
