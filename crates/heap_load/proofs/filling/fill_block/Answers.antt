use Rattle.std.proofs.Common.{◌≡◌, ◌∙◌, refl, ap, sym, arith, get_or}
use Rattle.std.proofs.lemmas.Result.{err_from_is_err_and}
use Rattle.std.proofs.lemmas.List.{get_or_default}
use Rattle.mem_port.proofs.CallReports.{quiet-then_err}
use Rattle.store_word.specs.declared.word.Content.TheVariants.{Struct as StructAt}
use Rattle.lisp_graph.specs.declared.object.Value.TheVariants as V
use Rattle.cdr_lists.proofs.PartStores.{on_err}
use Rattle.heap_load.specs.Places.{PlaceView, place_at, word_of}
use Rattle.heap_load.proofs.ObjectWords.{field_done, field_inside, field_laid, field_left}
use Rattle.heap_load.proofs.ObjectParts.{fields_all, fields_none, place_there}
use Rattle.heap_load.proofs.filling.fill_block.Given.{Over}
use Rattle.heap_load.proofs.filling.fill_block.Goals.{After-block_at-at, After-word_of}
use Rattle.heap_load.proofs.filling.fill_block.Goals as goal

-- the place is that of the block
stands : (g : Over) (c : After-block_at-at g) → (place_at c.args.places.now c.args.number).word.content ≡ StructAt c.block_at-at.result
stands g c = ap (λ (p : PlaceView). p.word.content) (sym (c.index-places-number.is ∙ place_there c.args.places.now c.args.number c.index-places-number.result c.args.world.now.objects c.requires.places c.requires.in_range)) ∙ c.block_at-at.ensures

-- the word of the next field
written : (g : Over) (c : After-word_of g) → c.word_of.result ≡ word_of c.args.places.now (get_or c.args.fields.now c.loop-i.i V.Nil)
written g c = c.word_of.ensures ∙ ap (word_of c.args.places.now) (get_or_default c.args.fields.now c.loop-i.i _ V.Nil c.loop-i-test.true)

pub loop-i-init : goal.loop-i-init
loop-i-init g c =
    let r = c.requires in
    record { filled = fields_none _ _ c.args.world.now c.args.places.now c.args.number r.agrees.0 c.args.fields.now r.agrees.1 r.in_range r.filled; laid = r.laid; table = refl; quiet = record { faults = refl; honest = refl; room = omega arith; sound = λ before. before } }

pub overflow_add-at : goal.overflow_add-at
overflow_add-at g c =
    let r = c.requires in
    let inside = field_inside (g.M.Memory.seen c.loop-i.ground.mem) c.loop-i.ground.table c.args.world.now c.args.places.now c.args.number r.loadable r.places r.in_range c.loop-i.invariant.laid c.args.fields.now c.loop-i.i c.loop-i.invariant.filled c.loop-i-test.true
    c.block_at-at.result (stands g (goal.at.overflow_add-at g c).After-block_at-at) in
    let small = c.loop-i.ground.sound in
    omega arith

pub overflow_add-at-in-loop-i : goal.overflow_add-at-in-loop-i
overflow_add-at-in-loop-i g c =
    let r = c.requires in
    let inside = field_inside (g.M.Memory.seen c.loop-i.ground.mem) c.loop-i.ground.table c.args.world.now c.args.places.now c.args.number r.loadable r.places r.in_range c.loop-i.invariant.laid c.args.fields.now c.loop-i.i c.loop-i.invariant.filled c.loop-i-test.true
    c.block_at-at.result (stands g (goal.at.overflow_add-at-in-loop-i g c).After-block_at-at) in
    let small = c.loop-i.ground.sound in
    omega arith

pub store-requires : goal.store-requires
store-requires g c =
    let r = c.requires in
    field_inside (g.M.Memory.seen c.loop-i.ground.mem) c.loop-i.ground.table c.args.world.now c.args.places.now c.args.number r.loadable r.places r.in_range c.loop-i.invariant.laid c.args.fields.now c.loop-i.i c.loop-i.invariant.filled c.loop-i-test.true
    c.block_at-at.result (stands g (goal.at.store-requires g c).After-block_at-at)

pub returns-in_err-store-clause-left : goal.returns-in_err-store-clause-left
returns-in_err-store-clause-left g c =
    let r = c.requires in
    on_err c.from_residual.result _
    (field_left (g.M.Memory.seen c.loop-i.ground.mem) c.loop-i.ground.table c.args.world.now c.args.places.now c.args.number r.loadable r.places r.in_range c.loop-i.invariant.laid c.args.fields.now c.loop-i.i c.loop-i.invariant.filled c.loop-i-test.true
    c.block_at-at.result (stands g (goal.at.returns-in_err-store-clause-left g c).After-block_at-at) _ _ c.in_err-store.ensures.table c.in_err-store.ensures.unchanged)

pub loop-i-preserved : goal.loop-i-preserved
loop-i-preserved g c =
    let at = goal.at.loop-i-preserved g c in
    let r = c.requires in
    let before = c.loop-i.invariant.quiet in
    let after = c.in_ok-store.ensures.accounted in
    record {
      filled = field_done (g.M.Memory.seen c.loop-i.ground.mem) c.loop-i.ground.table c.args.world.now c.args.places.now c.args.number r.loadable r.places r.in_range c.loop-i.invariant.laid c.args.fields.now c.loop-i.i c.loop-i.invariant.filled c.loop-i-test.true
          c.block_at-at.result (stands g at.After-block_at-at) c.word_of.result (written g at.After-word_of) _ c.with_cdr-word.result c.with_cdr-word.ensures c.in_ok-store.ensures.written _ c.in_ok-store.ensures.table;
      laid = field_laid (g.M.Memory.seen c.loop-i.ground.mem) c.loop-i.ground.table c.args.world.now c.args.places.now c.args.number r.loadable r.places r.in_range c.loop-i.invariant.laid c.args.fields.now c.loop-i.i c.loop-i.invariant.filled c.loop-i-test.true
          c.block_at-at.result (stands g at.After-block_at-at) c.word_of.result (written g at.After-word_of) _ c.with_cdr-word.result c.with_cdr-word.ensures c.in_ok-store.ensures.written;
      table = c.in_ok-store.ensures.table ∙ c.loop-i.invariant.table;
      quiet = record { faults = after.cause.quiet ∙ before.faults; honest = (let a = before.honest in let b = after.honest in omega arith); room = (let a = before.room in let b = after.room.answered in omega arith); sound = λ was. after.sound (before.sound was) };
    }

pub returns-clause-stays_filled : goal.returns-clause-stays_filled
returns-clause-stays_filled g c = fields_all _ _ c.args.world.now c.args.places.now c.args.number c.args.fields.now c.loop-i.i c.loop-i.invariant.filled c.loop-i-test.false

pub returns-in_err-store-clause-accounted : goal.returns-in_err-store-clause-accounted
returns-in_err-store-clause-accounted g c =
    quiet-then_err _ c.from_residual.result (err_from_is_err_and c.from_residual.result c.from_residual.ensures.1).1 c.loop-i.invariant.quiet c.in_err-store.ensures.accounted
