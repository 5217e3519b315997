use Rattle.std.proofs.Common.{◌≡◌, ◌∙◌, ap, sym, arith}
use Rattle.std.proofs.lemmas.Result.{on_err_weaker, on_ok_weaker}
use Rattle.store_word.specs.Words.{Parts}
use Rattle.store_word.specs.declared.word.CdrCode.{CdrCode}
use Rattle.store_word.specs.declared.word.Content.TheVariants.{List as ListAt}
use Rattle.lisp_graph.specs.Graph.{object_at}
use Rattle.cdr_lists.specs.Pairs.{second_code}
use Rattle.heap_load.specs.Places.{PlaceView, place_at}
use Rattle.heap_load.proofs.ObjectWords.{cdr_done, cdr_done_laid, cdr_given, cdr_inside, cdr_left}
use Rattle.heap_load.proofs.ObjectParts.{place_there}
use Rattle.heap_load.proofs.filling.fill_cdr.Given.{Over}
use Rattle.heap_load.proofs.filling.fill_cdr.Goals.{After-cons_at-at, After-with_cdr-second}
use Rattle.heap_load.proofs.filling.fill_cdr.Goals as goal

-- the place is that of the pair
stands : (g : Over) (c : After-cons_at-at g) → (place_at c.args.places.now c.args.cons.number).word.content ≡ ListAt c.cons_at-at.result
stands g c = ap (λ (p : PlaceView). p.word.content) (sym (c.index-places-number.is ∙ place_there c.args.places.now c.args.cons.number c.index-places-number.result c.args.world.now.objects c.requires.places c.requires.in_range)) ∙ c.cons_at-at.ensures

-- the word has the cdr code of the charge
coded : (g : Over) (c : After-with_cdr-second g) → c.with_cdr-second.result ≡ record (c.word_of.result) { cdr = second_code (object_at c.args.world.now.objects c.args.cons.number).charge }
coded g c =
    let read = c.charge_of-charge.ensures in
    c.with_cdr-second.ensures ∙ ap (λ (k : CdrCode). let p : Parts = record (c.word_of.result) { cdr = k } in p) (c.second_code.ensures ∙ ap second_code read)

pub returns-then-is_known-clause-stays_filled : goal.returns-then-is_known-clause-stays_filled
returns-then-is_known-clause-stays_filled g c =
    let r = c.requires in
    cdr_given (g.M.Memory.seen c.args.ground.now.mem) c.args.ground.now.table c.args.world.now c.args.places.now c.args.cons.number r.loadable r.places r.in_range r.laid c.args.cons.car c.args.cons.cdr r.agrees r.filled (sym c.is_known.ensures ∙ c.if-is_known.true)

pub overflow_add-at : goal.overflow_add-at
overflow_add-at g c =
    let r = c.requires in
    let inside = cdr_inside (g.M.Memory.seen c.args.ground.now.mem) c.args.ground.now.table c.args.world.now c.args.places.now c.args.cons.number r.loadable r.places r.in_range r.laid c.args.cons.car c.args.cons.cdr r.agrees r.filled c.word_of.result c.word_of.ensures r.pair c.cons_at-at.result
    (stands g (goal.at.overflow_add-at g c).After-cons_at-at) in
    let small = c.args.ground.now.sound in
    omega arith

pub store-requires : goal.store-requires
store-requires g c =
    let r = c.requires in
    cdr_inside (g.M.Memory.seen c.args.ground.now.mem) c.args.ground.now.table c.args.world.now c.args.places.now c.args.cons.number r.loadable r.places r.in_range r.laid c.args.cons.car c.args.cons.cdr r.agrees r.filled c.word_of.result c.word_of.ensures r.pair c.cons_at-at.result
    (stands g (goal.at.store-requires g c).After-cons_at-at)

pub returns-clause-stays_filled : goal.returns-clause-stays_filled
returns-clause-stays_filled g c =
    let r = c.requires in
    let at = goal.at.returns-clause-stays_filled g c in
    on_ok_weaker c.store.result
    (λ stored. cdr_done (g.M.Memory.seen c.args.ground.now.mem) c.args.ground.now.table c.args.world.now c.args.places.now c.args.cons.number r.loadable r.places r.in_range r.laid c.args.cons.car c.args.cons.cdr r.agrees r.filled c.word_of.result c.word_of.ensures r.pair c.cons_at-at.result
    (stands g at.After-cons_at-at) _ c.with_cdr-second.result (coded g at.After-with_cdr-second) stored _ c.store.ensures.table)
    c.store.ensures.written

pub returns-clause-stays_laid : goal.returns-clause-stays_laid
returns-clause-stays_laid g c =
    let r = c.requires in
    let at = goal.at.returns-clause-stays_laid g c in
    on_ok_weaker c.store.result
    (cdr_done_laid (g.M.Memory.seen c.args.ground.now.mem) c.args.ground.now.table c.args.world.now c.args.places.now c.args.cons.number r.loadable r.places r.in_range r.laid c.args.cons.car c.args.cons.cdr r.agrees r.filled c.word_of.result c.word_of.ensures r.pair c.cons_at-at.result
    (stands g at.After-cons_at-at) _ c.with_cdr-second.result (coded g at.After-with_cdr-second))
    c.store.ensures.written

pub returns-clause-left : goal.returns-clause-left
returns-clause-left g c =
    let r = c.requires in
    on_err_weaker c.store.result
    (cdr_left (g.M.Memory.seen c.args.ground.now.mem) c.args.ground.now.table c.args.world.now c.args.places.now c.args.cons.number r.loadable r.places r.in_range r.laid c.args.cons.car c.args.cons.cdr r.agrees r.filled _ _ c.store.ensures.table)
    c.store.ensures.unchanged
