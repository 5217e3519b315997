use Rattle.std.proofs.Common.{◌≡◌, ◌∙◌, ap, sym}
use Rattle.std.proofs.lemmas.Result.{on_err_weaker, on_ok_weaker}
use Rattle.store_word.specs.declared.word.CdrCode.TheVariants.{Normal}
use Rattle.store_word.specs.declared.word.Content.TheVariants.{List as ListAt}
use Rattle.heap_load.specs.Places.{PlaceView, place_at}
use Rattle.heap_load.proofs.ObjectWords.{car_done, car_done_laid, car_given, car_inside, car_left, pair_has}
use Rattle.heap_load.proofs.ObjectParts.{place_there}
use Rattle.heap_load.proofs.filling.fill_car.Given.{Over}
use Rattle.heap_load.proofs.filling.fill_car.Goals.{After-cons_at-at}
use Rattle.heap_load.proofs.filling.fill_car.Goals as goal

-- the place is that of the pair
stands : (g : Over) (c : After-cons_at-at g) → (place_at c.args.places.now c.args.cons.number).word.content ≡ ListAt c.cons_at-at.result
stands g c = ap (λ (p : PlaceView). p.word.content) (sym (c.index-places-number.is ∙ place_there c.args.places.now c.args.cons.number c.index-places-number.result c.args.world.now.objects c.requires.places c.requires.in_range)) ∙ c.cons_at-at.ensures

pub returns-then-is_known-clause-stays_filled : goal.returns-then-is_known-clause-stays_filled
returns-then-is_known-clause-stays_filled g c =
    let r = c.requires in
    car_given (g.M.Memory.seen c.args.ground.now.mem) c.args.ground.now.table c.args.world.now c.args.places.now c.args.cons.number r.loadable r.places r.in_range r.laid c.args.cons.car c.args.cons.cdr r.agrees r.filled r.pair (sym c.is_known.ensures ∙ c.if-is_known.true)

pub store-requires : goal.store-requires
store-requires g c =
    let r = c.requires in
    car_inside (g.M.Memory.seen c.args.ground.now.mem) c.args.ground.now.table c.args.world.now c.args.places.now c.args.cons.number r.loadable r.places r.in_range r.laid c.args.cons.car c.args.cons.cdr r.agrees r.filled c.cons_at-at.result
    (stands g (goal.at.store-requires g c).After-cons_at-at)

pub returns-clause-stays_filled : goal.returns-clause-stays_filled
returns-clause-stays_filled g c =
    let r = c.requires in
    let is = stands g (goal.at.returns-clause-stays_filled g c).After-cons_at-at in
    on_ok_weaker c.store.result
    (λ stored. car_done (g.M.Memory.seen c.args.ground.now.mem) c.args.ground.now.table c.args.world.now c.args.places.now c.args.cons.number r.loadable r.places r.in_range r.laid c.args.cons.car c.args.cons.cdr r.agrees r.filled c.cons_at-at.result is Normal
    (pair_has (g.M.Memory.seen c.args.ground.now.mem) c.args.ground.now.table c.args.world.now c.args.places.now c.args.cons.number r.loadable r.places r.in_range r.laid c.args.cons.car c.args.cons.cdr r.agrees r.filled c.cons_at-at.result is r.pair)
    c.word_of.result c.word_of.ensures _ c.with_cdr-first.result c.with_cdr-first.ensures stored r.pair _ c.store.ensures.table)
    c.store.ensures.written

pub returns-clause-stays_laid : goal.returns-clause-stays_laid
returns-clause-stays_laid g c =
    let r = c.requires in
    let is = stands g (goal.at.returns-clause-stays_laid g c).After-cons_at-at in
    on_ok_weaker c.store.result
    (car_done_laid (g.M.Memory.seen c.args.ground.now.mem) c.args.ground.now.table c.args.world.now c.args.places.now c.args.cons.number r.loadable r.places r.in_range r.laid c.args.cons.car c.args.cons.cdr r.agrees r.filled c.cons_at-at.result is Normal
    (pair_has (g.M.Memory.seen c.args.ground.now.mem) c.args.ground.now.table c.args.world.now c.args.places.now c.args.cons.number r.loadable r.places r.in_range r.laid c.args.cons.car c.args.cons.cdr r.agrees r.filled c.cons_at-at.result is r.pair)
    c.word_of.result c.word_of.ensures _ c.with_cdr-first.result c.with_cdr-first.ensures)
    c.store.ensures.written

pub returns-clause-left : goal.returns-clause-left
returns-clause-left g c =
    let r = c.requires in
    on_err_weaker c.store.result
    (car_left (g.M.Memory.seen c.args.ground.now.mem) c.args.ground.now.table c.args.world.now c.args.places.now c.args.cons.number r.loadable r.places r.in_range r.laid c.args.cons.car c.args.cons.cdr r.agrees r.filled _ _ c.store.ensures.table)
    c.store.ensures.unchanged
