use Rattle.std.proofs.Common.{◌≡◌, ◌∙◌, ap, sym}
use Rattle.std.proofs.lemmas.Result.{on_err_weaker, on_ok_weaker}
use Rattle.store_word.specs.Words.{Parts}
use Rattle.store_word.specs.declared.word.CdrCode.{CdrCode}
use Rattle.store_word.specs.declared.word.Content.TheVariants.{List as ListAt}
use Rattle.heap_load.specs.Places.{PlaceView, cell_code_of, place_at}
use Rattle.heap_load.proofs.ObjectWords.{car_done_laid, car_inside, car_left, cell_done, cell_has}
use Rattle.heap_load.proofs.ObjectParts.{place_there}
use Rattle.heap_load.proofs.filling.fill_cell.Given.{Over}
use Rattle.heap_load.proofs.filling.fill_cell.Goals.{After-cons_at-at, After-with_cdr-first}
use Rattle.heap_load.proofs.filling.fill_cell.Goals as goal

-- the place is that of the cell
stands : (g : Over) (c : After-cons_at-at g) → (place_at c.args.places.now c.args.cons.number).word.content ≡ ListAt c.cons_at-at.result
stands g c = ap (λ (p : PlaceView). p.word.content) (sym (c.index-places-number.is ∙ place_there c.args.places.now c.args.cons.number c.index-places-number.result c.args.world.now.objects c.requires.places c.requires.in_range)) ∙ c.cons_at-at.ensures

-- the word has the cdr code of the cdr
coded : (g : Over) (c : After-with_cdr-first g) → c.with_cdr-first.result ≡ record (c.word_of.result) { cdr = cell_code_of c.args.cons.cdr }
coded g c = c.with_cdr-first.ensures ∙ ap (λ (k : CdrCode). let p : Parts = record (c.word_of.result) { cdr = k } in p) c.cell_code.ensures

pub store-requires : goal.store-requires
store-requires g c =
    let r = c.requires in
    car_inside (g.M.Memory.seen c.args.ground.now.mem) c.args.ground.now.table c.args.world.now c.args.places.now c.args.cons.number r.loadable r.places r.in_range r.laid c.args.cons.car c.args.cons.cdr r.agrees r.filled c.cons_at-at.result
    (stands g (goal.at.store-requires g c).After-cons_at-at)

pub returns-clause-stays_filled : goal.returns-clause-stays_filled
returns-clause-stays_filled g c =
    let r = c.requires in
    let at = goal.at.returns-clause-stays_filled g c in
    let is = stands g at.After-cons_at-at in
    on_ok_weaker c.store.result
    (λ stored. cell_done (g.M.Memory.seen c.args.ground.now.mem) c.args.ground.now.table c.args.world.now c.args.places.now c.args.cons.number r.loadable r.places r.in_range r.laid c.args.cons.car c.args.cons.cdr r.agrees r.filled c.cons_at-at.result is (cell_code_of c.args.cons.cdr)
    (cell_has (g.M.Memory.seen c.args.ground.now.mem) c.args.ground.now.table c.args.world.now c.args.places.now c.args.cons.number r.loadable r.places r.in_range r.laid c.args.cons.car c.args.cons.cdr r.agrees r.filled c.cons_at-at.result is r.cell)
    c.word_of.result c.word_of.ensures _ c.with_cdr-first.result (coded g at.After-with_cdr-first) stored r.cell _ c.store.ensures.table)
    c.store.ensures.written

pub returns-clause-stays_laid : goal.returns-clause-stays_laid
returns-clause-stays_laid g c =
    let r = c.requires in
    let at = goal.at.returns-clause-stays_laid g c in
    let is = stands g at.After-cons_at-at in
    on_ok_weaker c.store.result
    (car_done_laid (g.M.Memory.seen c.args.ground.now.mem) c.args.ground.now.table c.args.world.now c.args.places.now c.args.cons.number r.loadable r.places r.in_range r.laid c.args.cons.car c.args.cons.cdr r.agrees r.filled c.cons_at-at.result is (cell_code_of c.args.cons.cdr)
    (cell_has (g.M.Memory.seen c.args.ground.now.mem) c.args.ground.now.table c.args.world.now c.args.places.now c.args.cons.number r.loadable r.places r.in_range r.laid c.args.cons.car c.args.cons.cdr r.agrees r.filled c.cons_at-at.result is r.cell)
    c.word_of.result c.word_of.ensures _ c.with_cdr-first.result (coded g at.After-with_cdr-first))
    c.store.ensures.written

pub returns-clause-left : goal.returns-clause-left
returns-clause-left g c =
    let r = c.requires in
    on_err_weaker c.store.result
    (car_left (g.M.Memory.seen c.args.ground.now.mem) c.args.ground.now.table c.args.world.now c.args.places.now c.args.cons.number r.loadable r.places r.in_range r.laid c.args.cons.car c.args.cons.cdr r.agrees r.filled _ _ c.store.ensures.table)
    c.store.ensures.unchanged
