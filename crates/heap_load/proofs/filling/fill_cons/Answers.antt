use Rattle.std.proofs.Common.{◌∙◌, sym, ap}
use Rattle.heap_load.specs.Places.{PlaceView}
use Rattle.heap_load.proofs.ObjectParts.{place_there}
use Rattle.heap_load.proofs.filling.fill_cons.Goals as goal

pub fill_cell-requires-clause-cell : goal.fill_cell-requires-clause-cell
fill_cell-requires-clause-cell g c =
    ap (λ (p : PlaceView). p.cell) (sym (c.index-places-number.is ∙ place_there c.args.places.now c.args.cons.number c.index-places-number.result c.args.world.now.objects c.requires.places c.requires.in_range))
    ∙ sym c.is_cell.ensures ∙ c.if-is_cell.true

pub fill_car-requires-clause-pair : goal.fill_car-requires-clause-pair
fill_car-requires-clause-pair g c =
    ap (λ (p : PlaceView). p.cell) (sym (c.index-places-number.is ∙ place_there c.args.places.now c.args.cons.number c.index-places-number.result c.args.world.now.objects c.requires.places c.requires.in_range))
    ∙ sym c.is_cell.ensures ∙ c.if-is_cell.false

pub fill_cdr-requires-clause-pair : goal.fill_cdr-requires-clause-pair
fill_cdr-requires-clause-pair g c =
    ap (λ (p : PlaceView). p.cell) (sym (c.index-places-number.is ∙ place_there c.args.places.now c.args.cons.number c.index-places-number.result c.args.world.now.objects c.requires.places c.requires.in_range))
    ∙ sym c.is_cell.ensures ∙ c.if-is_cell.false
