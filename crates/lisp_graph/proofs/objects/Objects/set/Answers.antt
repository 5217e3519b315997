use Rattle.std.proofs.Common.{List, set, ◌∙◌, ap, map, length}
use Rattle.std.proofs.lemmas.List.{map-set}
use Rattle.std.proofs.lemmas.Result.{err_from_is_err_and}
use Rattle.std.proofs.lemmas.List.Elements.{All-set}
use Rattle.lisp_graph.specs.declared.object.Object.{Object}
use Rattle.lisp_graph.specs.Objects.{IsCell, object_in}
use Rattle.lisp_graph.proofs.StoredObjects.{cells_stay, objects_stay}
use Rattle.lisp_graph.proofs.objects.Objects.set.Goals as goal

pub returns-in_err-cell-clause-err : goal.returns-in_err-cell-clause-err
returns-in_err-cell-clause-err c =
    let p = err_from_is_err_and c.from_residual.result c.from_residual.ensures.1 in
    rw p.1 (objects_stay _ _ c.self.inside.cells.items c.cell_of.ensures.grows c.self.invariant ∙ c.self.view_is)

pub invariant_of-self-2 : goal.invariant_of-self-2
invariant_of-self-2 c =
    let cells = c.self.inside.cells.items in
    let blocks = c.cell_of.new.blocks.items in
    All-set (IsCell (length blocks)) cells c.args.name c.in_ok-cell.cell c.in_ok-cell.ensures.sound
    (cells_stay c.self.inside.blocks.items blocks cells c.cell_of.ensures.grows c.self.invariant)

pub returns-clause-ok : goal.returns-clause-ok
returns-clause-ok c =
    let cells = c.self.inside.cells.items in
    let blocks = c.cell_of.new.blocks.items in
    map-set (object_in blocks) cells c.args.name c.in_ok-cell.cell
    ∙ ap (set (map (object_in blocks) cells) c.args.name) c.in_ok-cell.ensures.value
    ∙ ap (λ (objects : List Object). set objects c.args.name c.args.object)
    (objects_stay c.self.inside.blocks.items blocks cells c.cell_of.ensures.grows c.self.invariant ∙ c.self.view_is)
