use Rattle.std.proofs.Common.{List, [], ◌∷◌, ◌++◌, ◌∙◌, ap, map, length}
use Rattle.std.proofs.lemmas.List.{map-append}
use Rattle.std.proofs.lemmas.Result.{err_from_is_err_and}
use Rattle.std.proofs.lemmas.List.Elements.{All-push}
use Rattle.lisp_graph.specs.declared.object.Object.{Object}
use Rattle.lisp_graph.specs.Objects.{IsCell, object_in}
use Rattle.lisp_graph.proofs.StoredObjects.{cells_stay, objects_stay}
use Rattle.lisp_graph.proofs.objects.Objects.push.Goals as goal

pub returns-in_err-cell-clause-err : goal.returns-in_err-cell-clause-err
returns-in_err-cell-clause-err c =
    let p = err_from_is_err_and c.from_residual.result c.from_residual.ensures.1 in
    rw p.1 (objects_stay _ _ c.self.inside.cells.items c.cell_of.ensures.grows c.self.invariant ∙ c.self.view_is)

pub returns-in_err-push-clause-err : goal.returns-in_err-push-clause-err
returns-in_err-push-clause-err c =
    let p = err_from_is_err_and c.from_residual-in_err-push.result c.from_residual-in_err-push.ensures.1 in
    rw (p.1, c.in_err-push.ensures.items)
    (objects_stay _ _ c.self.inside.cells.items c.cell_of.ensures.grows c.self.invariant ∙ c.self.view_is)

pub invariant_of-self-2 : goal.invariant_of-self-2
invariant_of-self-2 c =
    let cells = c.self.inside.cells.items in
    let blocks = c.cell_of.new.blocks.items in
    rw c.in_ok-push.ensures.items
    (All-push (IsCell (length blocks)) cells c.in_ok-cell.cell (cells_stay c.self.inside.blocks.items blocks cells c.cell_of.ensures.grows c.self.invariant) c.in_ok-cell.ensures.sound)

pub returns-clause-ok : goal.returns-clause-ok
returns-clause-ok c =
    let cells = c.self.inside.cells.items in
    let blocks = c.cell_of.new.blocks.items in
    rw c.in_ok-push.ensures.items
    (map-append (object_in blocks) cells (c.in_ok-cell.cell ∷ [])
    ∙ ap (λ (object : Object). map (object_in blocks) cells ++ object ∷ []) c.in_ok-cell.ensures.value
    ∙ ap (λ (objects : List Object). objects ++ c.args.object ∷ [])
    (objects_stay c.self.inside.blocks.items blocks cells c.cell_of.ensures.grows c.self.invariant ∙ c.self.view_is))
