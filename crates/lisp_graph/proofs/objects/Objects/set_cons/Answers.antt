use Rattle.std.proofs.Common.{List, set, ◌∙◌, ap, map}
use Rattle.std.proofs.lemmas.List.{map-set}
use Rattle.lisp_graph.specs.declared.object.Object.{Object}
use Rattle.lisp_graph.specs.Objects.{cons_object, object_in}
use Rattle.lisp_graph.proofs.objects.Objects.set_cons.Goals as goal

pub returns : goal.returns
returns c =
    let a = c.args in
    let blocks = c.self.inside.blocks.items in
    let cells = c.self.inside.cells.items in
    map-set (object_in blocks) cells a.name c.cons_cell.result
    ∙ ap (set (map (object_in blocks) cells) a.name) (c.cons_cell.ensures.value blocks)
    ∙ ap (λ (objects : List Object). set objects a.name (cons_object a.area a.charge a.car a.cdr)) c.self.view_is
