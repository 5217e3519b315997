use Rattle.std.proofs.Common.{◌∙◌, ap}
use Rattle.std.specs.List.{slice_get}
use Rattle.lisp_graph.proofs.NumberedMaps.{lookup-numbered}
use Rattle.lisp_graph.proofs.object_map.ObjectMap.get.Goals as goal

pub returns : goal.returns
returns c =
    c.get.ensures.value ∙ lookup-numbered c.self.inside.map.entries c.args.name c.self.invariant
    ∙ ap (λ (xs : Rattle.std.proofs.Common.List _). slice_get xs c.args.name) c.self.view_is
