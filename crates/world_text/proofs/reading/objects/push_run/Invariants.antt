use Rattle.std.proofs.Common.{◌≡◌, ◌++◌, List, length}
use Rattle.lisp_graph.specs.declared.object.Object.{Object}
use Rattle.lisp_graph.specs.Effect.{list_from}
use Rattle.world_text.proofs.reading.objects.push_run.Given as goal

abbrev pub invariant-loop-car : goal.invariant-loop-car
invariant-loop-car l =
    (l.objects ++ list_from l.area (length l.objects) l.rest ≡ l.fn.objects ++ list_from l.area (length l.fn.objects) l.cars)
    × ((part : List Object) × (l.objects ≡ l.fn.objects ++ part))

abbrev pub decreases-loop-car : goal.decreases-loop-car
decreases-loop-car l = length l.rest
