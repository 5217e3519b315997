use Rattle.std.proofs.Common.{◌≡◌, ◌-◌, ℕ, List, length}
use Rattle.lisp_graph.specs.KeyedGraph.{keyed}
use Rattle.lisp_graph.specs.World.{opening}
use Rattle.world_text.specs.Numbering.{Walked}
use Rattle.sexpr_print.proofs.reaching.visit_objects.Given as goal

abbrev pub invariant-loop-name : goal.invariant-loop-name
invariant-loop-name l =
    (l.reached.objects ≡ length l.world.objects)
    × ((all : List ℕ) → Walked (keyed (opening l.world)) l.reached.names l.place all → Walked (keyed (opening l.world)) l.fn.reached.names 0 all)

abbrev pub decreases-loop-name : goal.decreases-loop-name
decreases-loop-name l = length l.world.objects - l.place
