use Rattle.std.proofs.Common.{◌≡◌, ◌<◌, ◌-◌, ℕ, List, true, false, length}
use Rattle.lisp_graph.specs.Graph.{object_at}
use Rattle.lisp_graph.specs.KeyedGraph.{is_cons, keyed}
use Rattle.lisp_graph.specs.World.{opening}
use Rattle.world_text.specs.Numbering.{Chained}
use Rattle.sexpr_print.specs.Places.{is_among}
use Rattle.sexpr_print.proofs.reaching.add_conses.Given as goal

abbrev pub invariant-loop-cdr : goal.invariant-loop-cdr
invariant-loop-cdr l =
    (l.reached.objects ≡ length l.world.objects)
    × (l.name < length l.world.objects)
    × (is_among l.reached.names l.name ≡ false)
    × (is_cons (object_at l.world.objects l.name).body ≡ true)
    × ((all : List ℕ) → Chained (keyed (opening l.world)) l.reached.names l.name all → Chained (keyed (opening l.world)) l.fn.reached.names l.fn.name all)

abbrev pub decreases-loop-cdr : goal.decreases-loop-cdr
decreases-loop-cdr l = length l.world.objects - length l.reached.names
