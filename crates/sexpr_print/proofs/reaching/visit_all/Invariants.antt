use Rattle.std.proofs.Common.{◌≡◌, map, take}
use Rattle.lisp_graph.specs.KeyedGraph.{keyed, keyed_value}
use Rattle.lisp_graph.specs.World.{opening}
use Rattle.world_text.specs.Numbering.{AllVisited}
use Rattle.sexpr_print.proofs.reaching.visit_all.Given as goal

abbrev pub invariant-loop-value : goal.invariant-loop-value
invariant-loop-value l =
    (l.reached.objects ≡ l.fn.reached.objects)
    × AllVisited (keyed (opening l.world)) l.fn.reached.names (map (keyed_value l.world.objects) (take l.value-index l.values)) l.reached.names
