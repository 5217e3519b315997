use Rattle.std.proofs.Common.{◌≡◌, take}
use Rattle.lisp_graph.proofs.graph_store.map_of.Given as goal

abbrev pub invariant-loop-name : goal.invariant-loop-name
invariant-loop-name l = l.map ≡ take l.name l.objects
