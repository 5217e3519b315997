use Rattle.std.proofs.Common.{◌-◌, take, length}
use Rattle.std.specs.Prelude.{flat_map}
use Rattle.lisp_graph.specs.Graph.{object_at}
use Rattle.sexpr_print.specs.Places.{parts}
use Rattle.sexpr_print.specs.Sharing.{Counts}
use Rattle.sexpr_print.proofs.sharing.count_objects.Given as goal

abbrev pub invariant-loop-name : goal.invariant-loop-name
invariant-loop-name l = Counts (flat_map (λ name. parts (object_at l.objects name).body) (take l.number l.names.names)) l.fn.counts l.counts

abbrev pub decreases-loop-name : goal.decreases-loop-name
decreases-loop-name l = length l.names.names - l.number
