use Rattle.std.proofs.Common.{◌≡◌, ◌+◌, ◌<◌, ◌≤◌, ℕ, true}
use Rattle.lisp_graph.specs.Graph.{is_ref, object_at}
use Rattle.lisp_graph.specs.Groups.{is_cell}
use Rattle.heap_load.proofs.groups.skip_links.Given as goal

-- each object so far refers to the next
abbrev pub invariant-loop-i : goal.invariant-loop-i
invariant-loop-i l = (k : ℕ) → l.at ≤ k → k < l.i → is_cell l.area (is_ref (k + 1)) (object_at l.objects k) ≡ true
