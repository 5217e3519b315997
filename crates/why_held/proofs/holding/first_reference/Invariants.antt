use Rattle.std.proofs.Common.{◌≡◌, ◌<◌, ◌-◌, ℕ, false, length}
use Rattle.lisp_graph.specs.Graph.{is_ref, value_at}
use Rattle.why_held.proofs.holding.first_reference.Given as goal

abbrev pub invariant-loop-place : goal.invariant-loop-place
invariant-loop-place l = (l.place < length l.values) × ((less : ℕ) → less < l.place → is_ref l.object (value_at l.values less) ≡ false)

abbrev pub decreases-loop-place : goal.decreases-loop-place
decreases-loop-place l = length l.values - l.place
