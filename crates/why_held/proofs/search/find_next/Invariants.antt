use Rattle.std.proofs.Common.{◌≤◌, ◌-◌, drop, take}
use Rattle.why_held.specs.Search.{Finds, all_parts}
use Rattle.why_held.proofs.search.find_next.Given as goal

abbrev pub invariant-loop-place : goal.invariant-loop-place
invariant-loop-place l = (l.start ≤ l.place) × (l.place ≤ l.end) × Finds l.depth (all_parts l.objects (take (l.place - l.start) (drop l.start l.fn.search.found))) l.fn.search l.search

abbrev pub decreases-loop-place : goal.decreases-loop-place
decreases-loop-place l = l.end - l.place
