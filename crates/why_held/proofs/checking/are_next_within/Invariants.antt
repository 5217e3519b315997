use Rattle.std.proofs.Common.{ℕ, ◌<◌, ◌-◌, length}
use Rattle.why_held.specs.Search.{IsNextWithin}
use Rattle.why_held.proofs.checking.are_next_within.Given as goal

abbrev pub invariant-loop-from : goal.invariant-loop-from
invariant-loop-from l = (from : ℕ) → from < l.from → IsNextWithin l.objects l.depths from

abbrev pub decreases-loop-from : goal.decreases-loop-from
decreases-loop-from l = length l.objects - l.from
