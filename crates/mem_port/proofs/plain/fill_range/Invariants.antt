use Rattle.std.proofs.Common.{ℕ, ◌≡◌, ◌<◌, ◌≤◌, slice_get, Some}
use Rattle.mem_port.proofs.plain.fill_range.Given as goal

abbrev pub invariant-loop-i : goal.invariant-loop-i
invariant-loop-i g l = record {
  below : (k : ℕ) → k < l.from → slice_get l.xs k ≡ slice_get l.fn.xs k;
  filled : (k : ℕ) → l.from ≤ k → k < l.i → slice_get l.xs k ≡ Some l.value;
  above : (k : ℕ) → l.i ≤ k → slice_get l.xs k ≡ slice_get l.fn.xs k;
}
