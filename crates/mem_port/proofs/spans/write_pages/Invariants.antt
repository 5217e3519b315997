use Rattle.std.proofs.Common.{ℕ, ◌≡◌, ◌+◌, ◌/◌, ◌<◌, slice_index}
use Rattle.mem_port.proofs.spans.write_pages.Given as goal

-- so far the pages below the k-th are written
abbrev pub invariant-loop-k : goal.invariant-loop-k
invariant-loop-k l = record {
  before : (j : ℕ) → j < l.from → slice_index l.pages j ≡ slice_index l.fn.pages j;
  written : (j : ℕ) → j < l.k → slice_index l.pages (l.from + j) ≡ l.span.at / 256 + j;
}
