-- Sums over the slots of one area.
use Rattle.std.specs.Prelude.{ℕ, ◌+◌, ◌*◌}
use Rattle.lisp_graph.specs.Totals.{total}

-- the sum of f over the h numbers from a * h on
abbrev pub block : (ℕ → ℕ) → ℕ → ℕ → ℕ
block f h a = total (λ l. f (a * h + l)) h

-- the sum of f over the live class and the old class of a slot
abbrev pub both : (ℕ → ℕ) → ℕ → ℕ
both f slot = f (2 * slot) + f (2 * slot + 1)
