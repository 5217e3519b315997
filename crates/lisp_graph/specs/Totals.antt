-- Sums over all numbers below a bound.
use Rattle.std.specs.Prelude.{ℕ, zero, suc, ◌+◌, Bool, if◌then◌else◌}

-- the sum of f over the numbers below n
unfoldable pub total : (ℕ → ℕ) → ℕ → ℕ
total f zero = 0
total f (suc n) = f n + total f n

-- a number if the test passes, else 0
abbrev pub if_true : Bool → ℕ → ℕ
if_true b n = if b then n else 0
