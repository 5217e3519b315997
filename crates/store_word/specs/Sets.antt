-- Sets of levels: level l, 1 or more, is the bit l - 1 of a number.
use Rattle.std.specs.Prelude.{ℕ, ◌≡◌, ◌≢◌, ◌≤◌, ◌<◌, ◌-◌, ◌^◌, ◌↔◌, ◌⊎◌}
use Rattle.std.specs.Int.{bit_at}
use Rattle.std.specs.Int.RustNames.{bit_and, bit_or}
use Rattle.bitflags.specs.Sets.{without}

-- the level, 1 or more, is in the set
abbrev pub HasLevel : ℕ → ℕ → Type 0
HasLevel set level = bit_at set (level - 1) ≡ 1

-- two sets have a level in common
abbrev pub Meets : ℕ → ℕ → Type 0
Meets set other = bit_and set other ≢ 0

-- The numbers of the calls of `Levels` are those of sets: which levels each has, and what the tests of two sets mean.
pub record CallsAreOfSets : Type 0 where
  pub empty : (l : ℕ) → ¬ HasLevel 0 l
  pub one : (k l : ℕ) → 1 ≤ k → 1 ≤ l → HasLevel (2 ^ (k - 1)) l ↔ (l ≡ k)
  pub up_to : (k l : ℕ) → 1 ≤ l → HasLevel (2 ^ k - 1) l ↔ (l ≤ k)
  pub union : (a b l : ℕ) → HasLevel (bit_or a b) l ↔ (HasLevel a l ⊎ HasLevel b l)
  pub remove : (a b l : ℕ) → b < 2 ^ 8 → l ≤ 8 → 0 < l → HasLevel (without 8 a b) l ↔ (HasLevel a l × ¬ HasLevel b l)
  pub contains : (a b : ℕ) → (bit_and a b ≡ b) ↔ ((l : ℕ) → HasLevel b l → HasLevel a l)
  pub intersects : (a b l : ℕ) → HasLevel a l → HasLevel b l → Meets a b
  pub apart : (a b : ℕ) → (bit_and a b ≡ 0) ↔ ((l : ℕ) → HasLevel a l → ¬ HasLevel b l)
