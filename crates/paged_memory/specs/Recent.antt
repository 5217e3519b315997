-- The last pages of the order of use, which stay resident while others are brought in.
use Rattle.std.specs.Prelude.{ℕ, ◌≡◌, ◌≤◌, List, ◌++◌, length, Contains}

-- a page is among the last n
abbrev pub IsRecent : ℕ → List ℕ → ℕ → Type 0
IsRecent n order page = (before : List ℕ) × (last : List ℕ) × ((order ≡ before ++ last) × (length last ≤ n) × Contains last page)
