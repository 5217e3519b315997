-- What contracts see of a set of pages: the number that all pages are below, and the pages of the
-- set, ascending.
use Rattle.std.specs.Prelude.{◌≡◌, ◌≢◌, ℕ, ◌<◌, ◌≤◌, List, [], ◌∷◌, Contains, ◌↔◌, ◌⊎◌}

pub record PageList : Type 0 where
  pub count : ℕ
  pub pages : List ℕ

-- each is below the next
abbrev pub IsAscending : List ℕ → Type 0
IsAscending [] = Unit {0}
IsAscending (x ∷ []) = Unit {0}
IsAscending (x ∷ y ∷ ys) = (x < y) × IsAscending (y ∷ ys)

-- the set has the pages of another, and all pages from one to another too
pub record Adds (old new : PageList) (from to : ℕ) : Type 0 where
  pub count : new.count ≡ old.count
  pub ascending : IsAscending new.pages
  pub members : (page : ℕ) → Contains new.pages page ↔ (Contains old.pages page ⊎ ((from ≤ page) × (page ≤ to)))

-- the set has the pages of another, except one
pub record Drops (old new : PageList) (gone : ℕ) : Type 0 where
  pub count : new.count ≡ old.count
  pub ascending : IsAscending new.pages
  pub members : (page : ℕ) → Contains new.pages page ↔ (Contains old.pages page × (page ≢ gone))
