-- The lowest page of some kind that isn't below a given page.
use Rattle.std.specs.Prelude.{ℕ, ◌≡◌, ◌<◌, ◌≤◌, true, min, Option, Some, None, Contains}
use Rattle.frame_pool.specs.Pool.{Pool, page_at, tag_of}

-- the lower of two pages that are there
abbrev pub lower_of : Option ℕ → Option ℕ → Option ℕ
lower_of None two = two
lower_of (Some a) None = Some a
lower_of (Some a) (Some b) = Some (min a b)

-- the lowest page, not below `from`, of which P holds; None if there is none
abbrev pub IsFirst : (ℕ → Type 0) → ℕ → Option ℕ → Type 0
IsFirst P from None = (page : ℕ) → from ≤ page → P page → ⊥
IsFirst P from (Some page) = (from ≤ page) × P page × ((other : ℕ) → from ≤ other → other < page → P other → ⊥)

-- a page is in a frame that has the tag
abbrev pub IsTagged : Pool → ℕ → ℕ → Type 0
IsTagged pool frame page = Contains pool.used frame × (tag_of pool frame ≡ true) × (page_at pool frame ≡ page)

-- a page is in one of the first frames, which has the tag
abbrev pub HasTag : Pool → ℕ → ℕ → Type 0
HasTag pool frames page = (frame : ℕ) × ((frame < frames) × IsTagged pool frame page)
