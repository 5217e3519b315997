-- One move of a page: out of its frame, into a frame, or to no place.
use Rattle.std.specs.Prelude.{ℕ, ◌≡◌, ◌≢◌, ◌/◌, ◌<◌, ◌≤◌, ◌⊎◌, ◌&&◌, Bool, not, eqb, nat_le, nat_lt, Some, List, [], ◌∷◌, ◌++◌, filter, length, drop, Contains}
use Rattle.frame_pool.specs.index_lists.Chains.{first_of}
use Rattle.store_word.specs.Words.{Parts, null_word}
use Rattle.store_word.specs.declared.sizes.TheConstants.{PAGE_WORDS}
use Rattle.mem_port.specs.Store.{StoresNothing}
use Rattle.mem_port.specs.Tags.{marks_of_tag}
use Rattle.page_map.specs.declared.place.PagePlace.TheVariants.{InFrame, Swapped}
use Rattle.page_map.specs.Map.{place_at}
use Rattle.frame_pool.specs.Pool.{frames_of}
use Rattle.paged_memory.specs.declared.pager.Pager.{Pager}
use Rattle.paged_memory.specs.Paging.{Paging, word_at, size_of, marks_of, store_of, resident_of, IsPaged}

-- the value of the parts
abbrev pub paging_of : Pager → Paging
paging_of p = record { pool = p.pool; places = p.places; rows = p.rows; levels = p.levels; top = p.top }

-- pages have moved: no word is stored, no page without marks gets any, and all holds as before
pub record Keeps (p : Paging) (stored : List Parts) (p' : Paging) (stored' : List Parts) : Type 0 where
  pub paged : IsPaged p' stored'
  pub size : size_of p' ≡ size_of p
  pub frames : frames_of p'.pool ≡ frames_of p.pool
  pub stays : StoresNothing (store_of p stored) (store_of p' stored')

-- the least recently used page was evicted
pub record GoesOut (p p' : Paging) (page : ℕ) : Type 0 where
  pub first : first_of (resident_of p) ≡ Some page
  pub order : resident_of p' ≡ drop 1 (resident_of p)
  pub swapped : place_at p'.places page ≡ Swapped
  pub places : (q : ℕ) → q ≢ page → place_at p'.places q ≡ place_at p.places q
  pub marks : (q : ℕ) → q ≢ page → marks_of p' q ≡ marks_of p q

-- a frame is free: one was, or the least recently used page was evicted
abbrev pub HasRoom : Paging → Paging → Type 0
HasRoom p p' =
    ((length (resident_of p) < frames_of p.pool) × (p' ≡ p))
    ⊎ ((frames_of p.pool ≤ length (resident_of p)) × ((page : ℕ) × GoesOut p p' page))

-- a page was brought into a frame, with the tag if and only if it had marks
pub record ComesIn (p p' : Paging) (page frame : ℕ) : Type 0 where
  pub absent : Contains (resident_of p) page → ⊥
  pub there : place_at p'.places page ≡ InFrame frame
  pub order : resident_of p' ≡ resident_of p ++ page ∷ []
  pub tag : marks_of p' page ≡ marks_of_tag p.top (not (eqb (marks_of p page) 0))
  pub places : (q : ℕ) → q ≢ page → place_at p'.places q ≡ place_at p.places q
  pub marks : (q : ℕ) → q ≢ page → marks_of p' q ≡ marks_of p q

-- whether a page isn't one of those from one up to another
abbrev pub is_outside : ℕ → ℕ → ℕ → Bool
is_outside from to page = not (nat_le from page && nat_lt page to)

-- the pages from one up to another are empty, and the others are unchanged
pub record Emptied (p : Paging) (stored : List Parts) (p' : Paging) (from to : ℕ) : Type 0 where
  pub paged : IsPaged p' stored
  pub size : size_of p' ≡ size_of p
  pub frames : frames_of p'.pool ≡ frames_of p.pool
  pub levels : p'.levels ≡ p.levels
  pub top : p'.top ≡ p.top
  pub order : resident_of p' ≡ filter (is_outside from to) (resident_of p)
  pub null : (at : ℕ) → from ≤ at / PAGE_WORDS → at / PAGE_WORDS < to → word_at p' stored at ≡ null_word
  pub others : (at : ℕ) → (from ≤ at / PAGE_WORDS → at / PAGE_WORDS < to → ⊥) → word_at p' stored at ≡ word_at p stored at
  pub unmarked : (page : ℕ) → from ≤ page → page < to → marks_of p' page ≡ 0
  pub marks : (page : ℕ) → (from ≤ page → page < to → ⊥) → marks_of p' page ≡ marks_of p page
