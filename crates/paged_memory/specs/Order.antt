-- What a use of a page, an eviction and a swap error do to the order of use, to the places and to the marks.
use Rattle.std.specs.Prelude.{ℕ, ◌≡◌, ◌≢◌, ◌<◌, ◌≤◌, ◌⊎◌, ◌||◌, Bool, false, not, eqb, nat_le, if◌then◌else◌, List, [], ◌∷◌, ◌++◌, length, slice_index, take, drop, Contains}
use Rattle.frame_pool.specs.index_lists.Chains.{without}
use Rattle.mem_port.specs.Tags.{marks_of_tag}
use Rattle.outer_ports.specs.Pages.{Calls, with_read, with_write}
use Rattle.page_map.specs.declared.place.PagePlace.{PagePlace}
use Rattle.page_map.specs.declared.place.PagePlace.TheVariants.{Empty, InFrame, Swapped}
use Rattle.page_map.specs.Map.{place_at}
use Rattle.frame_pool.specs.Pool.{frames_of}
use Rattle.paged_memory.specs.Paging.{Paging, marks_of, resident_of}

-- the order once a page was used: a resident page is now the last; another one is added as the last, and the first is evicted if no frame is free
pub record IsUsed (frames : ℕ) (old new : List ℕ) (page : ℕ) : Type 0 where
  pub again : Contains old page → new ≡ without page old ++ page ∷ []
  pub room : (Contains old page → ⊥) → length old < frames → new ≡ old ++ page ∷ []
  pub full : (Contains old page → ⊥) → frames ≤ length old → new ≡ drop 1 old ++ page ∷ []

-- a page was removed from its frame
abbrev pub HasLeft : Paging → Paging → ℕ → Type 0
HasLeft old new page = Contains (resident_of old) page × (Contains (resident_of new) page → ⊥)

-- pages were evicted: each of them is swapped, and the marks of every other page are unchanged
pub record Evicts (old new : Paging) : Type 0 where
  pub frames : frames_of new.pool ≡ frames_of old.pool
  pub gone : (page : ℕ) → HasLeft old new page → place_at new.places page ≡ Swapped
  pub others : (page : ℕ) → (HasLeft old new page → ⊥) → marks_of new page ≡ marks_of old page

-- a page was used, and perhaps an address of level 1 or more stored on it: it has the tag if and only if there was one or it had marks; a page that was evicted is
-- swapped, and the marks of every other page are unchanged
pub record Uses (old new : Paging) (page : ℕ) (ephemeral : Bool) : Type 0 where
  pub frames : frames_of new.pool ≡ frames_of old.pool
  pub order : IsUsed (frames_of old.pool) (resident_of old) (resident_of new) page
  pub tag : marks_of new page ≡ marks_of_tag old.top (ephemeral || not (eqb (marks_of old page) 0))
  pub gone : (other : ℕ) → HasLeft old new other → place_at new.places other ≡ Swapped
  pub others : (other : ℕ) → other ≢ page → (HasLeft old new other → ⊥) → marks_of new other ≡ marks_of old other

-- the page calls once a frame is free: one page was written if none was free before
abbrev pub calls_for_room : Paging → Calls → Calls
calls_for_room p calls = if nat_le (frames_of p.pool) (length (resident_of p)) then with_write calls else calls

-- the page calls that bring a page from its place into a frame: none if it is in one; else those for room, and one page is read if it is on the device
abbrev pub calls_from : Paging → Calls → PagePlace → Calls
calls_from p calls (InFrame frame) = calls
calls_from p calls Empty = calls_for_room p calls
calls_from p calls Swapped = with_read (calls_for_room p calls)

-- the page calls of a use of a page
abbrev pub calls_to_use : Paging → ℕ → Calls → Calls
calls_to_use p page calls = calls_from p calls (place_at p.places page)

-- the page calls of a use of a page that ended in a swap error: all up to the one that failed
abbrev pub StopsCalls : Paging → ℕ → Calls → Calls → Type 0
StopsCalls p page before now = (now ≡ calls_for_room p before) ⊎ (now ≡ calls_to_use p page before)

-- pages were used one after another, with these page calls
abbrev pub UsesEach : Paging → Calls → Paging → Calls → List ℕ → Type 0
UsesEach old before new now [] = (old ≡ new) × (before ≡ now)
UsesEach old before new now (page ∷ pages) =
    (mid : Paging) × (between : Calls) × (Uses old mid page false × (between ≡ calls_to_use old page before) × UsesEach mid between new now pages)

-- a swap error ended the use of a page: nothing has moved, or the first page was evicted because no frame was free
pub record Stops (old new : Paging) : Type 0 where
  pub order : (resident_of new ≡ resident_of old) ⊎ ((frames_of old.pool ≤ length (resident_of old)) × (resident_of new ≡ drop 1 (resident_of old)))
  pub out : Evicts old new

-- a swap error ended the use of one of these pages, which was in no frame
abbrev pub StopsAmong : Paging → Calls → Paging → Calls → List ℕ → Type 0
StopsAmong old before new now pages =
    (done : ℕ) × (mid : Paging) × (between : Calls)
    × ((done < length pages)
    × UsesEach old before mid between (take done pages)
    × (Contains (resident_of mid) (slice_index pages done) → ⊥)
    × Stops mid new
    × StopsCalls mid (slice_index pages done) between now)

-- the order once a resident page was used
abbrev pub latest : ℕ → List ℕ → List ℕ
latest page order = without page order ++ page ∷ []

-- words were stored on a resident page, with this order of use after it; no page has moved, and no other page has got or lost marks
pub record StoresOn (old new : Paging) (page : ℕ) (used : List ℕ) : Type 0 where
  pub frames : frames_of new.pool ≡ frames_of old.pool
  pub order : resident_of new ≡ used
  pub places : new.places ≡ old.places
  pub others : (other : ℕ) → other ≢ page → marks_of new other ≡ marks_of old other
