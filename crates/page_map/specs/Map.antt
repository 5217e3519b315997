-- What callers see: the place of each page, and the pages of each bucket.
use Rattle.std.specs.Prelude.{ℕ, ◌≡◌, ◌≢◌, ◌+◌, ◌/◌, ◌%◌, ◌↔◌, Bool, false, true, eqb, List, [], ◌∷◌, ◌++◌, length, replicate, slice_set, slice_index_or, Contains}
use Rattle.std.specs.List.{IsDistinct}
use Rattle.index_lists.specs.Chains.{without}
use Rattle.page_map.specs.declared.place.PagePlace.{PagePlace}
use Rattle.page_map.specs.declared.place.PagePlace.TheVariants.{Empty, InFrame, Swapped}

-- the place of each page, and the pages of each bucket in the order in which they entered it
pub record Map : Type 0 where
  pub places : List PagePlace
  pub buckets : List (List ℕ)

-- this many pages, all empty
abbrev pub fresh_map : ℕ → Map
fresh_map pages = record { places = replicate pages Empty; buckets = replicate (1 + pages / 4) [] }

-- whether a place is no place
abbrev pub is_empty : PagePlace → Bool
is_empty Empty = true
is_empty (InFrame frame) = false
is_empty Swapped = false

-- the place of a page; a page past the last is empty
abbrev pub place_at : Map → ℕ → PagePlace
place_at m page = slice_index_or m.places page Empty

-- the bucket of a page
abbrev pub bucket_of : Map → ℕ → ℕ
bucket_of m page = page % length m.buckets

-- the pages of a bucket
abbrev pub pages_in : Map → ℕ → List ℕ
pages_in m bucket = slice_index_or m.buckets bucket []

-- a page enters its bucket if it was empty (the first test) and isn't any longer (the second); if it becomes empty, it is removed
abbrev pub bucket_after : Bool → Bool → ℕ → List ℕ → List ℕ
bucket_after true true page pages = pages
bucket_after true false page pages = pages ++ page ∷ []
bucket_after false true page pages = without page pages
bucket_after false false page pages = pages

-- the map with one page at another place; no other page or bucket changes
abbrev pub placed : Map → ℕ → PagePlace → Map
placed m page place =
    let bucket = bucket_of m page in
    record {
      places = slice_set m.places page place;
      buckets = slice_set m.buckets bucket (bucket_after (is_empty (place_at m page)) (is_empty place) page (pages_in m bucket));
    }

-- the pages of each bucket are exactly those of its number that aren't empty, each once
pub record IsMap (m : Map) : Type 0 where
  pub count : length m.buckets ≡ 1 + length m.places / 4
  pub exact : (bucket page : ℕ)
      → Contains (pages_in m bucket) page ↔ ((place_at m page ≢ Empty) × (bucket ≡ bucket_of m page))
  pub one_place : (bucket : ℕ) → IsDistinct eqb (pages_in m bucket)
