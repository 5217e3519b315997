-- The lists and places that represent what callers see.
use Rattle.std.specs.Prelude.{ℕ, ◌≡◌, ◌≢◌, ◌+◌, ◌/◌, ◌%◌, ◌≤◌, ◌^◌, List, length, slice_index_or, Contains}
use Rattle.index_lists.specs.Chains.{Chains, list_at, IsSound}
use Rattle.page_map.specs.declared.place.PagePlace.{PagePlace}
use Rattle.page_map.specs.declared.place.PagePlace.TheVariants.{Empty}
use Rattle.page_map.specs.Map.{Map}

-- each list is a bucket
abbrev pub map_of : Chains → List PagePlace → Map
map_of c places = record { places = places; buckets = c.lists }

-- what holds between calls
pub record PageMapInvariant (c : Chains) (places : List PagePlace) (buckets : ℕ) : Type 0 where
  pub sound : IsSound c
  pub few : length places ≤ 2 ^ 20
  pub nodes : c.nodes ≡ length places
  pub many : buckets ≡ 1 + length places / 4
  pub count : length c.lists ≡ buckets
  pub listed : (bucket page : ℕ) → Contains (list_at c bucket) page
      → (slice_index_or places page Empty ≢ Empty) × (bucket ≡ page % buckets)
  pub there : (page : ℕ) → slice_index_or places page Empty ≢ Empty → Contains (list_at c (page % buckets)) page
