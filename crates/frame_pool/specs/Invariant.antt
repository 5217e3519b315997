-- The two lists of frames that represent what callers see.
use Rattle.std.specs.Prelude.{ℕ, ◌≡◌, ◌+◌, ◌*◌, ◌<◌, ◌≤◌, ◌⊎◌, ◌^◌, Bool, List, length, slice_index, Contains, MatchOption}
use Rattle.store_word.specs.Words.{Parts}
use Rattle.store_word.specs.declared.sizes.TheConstants.{PAGE_WORDS}
use Rattle.index_lists.specs.Chains.{Chains, list_at, last_of, IsSound}
use Rattle.frame_pool.specs.Pool.{Pool}

-- list 0 has the free frames, list 1 the taken ones
abbrev pub pool_of : Chains → List ℕ → List Bool → List Parts → Pool
pool_of c pages tags words = record { free = list_at c 0; used = list_at c 1; pages = pages; tags = tags; words = words }

-- the last frame in the order of use and its page are these; the page is 2^32 if no frame is taken
abbrev pub IsLatest : List ℕ → List ℕ → ℕ → ℕ → Type 0
IsLatest used pages page frame = MatchOption (last_of used) (page ≡ 2 ^ 32) (λ last. (frame ≡ last) × (page ≡ slice_index pages last))

-- what holds between calls
pub record PoolInvariant (c : Chains) (p : Pool) : Type 0 where
  pub sound : IsSound c
  pub two : length c.lists ≡ 2
  pub nodes : c.nodes ≡ length p.pages
  pub few : length p.pages ≤ 4096
  pub tag_each : length p.tags ≡ length p.pages
  pub words_each : length p.words ≡ PAGE_WORDS * length p.pages
  pub each : (frame : ℕ) → frame < length p.pages → Contains p.free frame ⊎ Contains p.used frame
  pub all : length p.free + length p.used ≡ length p.pages
