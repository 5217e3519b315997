-- Words of one page that are stored together.
use Rattle.std.specs.Prelude.{ℕ, ◌≡◌, ◌+◌, ◌*◌, ◌/◌, ◌↔◌, ◌⊎◌, Bool, IsTrue, List, length, slice_index_or, slice_set, Contains}
use Rattle.store_word.specs.Words.{Parts, null_word}
use Rattle.store_word.specs.declared.sizes.TheConstants.{PAGE_WORDS}
use Rattle.mem_port.specs.Store.{Covers}
use Rattle.mem_port.specs.Tags.{HasYoung}
use Rattle.frame_pool.specs.Pool.{Pool, tag_of}
use Rattle.paged_memory.specs.Paging.{Paging, store_of, resident_of, IsPaged}
use Rattle.paged_memory.specs.Order.{StoresOn}

-- a frame has the tag if it had it, or if one of the `count` words from an offset on has an address of level 1 or more; nothing else has changed
pub record TagsSpan (old new : Pool) (levels : List ℕ) (frame offset count : ℕ) (tag : Bool) : Type 0 where
  pub exact : IsTrue tag ↔ (IsTrue (tag_of old frame) ⊎ HasYoung levels count (λ i. slice_index_or old.words (PAGE_WORDS * frame + offset + i) null_word))
  pub set : new ≡ record old { tags = slice_set old.tags frame tag }

-- `count` words are stored on a resident page, with this order of use after it; what always holds is kept
pub record Lays (p : Paging) (stored : List Parts) (p' : Paging) (at count : ℕ) (word : ℕ → Parts) (order : List ℕ) : Type 0 where
  pub paged : IsPaged p' stored
  pub covers : Covers (store_of p stored) (store_of p' stored) at count word
  pub uses : StoresOn p p' (at / PAGE_WORDS) order
  pub kept : (page : ℕ) → Contains (resident_of p) page → Contains (resident_of p') page
  pub many : length (resident_of p') ≡ length (resident_of p)
