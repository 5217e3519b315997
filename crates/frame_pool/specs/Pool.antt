-- What callers see of the frames.
use Rattle.std.specs.Prelude.{ℕ, ◌≡◌, ◌+◌, ◌*◌, ◌<◌, ◌≤◌, ◌⊎◌, Bool, false, eqb, Option, List, [], ◌∷◌, ◌++◌, length, replicate, slice_set, slice_index, slice_index_or, Contains}
use Rattle.std.specs.List.{range_with_len, IsDistinct}
use Rattle.store_word.specs.Words.{Parts, null_word}
use Rattle.store_word.specs.declared.sizes.TheConstants.{PAGE_WORDS}
use Rattle.index_lists.specs.Chains.{without}
use Rattle.frame_pool.specs.Fills.{Fills}

-- the free frames; the taken ones, the least recently used first; and for each frame its page, its tag and its 256 words
pub record Pool : Type 0 where
  pub free : List ℕ
  pub used : List ℕ
  pub pages : List ℕ
  pub tags : List Bool
  pub words : List Parts

-- n frames, all free
abbrev pub fresh_pool : ℕ → Pool
fresh_pool n = record {
  free = range_with_len 0 n;
  used = [];
  pages = replicate n 0;
  tags = replicate n false;
  words = replicate (n * PAGE_WORDS) null_word;
}

-- how many frames there are
abbrev pub frames_of : Pool → ℕ
frames_of p = length p.pages

-- the page that took a frame last
abbrev pub page_at : Pool → ℕ → ℕ
page_at p frame = slice_index p.pages frame

-- whether a frame has its tag
abbrev pub tag_of : Pool → ℕ → Bool
tag_of p frame = slice_index_or p.tags frame false

-- the pool after a page has taken a free frame: the frame is the last to be evicted, its tag is unset, and its words are unchanged
abbrev pub with_taken : Pool → ℕ → ℕ → Pool
with_taken p frame page = record p {
  free = without frame p.free;
  used = p.used ++ frame ∷ [];
  pages = slice_set p.pages frame page;
  tags = slice_set p.tags frame false;
}

-- a page has taken a free frame, which is now the last to be evicted, and whose word k is `word k`
pub record Takes (old new : Pool) (frame page : ℕ) (word : ℕ → Option Parts) : Type 0 where
  pub free : new.free ≡ without frame old.free
  pub used : new.used ≡ old.used ++ frame ∷ []
  pub pages : new.pages ≡ slice_set old.pages frame page
  pub tags : new.tags ≡ slice_set old.tags frame false
  pub words : Fills old.words new.words frame word

-- the pool with a taken frame free again
abbrev pub with_free : Pool → ℕ → Pool
with_free p frame = record p { free = p.free ++ frame ∷ []; used = without frame p.used }

-- the pool with a taken frame the last to be evicted
abbrev pub with_latest : Pool → ℕ → Pool
with_latest p frame = record p { used = without frame p.used ++ frame ∷ [] }

-- each frame is either free or taken, and is listed once
pub record IsPool (p : Pool) : Type 0 where
  pub few : frames_of p ≤ 4096
  pub tag_each : length p.tags ≡ frames_of p
  pub words_each : length p.words ≡ PAGE_WORDS * frames_of p
  pub each : (frame : ℕ) → frame < frames_of p → Contains p.free frame ⊎ Contains p.used frame
  pub free_in : (frame : ℕ) → Contains p.free frame → frame < frames_of p
  pub used_in : (frame : ℕ) → Contains p.used frame → frame < frames_of p
  pub apart : (frame : ℕ) → Contains p.free frame → Contains p.used frame → ⊥
  pub free_once : IsDistinct eqb p.free
  pub used_once : IsDistinct eqb p.used
  pub all : length p.free + length p.used ≡ frames_of p
