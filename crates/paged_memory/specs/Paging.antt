-- A memory whose pages are empty, in frames, or on a swap device.
use Rattle.std.specs.Prelude.{ℕ, ◌≡◌, ◌≢◌, ◌+◌, ◌*◌, ◌/◌, ◌%◌, ◌<◌, ◌≤◌, ◌↔◌, ◌||◌, nat_lt, Bool, true, false, List, filter, map, length, slice_index, slice_index_or, slice_set, Contains}
use Rattle.std.specs.List.{range_with_len}
use Rattle.store_word.specs.Words.{Parts, null_word}
use Rattle.store_word.specs.Sets.{HasLevel}
use Rattle.store_word.specs.declared.sizes.TheConstants.{PAGE_WORDS, REGION_PAGES}
use Rattle.mem_port.specs.Store.{Store, level_of_word}
use Rattle.mem_port.specs.Swaps.{Swaps}
use Rattle.mem_port.specs.Tags.{marks_of_tag}
use Rattle.outer_ports.specs.Pages.{Calls}
use Rattle.page_map.specs.declared.place.PagePlace.{PagePlace}
use Rattle.page_map.specs.declared.place.PagePlace.TheVariants.{Empty, InFrame, Swapped}
use Rattle.page_map.specs.Map.{Map, place_at}
use Rattle.frame_pool.specs.Pool.{Pool, IsPool, frames_of, page_at, tag_of}
use Rattle.ref_table.specs.Table.{Table}
use Rattle.ref_table.specs.Sets.{set_at}

-- the frames, the place of each page, the rows of swapped pages, the level of each region, and the greatest level
pub record Paging : Type 0 where
  pub pool : Pool
  pub places : Map
  pub rows : Table
  pub levels : List ℕ
  pub top : ℕ

-- the word at an address whose page is at a place; `stored` is what the device holds
abbrev pub word_in : Pool → List Parts → ℕ → PagePlace → Parts
word_in pool stored at Empty = null_word
word_in pool stored at (InFrame frame) = slice_index_or pool.words (PAGE_WORDS * frame + at % PAGE_WORDS) null_word
word_in pool stored at Swapped = slice_index_or stored at null_word

-- the word at an address
abbrev pub word_at : Paging → List Parts → ℕ → Parts
word_at p stored at = word_in p.pool stored at (place_at p.places (at / PAGE_WORDS))

-- the frames once a word is stored into one, at an offset; the tag of this frame is set to a value
abbrev pub stored_pool : Pool → ℕ → ℕ → Parts → Bool → Pool
stored_pool pool frame offset word tag = record pool { words = slice_set pool.words (PAGE_WORDS * frame + offset) word; tags = slice_set pool.tags frame tag }

-- two words are stored into a frame, one after the other; each sets the tag if it has an address of level 1 or more
pub record StoresPair (old new : Pool) (levels : List ℕ) (frame offset : ℕ) (first second : Parts) : Type 0 where
  pub between : Pool
  pub sound : IsPool between
  pub front : between ≡ stored_pool old frame offset first (tag_of old frame || nat_lt 0 (level_of_word levels first))
  pub back : new ≡ stored_pool between frame (offset + 1) second (tag_of between frame || nat_lt 0 (level_of_word levels second))

-- how many pages there are
abbrev pub size_of : Paging → ℕ
size_of p = length p.places.places

-- all words, by address
abbrev pub words_of : Paging → List Parts → List Parts
words_of p stored = map (word_at p stored) (range_with_len 0 (PAGE_WORDS * size_of p))

-- the marks of a page at a place: every level if its frame has the tag, or its row
abbrev pub marks_in : Paging → ℕ → PagePlace → ℕ
marks_in p page Empty = 0
marks_in p page (InFrame frame) = marks_of_tag p.top (tag_of p.pool frame)
marks_in p page Swapped = set_at p.rows.sets page

-- the marks of a page
abbrev pub marks_of : Paging → ℕ → ℕ
marks_of p page = marks_in p page (place_at p.places page)

-- the memory as contracts see it
abbrev pub store_of : Paging → List Parts → Store
store_of p stored = record { words = words_of p stored; levels = p.levels; marks = marks_of p; top = p.top }

-- the resident pages, the least recently used first
abbrev pub resident_of : Paging → List ℕ
resident_of p = map (page_at p.pool) p.pool.used

-- the pages on the swap device, ascending
abbrev pub is_swapped : PagePlace → Bool
is_swapped Swapped = true
is_swapped _ = false

abbrev pub swapped_of : Paging → List ℕ
swapped_of p = filter (λ page. is_swapped (place_at p.places page)) (range_with_len 0 (size_of p))

-- them, and the page calls that the device made
abbrev pub swaps_of : Paging → Calls → Swaps
swaps_of p calls = record { out = swapped_of p; writes = calls.writes; reads = calls.reads }

-- a word on the page has an address of this level
abbrev pub HasWord : (ℕ → Parts) → List ℕ → ℕ → ℕ → Type 0
HasWord word levels page level = (k : ℕ) × ((k < PAGE_WORDS) × (level_of_word levels (word (PAGE_WORDS * page + k)) ≡ level))

-- what always holds: each taken frame is its page's place and conversely; a swapped page has a row, which is exactly the set of the levels, 1 or
-- more, of the addresses on it, and no other page has one; and the frame of a page with such an address has the tag
pub record IsPaged (p : Paging) (stored : List Parts) : Type 0 where
  pub size : length stored ≡ PAGE_WORDS * size_of p
  pub few : size_of p ≤ 16384
  pub regions : REGION_PAGES * length p.levels ≡ size_of p
  pub low : (region : ℕ) → slice_index p.levels region ≤ p.top
  pub deep : p.top ≤ 6
  pub pool : IsPool p.pool
  pub frames : 32 ≤ frames_of p.pool
  pub rows_each : length p.rows.sets ≡ size_of p
  pub taken : (frame : ℕ) → Contains p.pool.used frame → (page_at p.pool frame < size_of p) × (place_at p.places (page_at p.pool frame) ≡ InFrame frame)
  pub framed : (page frame : ℕ) → place_at p.places page ≡ InFrame frame → Contains p.pool.used frame × (page_at p.pool frame ≡ page)
  pub exact : (page : ℕ) → place_at p.places page ≡ Swapped → (level : ℕ) → 1 ≤ level → HasLevel (set_at p.rows.sets page) level ↔ HasWord (word_at p stored) p.levels page level
  pub rowless : (page : ℕ) → place_at p.places page ≢ Swapped → set_at p.rows.sets page ≡ 0
  pub tagged : (page frame : ℕ) → place_at p.places page ≡ InFrame frame → (level : ℕ) → 1 ≤ level → HasWord (word_at p stored) p.levels page level → tag_of p.pool frame ≡ true
