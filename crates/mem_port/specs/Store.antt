-- What a memory holds, and what its calls do to that.
use Rattle.std.specs.Prelude.{ℕ, ◌≡◌, ◌≢◌, ◌*◌, ◌/◌, ◌<◌, ◌≤◌, List, length, Option, Some, None, slice_get, slice_set, slice_index, replicate, ◌+◌, slice_index_or}
use Rattle.store_word.specs.Sets.{HasLevel}
use Rattle.store_word.specs.Words.{Parts, address_of, null_word}
use Rattle.store_word.specs.declared.sizes.TheConstants.{PAGE_WORDS, REGION_PAGES, REGION_WORDS}

-- the words, the level of each region, the marks of each page (a set of levels), and the greatest level
pub record Store : Type 0 where
  pub words : List Parts
  pub levels : List ℕ
  pub marks : ℕ → ℕ
  pub top : ℕ

-- the level of the region of an address
abbrev pub level_at : List ℕ → ℕ → ℕ
level_at levels at = slice_index levels (at / REGION_WORDS)

-- the level of an address, or 0 if there is none
abbrev pub level_of_address : List ℕ → Option ℕ → ℕ
level_of_address levels None = 0
level_of_address levels (Some at) = level_at levels at

-- the level of the address that a word has, or 0
abbrev pub level_of_word : List ℕ → Parts → ℕ
level_of_word levels word = level_of_address levels (address_of word.content)

-- the law of marks: the level, 1 or more, of each address on a page is among the page's marks
abbrev pub MarksHold : Store → Type 0
MarksHold s = (at : ℕ) (word : Parts) → slice_get s.words at ≡ Some word → 0 < level_of_word s.levels word → HasLevel (s.marks (at / PAGE_WORDS)) (level_of_word s.levels word)

-- what always holds of a memory of this number of pages
pub record IsSound (s : Store) (pages : ℕ) : Type 0 where
  pub size : length s.words ≡ PAGE_WORDS * pages
  pub few : pages ≤ 16384
  pub regions : REGION_PAGES * length s.levels ≡ pages
  pub low : (region : ℕ) → slice_index s.levels region ≤ s.top
  pub deep : s.top ≤ 6
  pub marked : MarksHold s

-- the same, by the number of its words
abbrev pub IsMemory : Store → Type 0
IsMemory s = IsSound s (length s.words / PAGE_WORDS)

-- a new memory: every word is NULL, every level is 0, and no page has marks
pub record IsFresh (s : Store) (regions greatest : ℕ) : Type 0 where
  pub words : s.words ≡ replicate (REGION_WORDS * regions) null_word
  pub levels : s.levels ≡ replicate regions 0
  pub unmarked : (page : ℕ) → s.marks page ≡ 0
  pub top : s.top ≡ greatest

-- no word is stored, and no page without marks gets any
pub record StoresNothing (old new : Store) : Type 0 where
  pub words : new.words ≡ old.words
  pub levels : new.levels ≡ old.levels
  pub top : new.top ≡ old.top
  pub unmarked : (page : ℕ) → old.marks page ≡ 0 → new.marks page ≡ 0

-- one word is stored, and no page without marks gets any except its own, from an address of level 1 or more
pub record Stores (old new : Store) (at : ℕ) (word : Parts) : Type 0 where
  pub words : new.words ≡ slice_set old.words at word
  pub levels : new.levels ≡ old.levels
  pub top : new.top ≡ old.top
  pub unmarked : (page : ℕ) → old.marks page ≡ 0 → (page ≡ at / PAGE_WORDS → level_of_word old.levels word ≡ 0) → new.marks page ≡ 0

-- two consecutive words are stored, one after the other
pub record StoresTwo (old new : Store) (at : ℕ) (first second : Parts) : Type 0 where
  pub between : Store
  pub front : Stores old between at first
  pub back : Stores between new (at + 1) second

-- `count` words from a place on are these, and the others are unchanged
pub record Overwrites (old new : List Parts) (at count : ℕ) (word : ℕ → Parts) : Type 0 where
  pub size : length new ≡ length old
  pub here : (i : ℕ) → i < count → slice_index_or new (at + i) null_word ≡ word i
  pub others : (a : ℕ) → ((at ≤ a) × (a < at + count) → ⊥) → slice_index_or new a null_word ≡ slice_index_or old a null_word

-- `count` words of one page are stored, and no page without marks gets any except theirs, from an address of level 1 or more
pub record Covers (old new : Store) (at count : ℕ) (word : ℕ → Parts) : Type 0 where
  pub words : Overwrites old.words new.words at count word
  pub levels : new.levels ≡ old.levels
  pub top : new.top ≡ old.top
  pub unmarked : (page : ℕ) → old.marks page ≡ 0 → (page ≡ at / PAGE_WORDS → (i : ℕ) → i < count → level_of_word old.levels (word i) ≡ 0) → new.marks page ≡ 0

-- the words of one region are NULL, and its pages have no marks; the rest is unchanged
pub record Clears (old new : Store) (region : ℕ) : Type 0 where
  pub size : length new.words ≡ length old.words
  pub null : (at : ℕ) → at / REGION_WORDS ≡ region → at < length old.words → slice_get new.words at ≡ Some null_word
  pub others : (at : ℕ) → at / REGION_WORDS ≢ region → slice_get new.words at ≡ slice_get old.words at
  pub levels : new.levels ≡ old.levels
  pub top : new.top ≡ old.top
  pub unmarked : (page : ℕ) → page / REGION_PAGES ≡ region → new.marks page ≡ 0
  pub marks : (page : ℕ) → page / REGION_PAGES ≢ region → new.marks page ≡ old.marks page

-- the words of a region are NULL, and none of its addresses is in a word
pub record IsUnused (s : Store) (region : ℕ) : Type 0 where
  pub null : (at : ℕ) → at / REGION_WORDS ≡ region → at < length s.words → slice_get s.words at ≡ Some null_word
  pub unnamed : (at to : ℕ) (word : Parts) → slice_get s.words at ≡ Some word → address_of word.content ≡ Some to → to / REGION_WORDS ≢ region

-- no word on the page has an address of level 1 or more
abbrev pub IsClean : Store → ℕ → Type 0
IsClean s page = (at : ℕ) (word : Parts) → at / PAGE_WORDS ≡ page → slice_get s.words at ≡ Some word → level_of_word s.levels word ≡ 0

-- the marks of one page are dropped if it is clean; the rest is unchanged
pub record Remarks (old new : Store) (page : ℕ) : Type 0 where
  pub words : new.words ≡ old.words
  pub levels : new.levels ≡ old.levels
  pub top : new.top ≡ old.top
  pub exact : IsClean old page → new.marks page ≡ 0
  pub unmarked : old.marks page ≡ 0 → new.marks page ≡ 0
  pub others : (other : ℕ) → other ≢ page → new.marks other ≡ old.marks other
