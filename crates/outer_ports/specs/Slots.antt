-- Pages whose words are stored in slots of 256 words, one slot after another.
use Rattle.std.specs.Prelude.{ℕ, ◌≡◌, ◌+◌, ◌*◌, ◌/◌, ◌%◌, ◌<◌, ◌^◌, List, Option, None, Some, is_some, map, length, count_by, slice_index_or}
use Rattle.std.specs.List.{range_with_len}
use Rattle.store_word.specs.Words.{Parts, null_word}
use Rattle.store_word.specs.declared.sizes.TheConstants.{PAGE_WORDS}

-- the slot of a page, if it has one
abbrev pub slot_of : List (Option ℕ) → ℕ → Option ℕ
slot_of slots page = slice_index_or slots page None

-- a word of a page with this slot: NULL if it has none
abbrev pub word_in : List Parts → Option ℕ → ℕ → Parts
word_in words None k = null_word
word_in words (Some slot) k = slice_index_or words (PAGE_WORDS * slot + k) null_word

-- the words of all pages, one page after another
abbrev pub words_of : List (Option ℕ) → List Parts → List Parts
words_of slots words = map (λ at. word_in words (slot_of slots (at / PAGE_WORDS)) (at % PAGE_WORDS)) (range_with_len 0 (PAGE_WORDS * length slots))

-- how many pages have a slot
abbrev pub slots_used : List (Option ℕ) → ℕ
slots_used slots = count_by is_some slots

-- there are words for each slot in use, each page has a slot of its own, and page numbers have 32 bits
pub record IsSlotted (slots : List (Option ℕ)) (words : List Parts) : Type 0 where
  pub few : length slots < 2 ^ 32
  pub size : length words ≡ PAGE_WORDS * slots_used slots
  pub inside : (page slot : ℕ) → slot_of slots page ≡ Some slot → slot < slots_used slots
  pub own : (page other slot : ℕ) → slot_of slots page ≡ Some slot → slot_of slots other ≡ Some slot → page ≡ other
