-- Words in pages of 256, one page after another.
use Rattle.std.specs.Prelude.{ℕ, ◌≡◌, ◌+◌, ◌*◌, ◌<◌, ◌≤◌, Option, List, length, slice_get, slice_index_or}
use Rattle.store_word.specs.Words.{Parts, null_word}
use Rattle.store_word.specs.declared.sizes.TheConstants.{PAGE_WORDS}

-- word k of one page is now `word k`, and no word of another page has changed
pub record Fills (old new : List Parts) (page : ℕ) (word : ℕ → Option Parts) : Type 0 where
  pub size : length new ≡ length old
  pub here : (k : ℕ) → k < PAGE_WORDS → slice_get new (PAGE_WORDS * page + k) ≡ word k
  pub below : (i : ℕ) → i < PAGE_WORDS * page → slice_get new i ≡ slice_get old i
  pub above : (i : ℕ) → PAGE_WORDS * page + PAGE_WORDS ≤ i → slice_get new i ≡ slice_get old i

-- `count` words from a place on are these, and no other word has changed
pub record FillsSpan (old new : List Parts) (at count : ℕ) (word : ℕ → Parts) : Type 0 where
  pub size : length new ≡ length old
  pub here : (i : ℕ) → i < count → slice_index_or new (at + i) null_word ≡ word i
  pub others : (i : ℕ) → ((at ≤ i) × (i < at + count) → ⊥) → slice_index_or new i null_word ≡ slice_index_or old i null_word
