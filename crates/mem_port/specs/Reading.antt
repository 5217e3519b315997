-- Words that are read one after another.
use Rattle.std.specs.Prelude.{ℕ, ◌+◌, ◌<◌, ◌≤◌, List, slice_index_or}
use Rattle.store_word.specs.Words.{Parts, null_word}

-- of `count` words from a place on, this many precede the first that is wanted: all of them if none is
pub record Passes (words : List Parts) (wanted : Parts → Type 0) (at count passed : ℕ) : Type 0 where
  pub at_most : passed ≤ count
  pub before : (i : ℕ) → i < passed → wanted (slice_index_or words (at + i) null_word) → ⊥
  pub found : passed < count → wanted (slice_index_or words (at + passed) null_word)
