-- The words of all frames, of which those of the first frames are stored.
use Rattle.std.specs.Prelude.{ℕ, ◌≡◌, ◌-◌, ◌*◌, ◌%◌, ◌≤◌, List, ◌++◌, length, replicate}
use Rattle.store_word.specs.Words.{Parts, null_word}
use Rattle.store_word.specs.declared.sizes.TheConstants.{PAGE_WORDS}

-- the stored words, and NULL words up to a number of words
abbrev pub padded : ℕ → List Parts → List Parts
padded count stored = stored ++ replicate (count - length stored) null_word

-- the words of whole frames are stored, in a vector with room for all frames
pub record IsStored (frames capacity : ℕ) (stored : List Parts) : Type 0 where
  pub whole : length stored % PAGE_WORDS ≡ 0
  pub within : length stored ≤ PAGE_WORDS * frames
  pub room : PAGE_WORDS * frames ≤ capacity
  pub few : frames ≤ 4096
