-- The addresses of the words of a part.
use Rattle.std.specs.Prelude.{ℕ, suc, ◌+◌, ◌<◌, List, length}
use Rattle.store_word.specs.Words.{Parts}
use Rattle.store_word.specs.declared.word.Content.{Content}
use Rattle.store_word.specs.declared.word.Content.TheVariants.{Header}
use Rattle.lisp_ground.specs.Leading.{HasCdr}

-- the word of a part of what begins with this content at a place is in the memory
abbrev pub HasPart : List Parts → ℕ → ℕ → Content → Type 0
HasPart words at index (Header code count) = suc at + index < length words
HasPart words at index _ = HasCdr words at
