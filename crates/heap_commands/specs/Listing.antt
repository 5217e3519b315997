-- Where a new list is stored.
use Rattle.std.specs.Prelude.{◌≡◌, ℕ, ◌+◌, ◌<◌, List}
use Rattle.store_word.specs.Words.{Parts}
use Rattle.store_word.specs.declared.word.Content.TheVariants.{List as ListAt}
use Rattle.block_store.specs.obj_layout.Forwards.{word_at}
use Rattle.cdr_lists.specs.Lists.{cell_code}

-- a word refers to a list of `count` cells in consecutive words: the last has the cdr code of a cell that ends one, each other that of a cell before the next
pub record RefersToCells (words : List Parts) (reference : Parts) (count : ℕ) : Type 0 where
  pub at : ℕ
  pub is : reference.content ≡ ListAt at
  pub cells : (i : ℕ) → i < count → (word_at words (at + i)).cdr ≡ cell_code count i
