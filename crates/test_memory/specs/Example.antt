-- A worked example: words of objects of each shape, from address 0 on.
use Rattle.std.specs.Prelude.{ℕ, pos, ◌≡◌, ◌<◌, ◌≤◌, List, [], ◌∷◌, length}
use Rattle.store_word.specs.Words.{Parts}
use Rattle.store_word.specs.declared.word.CdrCode.{CdrCode}
use Rattle.store_word.specs.declared.word.CdrCode.TheVariants.{Next, Nil as CdrNil, Normal, Second}
use Rattle.store_word.specs.declared.word.Content.{Content}
use Rattle.store_word.specs.declared.word.Content.TheVariants.{Nil, Fixnum, Header, HeaderForward, GcForward}
use Rattle.obj_layout.specs.Forwards.{word_at}

-- a word with this code and this content
abbrev pub coded : CdrCode → Content → Parts
coded code content = record { cdr = code; content = content }

-- a pair of charge 2
abbrev pub pair_of_2 : List Parts → List Parts
pair_of_2 rest = coded Normal (Fixnum (pos 1)) ∷ coded Second Nil ∷ rest

-- a pair of charge 3
abbrev pub pair_of_3 : List Parts → List Parts
pair_of_3 rest = coded Normal (Fixnum (pos 2)) ∷ coded Next Nil ∷ rest

-- a block of two fields
abbrev pub block : List Parts → List Parts
block rest = coded Next (Header 9 2) ∷ coded Next (Fixnum (pos 3)) ∷ coded Next (Fixnum (pos 4)) ∷ rest

-- a compact run that ends at a cell coded nil
abbrev pub run_to_nil : List Parts → List Parts
run_to_nil rest = coded Next (Fixnum (pos 5)) ∷ coded CdrNil (Fixnum (pos 6)) ∷ rest

-- a compact run that a pair follows
abbrev pub run_to_pair : List Parts → List Parts
run_to_pair rest = coded Next (Fixnum (pos 7)) ∷ coded Normal (Fixnum (pos 8)) ∷ coded Second Nil ∷ rest

-- a compact run that a forward follows, which leads to another, and that to the second pair
abbrev pub run_to_forward : List Parts → List Parts
run_to_forward rest = coded Next (Fixnum (pos 9)) ∷ coded Next (HeaderForward 14) ∷ coded Next (GcForward 2) ∷ rest

-- the fifteen words
abbrev pub example_words : List Parts
example_words = pair_of_2 (pair_of_3 (block (run_to_nil (run_to_pair (run_to_forward [])))))

-- the words of a memory begin with those of the example
pub record IsExample (words : List Parts) : Type 0 where
  pub size : length example_words ≤ length words
  pub same : (at : ℕ) → at < length example_words → word_at words at ≡ word_at example_words at
