-- The shape of an object, its words, and what it is charged.
use Rattle.std.specs.Prelude.{ℕ, suc, ◌+◌, ◌≤◌, List, length}
use Rattle.store_word.specs.Words.{Parts}
use Rattle.store_word.specs.declared.word.CdrCode.{CdrCode}
use Rattle.store_word.specs.declared.word.CdrCode.TheVariants.{Normal, Second}
use Rattle.store_word.specs.declared.word.Content.{Content}
use Rattle.store_word.specs.declared.word.Content.TheVariants.{Header}
use Rattle.obj_layout.specs.declared.shape.Shape.{Shape}
use Rattle.obj_layout.specs.declared.shape.Shape.TheVariants.{Pair, Cell, BlockOf}
use Rattle.obj_layout.specs.Forwards.{word_at}

-- a cons is a pair if its first word is coded normal
abbrev pub cons_shape : CdrCode → Shape
cons_shape Normal = Pair
cons_shape _ = Cell

-- the shape by what the first word says: a header begins a block, any other word a cons
abbrev pub shape_from : Content → CdrCode → Shape
shape_from (Header code length) _ = BlockOf code length
shape_from _ code = cons_shape code

-- the shape of the object that begins with a word
abbrev pub shape_of : Parts → Shape
shape_of word = shape_from word.content word.cdr

-- how many words an object has
abbrev pub word_count : Shape → ℕ
word_count Pair = 2
word_count Cell = 1
word_count (BlockOf code length) = suc length

-- what a pair is charged, by the code of its second word
abbrev pub pair_charge : CdrCode → ℕ
pair_charge Second = 2
pair_charge _ = 3

-- what an object is charged, by its shape and the code of its second word
abbrev pub charge_from : Shape → CdrCode → ℕ
charge_from Pair code = pair_charge code
charge_from Cell _ = 3
charge_from (BlockOf code length) _ = suc length

-- what the object at an address is charged
abbrev pub charge_at : List Parts → ℕ → ℕ
charge_at words at = charge_from (shape_of (word_at words at)) (word_at words (suc at)).cdr

-- all words of the object at an address are in the memory
abbrev pub IsWhole : List Parts → ℕ → Type 0
IsWhole words at = at + word_count (shape_of (word_at words at)) ≤ length words
