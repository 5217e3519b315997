-- The places of objects while a world is loaded.
use Rattle.std.specs.Prelude.{ℕ, Bool, true, false, List, get_or}
use Rattle.store_word.specs.Words.{Parts, null_word}
use Rattle.store_word.specs.declared.word.CdrCode.{CdrCode}
use Rattle.store_word.specs.declared.word.CdrCode.TheVariants.{Next, Nil as CdrNil}
use Rattle.store_word.specs.declared.word.Content.TheVariants.{Nil as NilWord, Fixnum, List as ListAt, Struct as StructAt}
use Rattle.lisp_graph.specs.declared.object.Value.{Value}
use Rattle.lisp_graph.specs.declared.object.Value.TheVariants as V

-- the place of an object: the reference to it, and whether it is a cell
pub record PlaceView : Type 0 where
  pub word : Parts
  pub cell : Bool

-- the place for a number past the last
abbrev pub no_place : PlaceView
no_place = record { word = null_word; cell = false }

-- the place of the object with this number
abbrev pub place_at : List PlaceView → ℕ → PlaceView
place_at places number = get_or places number no_place

-- the place of a pair, of a cell, and of a block at an address
abbrev pub pair_place : ℕ → PlaceView
pair_place at = record { word = record { cdr = Next; content = ListAt at }; cell = false }

abbrev pub cell_place : ℕ → PlaceView
cell_place at = record { word = record { cdr = Next; content = ListAt at }; cell = true }

abbrev pub block_place : ℕ → PlaceView
block_place at = record { word = record { cdr = Next; content = StructAt at }; cell = false }

-- the cdr code of a cell with this cdr
abbrev pub cell_code_of : Value → CdrCode
cell_code_of V.Nil = CdrNil
cell_code_of (V.Ref name) = Next
cell_code_of (V.Fix number) = Next

-- the word of a value: a number, NIL, or the reference in the place of the object with this name
abbrev pub word_of : List PlaceView → Value → Parts
word_of places (V.Fix number) = record { cdr = Next; content = Fixnum number }
word_of places V.Nil = record { cdr = Next; content = NilWord }
word_of places (V.Ref name) = (place_at places name).word
