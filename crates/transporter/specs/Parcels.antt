-- What moves together, and its words at the new place.
use Rattle.std.specs.Prelude.{◌≡◌, ℕ, suc, ◌+◌, ◌-◌, ◌*◌, ◌≤◌, nat_lt, if◌then◌else◌, List, length, Option, Some, None, IsSome}
use Rattle.store_word.specs.Words.{Parts}
use Rattle.store_word.specs.declared.sizes.TheConstants.{MAX_OBJECT_WORDS}
use Rattle.obj_layout.specs.declared.run.TheConstants.{RUN_LIMIT}
use Rattle.obj_layout.specs.declared.shape.Shape.TheVariants.{Pair as PairShape, Cell as CellShape, BlockOf}
use Rattle.obj_layout.specs.declared.run.RunEnd.TheVariants.{Nil as EndsNil, Pair as EndsPair, Forwarded}
use Rattle.obj_layout.specs.declared.run.RunEnd.{RunEnd}
use Rattle.obj_layout.specs.declared.run.Run.{Run}
use Rattle.obj_layout.specs.Forwards.{word_at, IsFinal}
use Rattle.obj_layout.specs.Shapes.{shape_of, charge_at, IsWhole}
use Rattle.obj_layout.specs.Runs.{IsRun, HasRun}
use Rattle.transporter.specs.declared.parcel.Pair.{Pair}
use Rattle.transporter.specs.declared.parcel.Parcel.{Parcel}
use Rattle.transporter.specs.Writes.{pair_word}

-- a block with this number of fields
abbrev pub block_parcel : ℕ → ℕ → Parcel
block_parcel at length = record { at = at; words = suc length; objects = 1; charge = suc length; rest = None }

-- a pair with this charge
abbrev pub pair_parcel : ℕ → ℕ → Parcel
pair_parcel at charge = record { at = at; words = 2; objects = 1; charge = charge; rest = None }

-- this many cells, and what follows the last: nothing, a pair with this charge, or a forward
abbrev pub run_parcel : ℕ → ℕ → ℕ → RunEnd → Parcel
run_parcel at cells charge EndsNil = record { at = at; words = cells; objects = cells; charge = 3 * cells; rest = None }
run_parcel at cells charge EndsPair = record { at = at; words = cells + 2; objects = cells + 1; charge = 3 * cells + charge; rest = None }
run_parcel at cells charge (Forwarded to) = record { at = at; words = cells; objects = cells; charge = 3 * cells; rest = Some to }

-- the parcel at a final address: the block, the pair, or the compact run of cells that begins there
pub data IsParcel (words : List Parts) (at : ℕ) (p : Parcel) : Type 0 where
  a_block : (code length : ℕ) → shape_of (word_at words at) ≡ BlockOf code length → p ≡ block_parcel at length → IsParcel words at p
  a_pair : shape_of (word_at words at) ≡ PairShape → p ≡ pair_parcel at (charge_at words at) → IsParcel words at p
  a_run : (run : Run) → IsRun words at run → run.cells ≤ RUN_LIMIT → p ≡ run_parcel at run.cells (charge_at words (at + run.cells)) run.ending → IsParcel words at p

-- it has at least one word, one for each of its objects, and at most half a region's words
pub record IsFit (p : Parcel) : Type 0 where
  pub some : 1 ≤ p.objects
  pub each : p.objects ≤ p.words
  pub few : p.words ≤ MAX_OBJECT_WORDS
  pub cells : IsSome p.rest → p.words ≤ RUN_LIMIT

-- an object has all its words in the memory, from an address on; a cell those of its compact run
pub record StandsWhole (words : List Parts) (at : ℕ) : Type 0 where
  pub last : IsFinal words at
  pub whole : IsWhole words at
  pub run : shape_of (word_at words at) ≡ CellShape → HasRun words at
  pub pair : (run : Run) → IsRun words at run → run.ending ≡ EndsPair → IsWhole words (at + run.cells)

-- a parcel is a pair, and its words were read
pub record ArePairOf (words : List Parts) (p : Parcel) (pair : Pair) : Type 0 where
  pub two : p.words ≡ 2
  pub one : p.objects ≡ 1
  pub whole : p.rest ≡ None
  pub first : pair.first ≡ word_at words p.at
  pub second : pair.second ≡ word_at words (p.at + 1)

-- a pair in place of the last cell takes one more word
abbrev pub word_more : Option ℕ → ℕ
word_more None = 0
word_more (Some rest) = 1

-- the words at the new place
abbrev pub word_count_of : Parcel → ℕ
word_count_of p = p.words + word_more p.rest

-- a copy of each word, except that a cell before a forward becomes a pair
abbrev pub moved_word : List Parts → ℕ → ℕ → Option ℕ → ℕ → Parts
moved_word words at count None i = word_at words (at + i)
moved_word words at count (Some rest) i = if nat_lt (suc i) count then word_at words (at + i) else pair_word (word_at words (at + count - 1)) rest (suc i - count)

-- the words at the new place, one by one
abbrev pub new_word : List Parts → Parcel → ℕ → Parts
new_word words p i = moved_word words p.at p.words p.rest i
