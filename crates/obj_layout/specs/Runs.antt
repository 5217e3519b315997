-- Compact runs.
use Rattle.std.specs.Prelude.{ℕ, ◌≡◌, ◌+◌, ◌-◌, ◌<◌, ◌≤◌, List, length, IsSome}
use Rattle.store_word.specs.Words.{Parts}
use Rattle.store_word.specs.declared.word.CdrCode.{CdrCode}
use Rattle.store_word.specs.declared.word.CdrCode.TheVariants.{Next as CdrNext, Nil as CdrNil}
use Rattle.obj_layout.specs.declared.run.TheConstants.{RUN_LIMIT}
use Rattle.obj_layout.specs.declared.shape.Shape.TheVariants.{Pair as PairShape, Cell as CellShape}
use Rattle.obj_layout.specs.declared.run.RunEnd.{RunEnd}
use Rattle.obj_layout.specs.declared.run.RunEnd.TheVariants.{Nil, Pair, Forwarded}
use Rattle.obj_layout.specs.declared.run.Run.{Run}
use Rattle.obj_layout.specs.Forwards.{word_at, forward_of, Final, IsFinal}
use Rattle.obj_layout.specs.Shapes.{shape_of}

-- a cell is at an address
pub record IsCell (words : List Parts) (at : ℕ) : Type 0 where
  pub final : IsFinal words at
  pub shape : shape_of (word_at words at) ≡ CellShape

-- a pair is at an address
pub record IsPair (words : List Parts) (at : ℕ) : Type 0 where
  pub final : IsFinal words at
  pub shape : shape_of (word_at words at) ≡ PairShape

-- a forward is at an address, and its final address is this one, in the memory
pub record IsForwarded (words : List Parts) (at to : ℕ) : Type 0 where
  pub forward : IsSome (forward_of (word_at words at).content)
  pub final : Final words at to
  pub inside : to < length words

-- how the last cell of a run is coded
abbrev pub last_code : RunEnd → CdrCode
last_code Nil = CdrNil
last_code Pair = CdrNext
last_code (Forwarded to) = CdrNext

-- what follows a run that ends in this way
abbrev pub StandsBehind : List Parts → ℕ → RunEnd → Type 0
StandsBehind words behind Nil = Unit {0}
StandsBehind words behind Pair = IsPair words behind
StandsBehind words behind (Forwarded to) = IsForwarded words behind to

-- a run begins at an address: cells that are coded next, except for the last, and what the code of the last leads to
pub record IsRun (words : List Parts) (at : ℕ) (run : Run) : Type 0 where
  pub some : 1 ≤ run.cells
  pub cells : (i : ℕ) → i < run.cells → IsCell words (at + i)
  pub linked : (i : ℕ) → i + 1 < run.cells → (word_at words (at + i)).cdr ≡ CdrNext
  pub last : (word_at words (at + run.cells - 1)).cdr ≡ last_code run.ending
  pub behind : StandsBehind words (at + run.cells) run.ending

-- a run of at most 1,024 cells begins at an address
abbrev pub HasRun : List Parts → ℕ → Type 0
HasRun words at = (run : Run) × (run.cells ≤ RUN_LIMIT) × IsRun words at run
