-- What a command may name, and which commands can be run in a world.
use Rattle.std.specs.Prelude.{ℕ, ◌<◌, ◌≤◌, length, ⊤}
use Rattle.std.specs.List.{All}
use Rattle.lisp_graph.specs.declared.object.Value.{Value}
use Rattle.lisp_graph.specs.declared.object.Value.TheVariants as V
use Rattle.lisp_graph.specs.declared.command.Command.{Command}
use Rattle.lisp_graph.specs.declared.command.Command.TheVariants as C
use Rattle.lisp_graph.specs.declared.world.World.{World}
use Rattle.lisp_graph.specs.Flips.{InLevels}

-- each register that a command names is one of this many
abbrev pub InRegisters : ℕ → Command → Type 0
InRegisters count (C.Set to value) = to < count
InRegisters count (C.Move to from) = (to < count) × (from < count)
InRegisters count (C.Cons to area car cdr) = (to < count) × (car < count) × (cdr < count)
InRegisters count (C.List to area items) = (to < count) × All (λ item. item < count) items
InRegisters count (C.Make to area code length) = to < count
InRegisters count (C.Grow target length) = target < count
InRegisters count (C.Car to from) = (to < count) × (from < count)
InRegisters count (C.Cdr to from) = (to < count) × (from < count)
InRegisters count (C.Rplaca target from) = (target < count) × (from < count)
InRegisters count (C.Rplacd target from) = (target < count) × (from < count)
InRegisters count (C.Get to from index) = (to < count) × (from < count)
InRegisters count (C.Put target index from) = (target < count) × (from < count)
InRegisters count (C.Size of) = of < count
InRegisters count (C.Eq left right) = (left < count) × (right < count)
InRegisters count _ = ⊤

-- each area that a command names is one of this many
abbrev pub InAreas : ℕ → Command → Type 0
InAreas count (C.Cons to area car cdr) = area < count
InAreas count (C.List to area items) = area < count
InAreas count (C.Make to area code length) = area < count
InAreas count _ = ⊤

-- a value that is no reference
abbrev pub IsPlain : Value → Type 0
IsPlain (V.Ref name) = ⊥
IsPlain V.Nil = ⊤
IsPlain (V.Fix number) = ⊤

-- what a command of the program carries: `set` no reference, `list` 1 to 1,024 items, `make` and `grow` at most 2,047 fields
abbrev pub InLimits : Command → Type 0
InLimits (C.Set to value) = IsPlain value
InLimits (C.List to area items) = (1 ≤ length items) × (length items ≤ 1024)
InLimits (C.Make to area code length) = length ≤ 2047
InLimits (C.Grow target length) = length ≤ 2047
InLimits _ = ⊤

-- a command that can be run in the world: it names registers, areas and levels of the world, and keeps the limits
pub record IsRunnable (world : World) (command : Command) : Type 0 where
  pub registers : InRegisters world.space.registers command
  pub areas : InAreas (length world.areas) command
  pub limits : InLimits command
  pub levels : InLevels world.space.levels command
