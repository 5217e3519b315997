-- The commands of two registers, by their kind.
use Rattle.std.specs.Prelude.{ℕ, List, codes, Result, Ok}
use Rattle.lisp_graph.specs.declared.command.Command.{Command}
use Rattle.lisp_graph.specs.declared.command.Command.TheVariants as commands
use Rattle.world_text.specs.declared.reading.reason.Reason.{Reason}
use Rattle.world_text.specs.Next.{◌>>=◌}
use Rattle.trace_text.specs.declared.pair.PairKind.{PairKind}
use Rattle.trace_text.specs.declared.pair.PairKind.TheVariants as kinds

-- the first word of a command of this kind
abbrev pub pair_name : PairKind → List ℕ
pair_name kinds.Move = codes "move"
pair_name kinds.Car = codes "car"
pair_name kinds.Cdr = codes "cdr"
pair_name kinds.Rplaca = codes "rplaca"
pair_name kinds.Rplacd = codes "rplacd"
pair_name kinds.Eq = codes "eq"

-- the command of this kind with these registers
abbrev pub pair_with : PairKind → ℕ → ℕ → Command
pair_with kinds.Move to from = commands.Move to from
pair_with kinds.Car to from = commands.Car to from
pair_with kinds.Cdr to from = commands.Cdr to from
pair_with kinds.Rplaca target from = commands.Rplaca target from
pair_with kinds.Rplacd target from = commands.Rplacd target from
pair_with kinds.Eq left right = commands.Eq left right

-- the command of this kind with the registers that are read
abbrev pub pair_read : PairKind → Result (ℕ × ℕ) Reason → Result Command Reason
pair_read kind read = do
  (first, second) ← read
  Ok (pair_with kind first second)
