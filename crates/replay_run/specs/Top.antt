-- What the program does in each mode.
use Rattle.std.specs.Prelude.{◌⊎◌, ℕ, List, Bool, true, false, Option, Some}
use Rattle.command_words.specs.declared.mode.Mode.{Mode}
use Rattle.command_words.specs.declared.mode.Mode.TheVariants as M
use Rattle.line_input.specs.declared.statuses.status.Status.{Status}
use Rattle.line_input.specs.declared.statuses.status.Status.TheVariants.{NoMemory, Usage}
use Rattle.line_input.specs.declared.statuses.status.RunError.TheVariants as T
use Rattle.line_input.specs.Statuses.{Closed, trouble_line}

-- the modes in which the source is read, and those in which the machine runs commands; refused arguments have no mode
abbrev pub reads : Option Mode → Bool
reads (Some M.Replay) = true
reads (Some (M.OfFile mode)) = true
reads mode = false

abbrev pub runs : Option Mode → Bool
runs (Some M.Replay) = true
runs (Some (M.Exercise number count)) = true
runs mode = false

-- refused arguments: this is reported, or that memory ran out before they were read
abbrev pub Refused : (List ℕ → Type 0) → (List ℕ → Type 0) → Status → Type 0
Refused held held' status = Closed held held' (trouble_line T.Usage) Usage status ⊎ Closed held held' (trouble_line T.Memory) NoMemory status
