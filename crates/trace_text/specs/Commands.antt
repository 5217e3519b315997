-- What a line of a trace means, or why it is refused. The first test that fails gives the reason.
use Rattle.std.specs.Prelude.{ℕ, ◌+◌, ◌-◌, ◌^◌, ◌≤◌, List, [], ◌∷◌, length, drop, Bool, true, false, ◌==◌, nat_lt, if◌then◌else◌, bytes_eq, codes, bit_or, Option, Some, None, Result, Ok, Err}
use Rattle.std.specs.List.{slice_split}
use Rattle.std.specs.Option.{option_and_then}
use Rattle.store_word.specs.declared.space.Space.{Space}
use Rattle.lisp_graph.specs.declared.object.Value.{Value}
use Rattle.lisp_graph.specs.declared.object.Value.TheVariants.{Ref}
use Rattle.lisp_graph.specs.declared.world.AreaRule.{AreaRule}
use Rattle.lisp_graph.specs.declared.command.Command.{Command}
use Rattle.lisp_graph.specs.declared.command.Command.TheVariants as commands
use Rattle.lisp_graph.specs.declared.command.Condemn.{Condemn}
use Rattle.lisp_graph.specs.declared.command.Condemn.TheVariants.{Full, Chosen}
use Rattle.world_text.specs.declared.reading.reason.Reason.{Reason}
use Rattle.world_text.specs.declared.reading.reason.Reason.TheVariants.{BadLine, UnknownCommand, TooManyItems, WrongCount, BadValue, BadLevels}
use Rattle.world_text.specs.Words.{first_word, is_well_formed, words_of}
use Rattle.world_text.specs.Numbers.{number_in}
use Rattle.world_text.specs.Next.{◌>>=◌, a_number, a_register, a_value, an_area, each, next}
use Rattle.trace_text.specs.declared.read.LineKind.{LineKind}
use Rattle.trace_text.specs.declared.read.LineKind.TheVariants as kinds

-- a space and areas as an accepted world has them
pub record InLimits (space : Space) (areas : List AreaRule) : Type 0 where
  pub registers : space.registers ≤ 256
  pub levels : space.levels ≤ 6
  pub few : length areas ≤ 16

-- Words

abbrev pub is_reference : Value → Bool
is_reference (Ref number) = true
is_reference _ = false

-- `nil` or an integer
unfoldable pub a_plain_value : List ℕ → Result Value Reason
a_plain_value word = do
  value ← a_value word
  if is_reference value then Err BadValue else Ok value

abbrev pub is_comma : ℕ → Bool
is_comma byte = byte == 44

-- a set with these levels added: each is a number above the one before it, and at most the top
unfoldable pub levels_from : ℕ → ℕ → ℕ → List (List ℕ) → Option ℕ
levels_from top last set [] = Some set
levels_from top last set (piece ∷ pieces) =
    option_and_then (λ level. levels_from top level (bit_or set (2 ^ (level - 1))) pieces) (number_in (last + 1) top piece)

-- the levels of this set are condemned, if there is one
abbrev pub chosen : Option ℕ → Result Condemn Reason
chosen None = Err BadLevels
chosen (Some set) = Ok (Chosen (record { 0 = set }))

-- what a flip condemns: everything, or ascending levels with single commas between
unfoldable pub a_condemn : ℕ → List ℕ → Result Condemn Reason
a_condemn top word = if bytes_eq word (codes "full") then Ok Full else chosen (levels_from top 0 0 (slice_split is_comma word))

-- Each command has `count` words, and `words` after its first one.

-- a command that is one word
abbrev pub alone : ℕ → Command → Result Command Reason
alone count command = if count == 1 then Ok command else Err WrongCount

-- two registers
unfoldable pub pair_in : ℕ → ℕ → List (List ℕ) → Result (ℕ × ℕ) Reason
pair_in registers count words =
    if count == 3 then (do
      (first, words) ← next (a_register registers) words
      (second, words) ← next (a_register registers) words
      Ok (first, second))
    else Err WrongCount

-- `set R V`
unfoldable pub set_in : ℕ → ℕ → List (List ℕ) → Result Command Reason
set_in registers count words =
    if count == 3 then (do
      (to, words) ← next (a_register registers) words
      (value, words) ← next a_plain_value words
      Ok (commands.Set to value))
    else Err WrongCount

-- `cons R AREA S T`
unfoldable pub cons_in : ℕ → List AreaRule → ℕ → List (List ℕ) → Result Command Reason
cons_in registers areas count words =
    if count == 5 then (do
      (to, words) ← next (a_register registers) words
      (area, words) ← next (an_area areas) words
      (car, words) ← next (a_register registers) words
      (cdr, words) ← next (a_register registers) words
      Ok (commands.Cons to area car cdr))
    else Err WrongCount

-- `list R AREA S ..` with 1 to 1,024 registers
unfoldable pub list_in : ℕ → List AreaRule → ℕ → List (List ℕ) → Result Command Reason
list_in registers areas count words =
    if nat_lt 1027 count then Err TooManyItems
    else if nat_lt count 4 then Err WrongCount
    else (do
      (to, words) ← next (a_register registers) words
      (area, words) ← next (an_area areas) words
      items ← each (a_register registers) words
      Ok (commands.List to area items))

-- `make R AREA CODE N`
unfoldable pub make_in : ℕ → List AreaRule → ℕ → List (List ℕ) → Result Command Reason
make_in registers areas count words =
    if count == 5 then (do
      (to, words) ← next (a_register registers) words
      (area, words) ← next (an_area areas) words
      (code, words) ← next (a_number 0 65535) words
      (size, words) ← next (a_number 0 2047) words
      Ok (commands.Make to area code size))
    else Err WrongCount

-- `grow R N`
unfoldable pub grow_in : ℕ → ℕ → List (List ℕ) → Result Command Reason
grow_in registers count words =
    if count == 3 then (do
      (target, words) ← next (a_register registers) words
      (size, words) ← next (a_number 0 2047) words
      Ok (commands.Grow target size))
    else Err WrongCount

-- `get R S I`
unfoldable pub get_in : ℕ → ℕ → List (List ℕ) → Result Command Reason
get_in registers count words =
    if count == 4 then (do
      (to, words) ← next (a_register registers) words
      (from, words) ← next (a_register registers) words
      (index, words) ← next (a_number 0 (2 ^ 32 - 1)) words
      Ok (commands.Get to from index))
    else Err WrongCount

-- `put R I S`
unfoldable pub put_in : ℕ → ℕ → List (List ℕ) → Result Command Reason
put_in registers count words =
    if count == 4 then (do
      (target, words) ← next (a_register registers) words
      (index, words) ← next (a_number 0 (2 ^ 32 - 1)) words
      (from, words) ← next (a_register registers) words
      Ok (commands.Put target index from))
    else Err WrongCount

-- `size R`
unfoldable pub size_in : ℕ → ℕ → List (List ℕ) → Result Command Reason
size_in registers count words =
    if count == 2 then (do
      (of, words) ← next (a_register registers) words
      Ok (commands.Size of))
    else Err WrongCount

-- `flip full`, or `flip` with levels
unfoldable pub flip_in : ℕ → ℕ → List (List ℕ) → Result Command Reason
flip_in levels count words =
    if count == 2 then (do
      (what, words) ← next (a_condemn levels) words
      Ok (commands.Flip what))
    else Err WrongCount

-- `scavenge N`
unfoldable pub scavenge_in : ℕ → List (List ℕ) → Result Command Reason
scavenge_in count words =
    if count == 2 then (do
      (units, words) ← next (a_number 0 (2 ^ 32 - 1)) words
      Ok (commands.Scavenge units))
    else Err WrongCount

-- `page-out N`
unfoldable pub page_out_in : ℕ → List (List ℕ) → Result Command Reason
page_out_in count words =
    if count == 2 then (do
      (pages, words) ← next (a_number 0 (2 ^ 32 - 1)) words
      Ok (commands.PageOut pages))
    else Err WrongCount

-- Which command it is, by its first word

-- a command of two registers
unfoldable pub pair_command : ℕ → List ℕ → ℕ → List (List ℕ) → Result Command Reason
pair_command registers head count words =
    if bytes_eq head (codes "move") then (do
      (to, from) ← pair_in registers count words
      Ok (commands.Move to from))
    else if bytes_eq head (codes "car") then (do
      (to, from) ← pair_in registers count words
      Ok (commands.Car to from))
    else if bytes_eq head (codes "cdr") then (do
      (to, from) ← pair_in registers count words
      Ok (commands.Cdr to from))
    else if bytes_eq head (codes "rplaca") then (do
      (target, from) ← pair_in registers count words
      Ok (commands.Rplaca target from))
    else if bytes_eq head (codes "rplacd") then (do
      (target, from) ← pair_in registers count words
      Ok (commands.Rplacd target from))
    else if bytes_eq head (codes "eq") then (do
      (left, right) ← pair_in registers count words
      Ok (commands.Eq left right))
    else Err UnknownCommand

-- a command of the store, or one of two registers
unfoldable pub store_command : Space → List ℕ → ℕ → List (List ℕ) → Result Command Reason
store_command space head count words =
    if bytes_eq head (codes "flip") then flip_in space.levels count words
    else if bytes_eq head (codes "scavenge") then scavenge_in count words
    else if bytes_eq head (codes "reclaim") then alone count commands.Reclaim
    else if bytes_eq head (codes "page-out") then page_out_in count words
    else if bytes_eq head (codes "stats") then alone count commands.Stats
    else if bytes_eq head (codes "dump") then alone count commands.Dump
    else pair_command space.registers head count words

-- a command
unfoldable pub command_in : Space → List AreaRule → List ℕ → ℕ → List (List ℕ) → Result Command Reason
command_in space areas head count words =
    if bytes_eq head (codes "set") then set_in space.registers count words
    else if bytes_eq head (codes "cons") then cons_in space.registers areas count words
    else if bytes_eq head (codes "list") then list_in space.registers areas count words
    else if bytes_eq head (codes "make") then make_in space.registers areas count words
    else if bytes_eq head (codes "grow") then grow_in space.registers count words
    else if bytes_eq head (codes "get") then get_in space.registers count words
    else if bytes_eq head (codes "put") then put_in space.registers count words
    else if bytes_eq head (codes "size") then size_in space.registers count words
    else store_command space head count words

-- what a line of a trace says: a command to run, or the end
pub data TraceLine : Type 0 where
  Run : Command → TraceLine
  End : TraceLine

-- what a line of this kind means, if its command is this one
abbrev pub said_by : LineKind → Command → TraceLine
said_by kinds.Command command = Run command
said_by kinds.End command = End

-- a line with the first word `head`
unfoldable pub line_in : Space → List AreaRule → List ℕ → ℕ → List (List ℕ) → Result TraceLine Reason
line_in space areas head count words =
    if bytes_eq head (codes "end") then (if count == 1 then Ok End else Err WrongCount)
    else (do
      command ← command_in space areas head count words
      Ok (Run command))

-- What a line of a trace means, in a world with this space and these areas.
abbrev pub trace_line : Space → List AreaRule → List ℕ → Result TraceLine Reason
trace_line space areas text =
    if is_well_formed text then line_in space areas (first_word (words_of text)) (length (words_of text)) (drop 1 (words_of text))
    else Err BadLine
