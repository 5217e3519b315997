-- What an input means, line by line, up to the first line that breaks a rule.
use Rattle.std.specs.Prelude.{ℕ, ◌+◌, ◌^◌, List, [], ◌∷◌, ◌++◌, length, Bool, true, if◌then◌else◌, Option, Some, None, Result, Ok, Err}
use Rattle.lisp_graph.specs.declared.command.Command.{Command}
use Rattle.lisp_graph.specs.declared.world.World.{World}
use Rattle.world_text.specs.declared.reading.reason.Reason.{Reason}
use Rattle.world_text.specs.declared.reading.reason.Reason.TheVariants.{NotAWorld}
use Rattle.world_text.specs.Line.{line_at}
use Rattle.world_text.specs.Reader.{Said as WorldSaid, is_closed}
use Rattle.trace_text.specs.Commands.{TraceLine, Run, End, trace_line}
use Rattle.line_input.specs.declared.statuses.status.RunError.{RunError}
use Rattle.line_input.specs.declared.statuses.status.RunError.TheVariants as T
use Rattle.line_input.specs.Lines.{Line, lines_of, size_of}
use Rattle.line_input.specs.Limits.{broken_limit, enough_bytes}
use Rattle.line_input.specs.Statuses.{world_trouble}
use Rattle.line_input.specs.Verdict.{early_reason, further, unless_broken}
use Rattle.input_verdict.specs.Input.{JudgedInput, start_place}
use Rattle.input_verdict.specs.Events.{Event, Nothing, Opens, Does}

-- Places

-- the world is whole: the trace is being read, or was read
abbrev pub in_trace : JudgedInput → Bool
in_trace place = is_closed place.judge.builder.part

-- One line

-- an accepted line: what it requests, and the place after it
pub record Next : Type 0 where
  pub event : Event
  pub place : JudgedInput

-- what a line leads to, or the trouble with it
abbrev pub Said : Type 0
Said = Result Next RunError

-- After a line of the world. The line that closes the world opens a machine for it.
abbrev pub world_next : JudgedInput → WorldSaid → Said
world_next place (Ok (step, builder)) =
    if is_closed builder.part
    then Ok (record { event = Opens; place = record place { judge = record place.judge { builder = builder } } })
    else Ok (record { event = Nothing; place = record place { judge = record place.judge { builder = builder } } })
world_next place (Err fault) = Err (world_trouble (place.lines + 1) place.judge.builder.world.areas fault)

-- after a line of the trace
abbrev pub trace_next : JudgedInput → Result TraceLine Reason → Said
trace_next place (Ok (Run command)) = Ok (record { event = Does command; place = place })
trace_next place (Ok End) = Ok (record { event = Nothing; place = record place { judge = record place.judge { ended = true } } })
trace_next place (Err reason) = Err (T.Line (place.lines + 1) reason)

-- what a text leads to as a line in its place
abbrev pub line_in : JudgedInput → List ℕ → Said
line_in place text =
    if in_trace place then trace_next place (trace_line place.judge.builder.world.space place.judge.builder.world.areas text)
    else world_next place (line_at place.judge.builder text)

-- one more line of this size was read
abbrev pub counted : ℕ → Said → Said
counted size (Ok next) = Ok (record next { place = further next.place size })
counted size (Err trouble) = Err trouble

-- What a line of this text and size leads to in its place, in an input of at most 2^40 bytes: a line that breaks a limit is refused for that.
abbrev pub judged_as : JudgedInput → List ℕ → ℕ → Said
judged_as place text size =
    unless_broken (place.lines + 1) (broken_limit (2 ^ 40) place.judge.ended place.bytes (length text) size) (counted size (line_in place text))

-- how many bytes of the next line decide it if they contain no line feed
abbrev pub enough : JudgedInput → ℕ
enough place = enough_bytes (2 ^ 40) place.judge.ended place.bytes

-- All lines

-- what has been read: the place after it, the commands, and the number of bytes before each command's line
pub record Read : Type 0 where
  pub place : JudgedInput
  pub commands : List Command
  pub starts : List ℕ

abbrev pub start : Read
start = record { place = start_place; commands = []; starts = [] }

-- the world, if the trace was reached
abbrev pub world_of : JudgedInput → Option World
world_of place = if in_trace place then Some place.judge.builder.world else None

-- what has been read, after one more line, which requests this event
abbrev pub noted : Read → Event → JudgedInput → Read
noted read (Does command) place = record { place = place; commands = read.commands ++ command ∷ []; starts = read.starts ++ read.place.bytes ∷ [] }
noted read _ place = record read { place = place }

-- the trouble with the first line that breaks a rule, and what was read before it
pub record Stopped : Type 0 where
  pub read : Read
  pub trouble : RunError

abbrev pub decided : Read → Said → (Read → Result Read Stopped) → Result Read Stopped
decided read (Ok next) rest = rest (noted read next.event next.place)
decided read (Err trouble) rest = Err (record { read = read; trouble = trouble })

-- what is read of these lines if each keeps the rules; otherwise what was read before the first that doesn't, and its trouble
abbrev pub judged : Read → List Line → Result Read Stopped
judged read [] = Ok read
judged read (line ∷ lines) = decided read (judged_as read.place line.text (size_of line)) (λ next. judged next lines)

-- an input is whole, or has this trouble
pub data Ending : Type 0 where
  Whole : Ending
  Broken : RunError → Ending

-- the end of the lines: after `end`, or too early; an empty input is judged as an empty line
abbrev pub ending_at : JudgedInput → Ending
ending_at place =
    if place.judge.ended then Whole
    else Broken (T.Line (place.lines + 1) (early_reason place.lines NotAWorld))

-- what an input means, and how it ends
pub record Verdict : Type 0 where
  pub read : Read
  pub ending : Ending

abbrev pub ended : Result Read Stopped → Verdict
ended (Ok read) = record { read = read; ending = ending_at read.place }
ended (Err stopped) = record { read = stopped.read; ending = Broken stopped.trouble }

-- The verdict on an input.
abbrev pub verdict : List ℕ → Verdict
verdict bytes = ended (judged start (lines_of bytes))
