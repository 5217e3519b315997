-- What an input means, line by line, up to the first line that breaks a rule.
use Rattle.std.specs.Prelude.{ℕ, List, [], ◌∷◌, ◌++◌, true, false, if◌then◌else◌, Option, Some, None, Result, Ok, Err}
use Rattle.world_text.specs.declared.reading.reason.Reason.{Reason}
use Rattle.world_text.specs.declared.reading.reason.Reason.TheVariants.{BadLine}
use Rattle.world_text.specs.Line.{line_at}
use Rattle.world_text.specs.Reader.{Said as WorldSaid, is_closed, opening_place}
use Rattle.line_input.specs.declared.statuses.status.RunError.{RunError}
use Rattle.line_input.specs.declared.statuses.status.RunError.TheVariants as T
use Rattle.line_input.specs.Statuses.{world_trouble}
use Rattle.line_input.specs.Verdict.{Rules}
use Rattle.line_input.specs.Verdict as lines
use Rattle.band_run.specs.declared.reading.command.BandCommand.{BandCommand}
use Rattle.band_run.specs.declared.reading.command.BandCommand.TheVariants as C
use Rattle.band_run.specs.declared.reading.input.BandFile.{BandFile}
use Rattle.band_run.specs.declared.reading.input.BandInput.{BandInput}
use Rattle.band_run.specs.declared.reading.line.BandLine.{BandLine}
use Rattle.band_run.specs.declared.reading.line.BandLine.TheVariants as L
use Rattle.band_run.specs.Lines.{band_line}

-- One line

abbrev pub start : BandInput
start = record { commands = []; file = None; ended = false }

-- what a line leads to: the input including it, or the trouble with it
abbrev pub Said : Type 0
Said = Result BandInput RunError

-- after one more command
abbrev pub with_command : BandInput → BandCommand → BandInput
with_command input command = record input { commands = input.commands ++ command ∷ [] }

-- the file of a save, before its first line
abbrev pub new_file : List ℕ → BandFile
new_file name = record { name = name; text = []; builder = opening_place true }

-- after the line of this number, which isn't part of a file
abbrev pub command_next : ℕ → BandInput → Result BandLine Reason → Said
command_next number input (Ok L.Open) = Ok (with_command input C.Open)
command_next number input (Ok (L.Save name)) = Ok (record input { file = Some (new_file name) })
command_next number input (Ok (L.Load name)) = Ok (with_command input (C.Load name))
command_next number input (Ok L.List) = Ok (with_command input C.List)
command_next number input (Ok L.End) = Ok (record input { ended = true })
command_next number input (Err reason) = Err (T.Line number reason)

-- the text of a file, each line of it with its line feed
abbrev pub text_with : BandFile → List ℕ → List ℕ
text_with file text = file.text ++ (text ++ 10 ∷ [])

-- After a line of a file, which has this number. The line that closes its world makes it a command.
abbrev pub file_next : ℕ → BandInput → BandFile → List ℕ → WorldSaid → Said
file_next number input file text (Ok (step, builder)) =
    if is_closed builder.part then Ok (with_command (record input { file = None }) (C.Save file.name (text_with file text)))
    else Ok (record input { file = Some (record file { text = text_with file text; builder = builder }) })
file_next number input file text (Err fault) = Err (world_trouble number file.builder.world.areas fault)

-- what a text leads to as the line of this number
abbrev pub line_in : ℕ → BandInput → Option BandFile → List ℕ → Said
line_in number input None text = command_next number input (band_line text)
line_in number input (Some file) text = file_next number input file text (line_at file.builder text)

-- All lines

-- How the lines of an input are judged. They are whole after `end`; an empty input is judged as an empty line.
abbrev pub band_rules : Rules BandInput (List BandCommand)
band_rules = record {
  is_whole = λ input. input.ended;
  says = λ number input text. line_in number input input.file text;
  whole = λ input. input.commands;
  empty = BadLine;
}

-- The verdict on an input: its commands, or the trouble with the first line that breaks a rule.
abbrev pub verdict : List ℕ → Result (List BandCommand) RunError
verdict bytes = lines.verdict band_rules start bytes
