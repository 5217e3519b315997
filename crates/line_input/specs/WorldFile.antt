-- What a world file means, line by line, up to the first line that breaks a rule.
use Rattle.std.specs.Prelude.{ℕ, List, true, Result, Ok, Err}
use Rattle.lisp_graph.specs.declared.world.World.{World}
use Rattle.world_text.specs.declared.reading.reason.Reason.TheVariants.{NotAWorld}
use Rattle.world_text.specs.Line.{line_at}
use Rattle.world_text.specs.Reader.{Said as WorldSaid, is_closed, opening_place}
use Rattle.line_input.specs.declared.statuses.status.RunError.{RunError}
use Rattle.line_input.specs.Statuses.{world_trouble}
use Rattle.line_input.specs.Verdict.{Rules}
use Rattle.line_input.specs.Verdict as lines
use Rattle.line_input.specs.declared.world_file.WorldFile.{WorldFile}

-- before the first line
abbrev pub start : WorldFile
start = record { builder = opening_place true }

-- after the line of this number, which has this meaning for the world
abbrev pub next : ℕ → WorldFile → WorldSaid → Result WorldFile RunError
next number file (Ok (step, builder)) = Ok (record { builder = builder })
next number file (Err fault) = Err (world_trouble number file.builder.world.areas fault)

-- How the lines of a world file are judged. They are whole after `end-world`; an empty file is judged as an empty line.
abbrev pub file_rules : Rules WorldFile World
file_rules = record {
  is_whole = λ file. is_closed file.builder.part;
  says = λ number file text. next number file (line_at file.builder text);
  whole = λ file. file.builder.world;
  empty = NotAWorld;
}

-- The verdict on a world file: its world, or the trouble with the first line that breaks a rule.
abbrev pub verdict : List ℕ → Result World RunError
verdict bytes = lines.verdict file_rules start bytes
