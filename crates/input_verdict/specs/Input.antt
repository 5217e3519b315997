-- The judge of the lines of an input, and a place between two of them.
use Rattle.std.specs.Prelude.{false}
use Rattle.world_text.specs.Reader.{opening_place}
use Rattle.line_input.specs.declared.judging.input.InputReader.{InputReader}
use Rattle.line_input.specs.Verdict.{start}
use Rattle.input_verdict.specs.declared.input.InputJudge.{InputJudge}

-- what the lines so far mean, their number, and how many bytes they have
abbrev pub JudgedInput : Type 0
JudgedInput = InputReader InputJudge

abbrev pub first_judge : InputJudge
first_judge = record { builder = opening_place false; ended = false }

-- before the first line
abbrev pub start_place : JudgedInput
start_place = start first_judge
