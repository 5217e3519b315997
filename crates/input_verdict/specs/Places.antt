-- What holds between two lines, and what their events may request of a machine.
use Rattle.std.specs.Prelude.{◌≡◌, true, Result, Ok, Err}
use Rattle.lisp_graph.specs.declared.world.World.{World}
use Rattle.lisp_graph.specs.Commands.{IsRunnable}
use Rattle.world_text.specs.Limits.{IsAccepted}
use Rattle.line_input.specs.declared.statuses.status.RunError.{RunError}
use Rattle.line_input.specs.declared.statuses.status.RunError.TheVariants as T
use Rattle.line_input.specs.Statuses.{IsOfLine}
use Rattle.line_input.specs.Verdict.{IsPlace as IsCounted}
use Rattle.input_verdict.specs.Input.{JudgedInput}
use Rattle.input_verdict.specs.Events.{Event, Nothing, Opens, Does}
use Rattle.input_verdict.specs.Verdict.{Said, in_trace}

-- what an event may request of a machine, in this world
abbrev pub MayDo : World → Event → Type 0
MayDo world Nothing = Unit {0}
MayDo world Opens = IsAccepted world
MayDo world (Does command) = IsRunnable world command

-- The numbers of lines and bytes are as between two lines of any input, and the world of a trace is accepted.
pub record IsPlace (place : JudgedInput) : Type 0 where
  pub counts : IsCounted place
  pub accepted : in_trace place ≡ true → IsAccepted place.judge.builder.world

-- A call that judged a line. If it accepted the line, the event and the new place are what the line leads to; otherwise the trouble is that of the line, or memory ran out.
abbrev pub Judged : JudgedInput → JudgedInput → Result Event RunError → Said → Type 0
Judged old new (Ok event) said = said ≡ Ok (record { event = event; place = new })
Judged old new (Err T.Memory) said = Unit {0}
Judged old new (Err trouble) said = IsOfLine trouble × (said ≡ Err trouble)
