-- One line, and the effect of answering it.
use Rattle.std.specs.Prelude.{◌≡◌, ◌≢◌, ◌⊎◌, ℕ, List, [], Bool, true, false, take, Option, Some, None, Result, Ok, Err}
use Rattle.lisp_graph.specs.declared.command.Command.{Command}
use Rattle.paged_machine.specs.lisp_meaning.State.{State}
use Rattle.line_input.specs.declared.statuses.status.Status.TheVariants.{Refused}
use Rattle.line_input.specs.declared.statuses.status.RunError.{RunError}
use Rattle.line_input.specs.declared.statuses.status.RunStop.{RunStop}
use Rattle.line_input.specs.declared.statuses.status.RunStop.TheVariants.{Tell}
use Rattle.line_input.specs.declared.lines.found.LineSpan.{LineSpan}
use Rattle.line_input.specs.Reader.{Buffered, IsFound}
use Rattle.line_input.specs.Statuses.{status_of}
use Rattle.input_verdict.specs.declared.input.JudgedLine.{JudgedLine}
use Rattle.input_verdict.specs.Input.{JudgedInput}
use Rattle.input_verdict.specs.Events.{Event, Nothing, Opens, Does, event_of}
use Rattle.input_verdict.specs.Places.{Judged}
use Rattle.input_verdict.specs.Verdict.{enough, judged_as, world_of}
use Rattle.replay_run.specs.declared.halt.LoopExit.{LoopExit}
use Rattle.replay_run.specs.declared.halt.LoopExit.TheVariants as halts
use Rattle.replay_run.specs.Steps.{Acted, FailsInDump, Fetched, TakesAfter, stop_of}

-- The next line was found in what is buffered, and accepted: what it requests, and its size.
pub record NextAccepted (place place' : JudgedInput) (held : Buffered) (size : ℕ) (event : Event) : Type 0 where
  pub found : LineSpan
  pub here : IsFound held (enough place) found
  pub all : size ≡ found.size
  pub accepted : judged_as place (take found.length held.bytes) found.size ≡ Ok (record { event = event; place = place' })

-- the run stops before there is a line: the source failed, or the sink did before more was taken
pub record NextMissing (place : JudgedInput) (held : Buffered) (pending : List ℕ) (stop : RunStop) : Type 0 where
  pub halt : LoopExit
  pub stops : stop ≡ stop_of halt
  pub fetched : Fetched held (enough place) pending (Err halt)

-- A line was refused, or memory ran out while it was judged, and nothing else changed. A trouble whose status isn't `Refused` occurs only before the trace.
pub record LineRefused (place : JudgedInput) (text : List ℕ) (size : ℕ) (stop : RunStop) (same : Type 0) : Type 0 where
  pub trouble : RunError
  pub stops : stop ≡ Tell trouble
  pub place' : JudgedInput
  pub judged : Judged place place' (Err trouble) (judged_as place text size)
  pub early : status_of trouble ≢ Refused → world_of place ≡ None
  pub still : same

-- the next line was refused, or memory ran out
pub record NextRefused (place : JudgedInput) (held : Buffered) (stop : RunStop) : Type 0 where
  pub found : LineSpan
  pub here : IsFound held (enough place) found
  pub refused : LineRefused place (take found.length held.bytes) found.size stop (Unit {0})

-- a call that judged the next line
abbrev pub JudgedNext : JudgedInput → JudgedInput → Buffered → List ℕ → Command → Result (Option JudgedLine) RunStop → Type 0
JudgedNext place place' held pending command (Ok None) = (held.bytes ≡ []) × (held.ended ≡ true) × (place' ≡ place)
JudgedNext place place' held pending command (Ok (Some line)) = NextAccepted place place' held line.found.size (event_of line.effect command)
JudgedNext place place' held pending command (Err stop) = NextMissing place held pending stop ⊎ NextRefused place held stop

-- A line was accepted, and what it requests was done.
pub record LineDone (place place' : JudgedInput) (text : List ℕ) (size : ℕ) (same : Type 0) (stood stands : State → Type 0) (took takes : Command → Type 0) (was_idle is_idle : Type 0) (faults faults' : ℕ)
    (held held' : List ℕ → Type 0) (had pending : List ℕ) : Type 0 where
  pub event : Event
  pub accepted : judged_as place text size ≡ Ok (record { event = event; place = place' })
  pub acted : Acted event place'.judge.builder.world stood stands faults faults' held held' had pending (Ok tt)
  pub takes_after : TakesAfter event place'.judge.builder.world took takes was_idle is_idle
  pub still : event ≡ Nothing → same

-- A line was accepted, and the run halted in what it requests. If there was room, the sink can have failed only in a dump.
pub record LineHalted (place place' : JudgedInput) (text : List ℕ) (size : ℕ) (stop : RunStop) (room : Type 0) (stood stands : State → Type 0) (loaded : Bool) (faults faults' : ℕ) (held held' : List ℕ → Type 0) (had pending : List ℕ) : Type 0 where
  pub halt : LoopExit
  pub stops : stop ≡ stop_of halt
  pub event : Event
  pub accepted : judged_as place text size ≡ Ok (record { event = event; place = place' })
  pub acted : Acted event place'.judge.builder.world stood stands faults faults' held held' had pending (Err halt)
  pub unloaded : event ≡ Opens → loaded ≡ false
  pub fits : halt ≡ halts.Write → room → (command : Command) × (event ≡ Does command) × FailsInDump command stood stands faults faults'
