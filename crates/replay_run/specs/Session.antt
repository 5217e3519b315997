-- A run that is fed one line after another.
use Rattle.std.specs.Prelude.{◌≡◌, ℕ, List, [], ◌∷◌, ◌++◌, length, take, nat_le, if◌then◌else◌, true, is_some, Some, None, Ok}
use Rattle.lisp_graph.specs.declared.command.Command.{Command}
use Rattle.lisp_graph.specs.declared.world.World.{World}
use Rattle.lisp_graph.specs.Commands.{IsRunnable}
use Rattle.paged_machine.specs.Holding.{Holding, StandsFor, Takes}
use Rattle.line_input.specs.declared.statuses.status.RunError.{RunError}
use Rattle.line_input.specs.declared.statuses.status.RunError.TheVariants.{Memory}
use Rattle.line_input.specs.declared.statuses.status.RunStop.{RunStop}
use Rattle.line_input.specs.declared.statuses.status.RunStop.TheVariants.{Tell, Write}
use Rattle.line_input.specs.Lines.{lines_of, whole_lines}
use Rattle.input_verdict.specs.Input.{JudgedInput}
use Rattle.input_verdict.specs.Places.{IsPlace}
use Rattle.input_verdict.specs.Verdict.{Read, judged, start, world_of}
use Rattle.replay_run.specs.declared.session.SessionState.{SessionState}
use Rattle.replay_run.specs.declared.session.SessionState.TheVariants.{Open, Ended}
use Rattle.replay_run.specs.Outcome.{Observed, Wrote}
use Rattle.replay_run.specs.Replies.{Answered}

-- what callers see of a session: the place in its input, its machine, whether it is open, and the answer to the latest call
pub record Seen : Type 0 where
  pub place : JudgedInput
  pub machine : Holding
  pub state : SessionState
  pub answer : List ℕ

-- What a run takes for a line with this text: the text and its line feed; if the text has more than 32,768 bytes, its first 32,769, which decide that it is too long.
abbrev pub fed_of : List ℕ → List ℕ
fed_of text = if nat_le (length text) 32768 then text ++ 10 ∷ [] else take 32769 text

-- the trouble that a session reports when a run stops; if the sink fails, a dump had no room
abbrev pub trouble_of : RunStop → RunError
trouble_of (Tell trouble) = trouble
trouble_of Write = Memory

-- An open session: these bytes were fed to it, whole lines that keep the rules, and `written` was written for them, the replies of one run of their commands. The machine represents the state after them, and takes each command that may follow.
pub record GoesOn (fed written : List ℕ) (s : Seen) : Type 0 where
  pub read : Read
  pub lines : judged start (lines_of fed) ≡ Ok read
  pub at : read.place ≡ s.place
  pub answered : Answered (world_of s.place) read.commands (StandsFor s.machine.heap) s.machine.faults written
  pub untouched : world_of s.place ≡ None → s.machine.faults ≡ 0
  pub cuts : (more : List ℕ) → lines_of (fed ++ more) ≡ lines_of fed ++ lines_of more
  pub whole : whole_lines (lines_of fed) ≡ lines_of fed
  pub size : length fed ≡ s.place.bytes
  pub form : IsPlace s.place
  pub takes : (world : World) → world_of s.place ≡ Some world → (command : Command) → IsRunnable world command → Takes s.machine.heap command
  pub idle : world_of s.place ≡ None → s.machine.idle ≡ true

-- what is observed of a session: its input is all that was fed, as one piece
abbrev pub observed : List ℕ → List ℕ → Holding → Observed
observed fed written machine = record { input = fed; taken = fed; last = length fed; written = written; stands = StandsFor machine.heap; loaded = is_some machine.heap; source_rose = ⊥; swap_rose = machine.faults }

-- What a session has done, by its state, if these bytes were fed and this was written: it is open, or it has ended with a status, and then what was written is what a run writes on the input `fed`.
abbrev pub DoesIn : SessionState → List ℕ → List ℕ → Seen → Type 0
DoesIn Open fed written s = GoesOn fed written s
DoesIn (Ended status) fed written s = Wrote status (observed fed written s.machine)

abbrev pub Does : List ℕ → List ℕ → Seen → Type 0
Does fed written s = DoesIn s.state fed written s
