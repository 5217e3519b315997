-- What an exercise writes, for each status.
use Rattle.std.specs.Prelude.{◌≡◌, ℕ, List, [], Bool}
use Rattle.outer_ports.specs.Lines.{counted_of}
use Rattle.outer_ports.specs.declared.sinks.tally.Tally.{Tally}
use Rattle.paged_machine.specs.lisp_meaning.State.{State}
use Rattle.trace_text.specs.Made.{made}
use Rattle.trace_text.specs.Summary.{summary}
use Rattle.line_input.specs.declared.statuses.status.Status.{Status}
use Rattle.line_input.specs.declared.statuses.status.Status.TheVariants.{Done, NoMemory}
use Rattle.line_input.specs.declared.statuses.status.RunError.TheVariants.{Memory}
use Rattle.line_input.specs.Statuses.{Closed, trouble_line}
use Rattle.input_verdict.specs.Verdict.{Read, Whole, verdict, world_of}
use Rattle.replay_run.specs.Outcome.{IsUnloaded, IsUntouched}
use Rattle.replay_run.specs.Replies.{Answered}

-- How a run of the generated input i may end, and how much of i was read: to its end; or, if memory ran out, none of it. The swap device can't fail before the first command, since the generated world has no objects.
abbrev pub Ends : Status → Bool → List ℕ → Read → Type 0
Ends Done loaded i read = verdict i ≡ record { read = read; ending = Whole }
Ends NoMemory loaded i read = IsUnloaded loaded read
Ends _ loaded i read = ⊥

-- what is written if the run had these replies and ended with this status: the summary of the replies, or only the error line
abbrev pub exercise_text : ℕ → List ℕ → Status → List ℕ
exercise_text count replies Done = summary count (counted_of replies).tally
exercise_text count replies NoMemory = trouble_line Memory
exercise_text count replies _ = []

-- The generated input for this number and this count was run up to a point at which the run ended with this status; the replies are those of one run of the definition, and the tally is theirs.
pub record RanMade (number count : ℕ) (stands : State → Type 0) (loaded : Bool) (rose : ℕ) (ended : Status) (tally : Tally) : Type 0 where
  pub read : Read
  pub replies : List ℕ
  pub ends : Ends ended loaded (made number count) read
  pub answered : Answered (world_of read.place) read.commands stands rose replies
  pub untouched : IsUntouched ended (world_of read.place) rose
  pub counts : ended ≡ Done → tally ≡ (counted_of replies).tally

-- An exercise that ended with this status: the generated input was run, and what has to be written for its replies was written, or the sink failed in it. (Eight parameters: the two arguments, what the sink has before and after, what is represented, whether a world is loaded, the swap errors, and the status.)
pub record Exercised (number count : ℕ) (held held' : List ℕ → Type 0) (stands : State → Type 0) (loaded : Bool) (rose : ℕ) (status : Status) : Type 0 where
  pub ended : Status
  pub read : Read
  pub replies : List ℕ
  pub ends : Ends ended loaded (made number count) read
  pub answered : Answered (world_of read.place) read.commands stands rose replies
  pub untouched : IsUntouched ended (world_of read.place) rose
  pub wrote : Closed held held' (exercise_text count replies ended) ended status
