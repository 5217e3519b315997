-- What is observed of a run, from its parts.
use Rattle.std.proofs.Common.{ℕ, List, Bool, Option, Result}
use Rattle.paged_machine.specs.lisp_meaning.State.{State}
use Rattle.line_input.specs.declared.statuses.status.Status.{Status}
use Rattle.line_input.specs.declared.statuses.status.Status.TheVariants.{Done, WriteFailed, Refused, ReadFailed, NoSpace, NoMemory, SwapFailed, Usage, NoObject}
use Rattle.line_input.specs.declared.statuses.status.RunStop.{RunStop}
use Rattle.input_verdict.specs.Verdict.{Read}
use Rattle.replay_run.specs.Outcome.{Demands, EndsWith, Observed, Ran, Wrote}
use Rattle.replay_run.specs.Steps.{RanTo}

abbrev pub observes : List ℕ → List ℕ → ℕ → List ℕ → (State → Type 0) → Bool → Type 0 → ℕ → Observed
observes i b last w stands loaded source_rose rose = record { input = i; taken = b; last = last; written = w; stands = stands; loaded = loaded; source_rose = source_rose; swap_rose = rose }

-- some input was run up to a stop, or to its end
abbrev pub HasStopped : Option (List ℕ) → Option (List ℕ) → ℕ → (List ℕ → Type 0) → (List ℕ → Type 0) → (State → Type 0) → Bool → Type 0 → ℕ → List ℕ → Result (Unit {0}) RunStop → Type 0
HasStopped left left' last held held' stands loaded source_rose rose pending result = (i b w : List ℕ) × RanTo left left' held held' (observes i b last w stands loaded source_rose rose) pending result

abbrev pub HasRun : Option (List ℕ) → Option (List ℕ) → ℕ → (List ℕ → Type 0) → (List ℕ → Type 0) → (State → Type 0) → Bool → Type 0 → ℕ → Status → Type 0
HasRun left left' last held held' stands loaded source_rose rose status = (i b w : List ℕ) × Ran left left' held held' (observes i b last w stands loaded source_rose rose) status

-- what a status requires depends on what was read, and on whether the world is loaded
pub demands_as : (status : Status) (i b : List ℕ) (last : ℕ) (w w' : List ℕ) (stands means : State → Type 0) (loaded : Bool) (source_rose : Type 0) (rose : ℕ) (read : Read) (line : List ℕ)
    → Demands status (observes i b last w stands loaded source_rose rose) read line → Demands status (observes i b last w' means loaded source_rose rose) read line
demands_as Done i b last w w' stands means loaded source_rose rose read line d = d
demands_as WriteFailed i b last w w' stands means loaded source_rose rose read line d = d
demands_as Refused i b last w w' stands means loaded source_rose rose read line d = d
demands_as ReadFailed i b last w w' stands means loaded source_rose rose read line d = d
demands_as NoSpace i b last w w' stands means loaded source_rose rose read line d = d
demands_as NoMemory i b last w w' stands means loaded source_rose rose read line d = d
demands_as SwapFailed i b last w w' stands means loaded source_rose rose read line d = d
demands_as Usage i b last w w' stands means loaded source_rose rose read line d = d
demands_as NoObject i b last w w' stands means loaded source_rose rose read line d = d

pub wrote_ended : (status : Status) (o : Observed) → EndsWith status o → Wrote status o
wrote_ended Done o e = e
wrote_ended WriteFailed o e = absurd e.demands
wrote_ended Refused o e = e
wrote_ended ReadFailed o e = e
wrote_ended NoSpace o e = e
wrote_ended NoMemory o e = e
wrote_ended SwapFailed o e = e
wrote_ended Usage o e = e
wrote_ended NoObject o e = e
