-- What a run over a file reads and writes, for each status.
use Rattle.std.specs.Prelude.{◌≡◌, ℕ, List, [], ◌++◌, Option, Result, Ok, Err, IfErr, IfSome, unwrap_or}
use Rattle.outer_ports.specs.Ports.{Gave}
use Rattle.command_words.specs.declared.mode.FileMode.{FileMode}
use Rattle.lisp_graph.specs.declared.world.World.{World}
use Rattle.line_input.specs.declared.statuses.status.Status.{Status}
use Rattle.line_input.specs.declared.statuses.status.Status.TheVariants as S
use Rattle.line_input.specs.declared.statuses.status.RunError.TheVariants as T
use Rattle.line_input.specs.Statuses.{Closed}
use Rattle.file_modes.specs.declared.trouble.FileError.{FileError}
use Rattle.file_modes.specs.declared.trouble.FileError.TheVariants.{Input}
use Rattle.file_modes.specs.Modes.{Demands, IsMissing}
use Rattle.file_modes.specs.Reading.{IsOfFile, IsUndecided, IsWorldOf, world_of}
use Rattle.file_modes.specs.FileError.{status_of, trouble_line}

-- The possible answers to the file i, of which the source gave b: the text that the mode requests of its world; that there is no such object; that the source failed before b decided anything; that memory ran out; the trouble with the file.
abbrev pub IsOutcome : FileMode → List ℕ → List ℕ → Result (List ℕ) FileError → Type 0
IsOutcome mode i b (Ok text) = (world : World) × IsWorldOf mode i b world × Demands mode world text
IsOutcome mode i b (Err (Input (T.NoObject object))) = (world : World) × IsWorldOf mode i b world × IsMissing mode world object
IsOutcome mode i b (Err (Input T.Read)) = IsUndecided mode b
IsOutcome mode i b (Err (Input T.Memory)) = Unit {0}
IsOutcome mode i b (Err trouble) = IsOfFile trouble × (world_of mode i ≡ Err trouble)

-- the status that goes with an outcome
abbrev pub outcome_status : Result (List ℕ) FileError → Status
outcome_status (Ok text) = S.Done
outcome_status (Err trouble) = status_of trouble

-- if an outcome reports that the source failed, it has a cause: the source's count of failed calls rose
abbrev pub IsCaused : Type 0 → Result (List ℕ) FileError → Type 0
IsCaused source_rose outcome = IfErr outcome (λ trouble. trouble ≡ Input T.Read → source_rose)

-- everything that is written for an outcome: the text, or the error line
abbrev pub outcome_text : Result (List ℕ) FileError → List ℕ
outcome_text (Ok text) = text
outcome_text (Err trouble) = trouble_line trouble

-- The answer to a file, before it is written: i is the file, and b what the source gave of it.
pub record WasAnswered (mode : FileMode) (left left' : Option (List ℕ)) (outcome : Result (List ℕ) FileError) : Type 0 where
  pub i : List ℕ
  pub b : List ℕ
  pub input : IfSome left (λ bytes. bytes ≡ i)
  pub gave : Gave left left' b
  pub rest : i ≡ b ++ unwrap_or left' []
  pub right : IsOutcome mode i b outcome

-- A run that ended with this status: i is the file, and b what the source gave of it. If the source doesn't report what remains, the file is what it gave. The outcome reports a failed source only if the source's count of failed calls rose. The sink gained the text of the outcome, and the status is that of the outcome; or the sink failed, and gained a prefix of the text. (Seven parameters: the mode, what the source and the sink have, each before and after, whether an error of the source occurred, and the status.)
pub record Ran (mode : FileMode) (left left' : Option (List ℕ)) (held held' : List ℕ → Type 0) (source_rose : Type 0) (status : Status) : Type 0 where
  pub i : List ℕ
  pub b : List ℕ
  pub input : IfSome left (λ bytes. bytes ≡ i)
  pub gave : Gave left left' b
  pub rest : i ≡ b ++ unwrap_or left' []
  pub outcome : Result (List ℕ) FileError
  pub right : IsOutcome mode i b outcome
  pub cause : IsCaused source_rose outcome
  pub wrote : Closed held held' (outcome_text outcome) (outcome_status outcome) status
