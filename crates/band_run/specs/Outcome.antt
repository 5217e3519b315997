-- What a run reads and writes, for each status.
use Rattle.std.specs.Prelude.{◌≡◌, ◌⊎◌, ℕ, ◌<◌, List, [], ◌++◌, length, Bool, true, false, Option, Ok, Err, IfSome, unwrap_or}
use Rattle.outer_ports.specs.Ports.{Gained, Gave, IsCut}
use Rattle.line_input.specs.declared.statuses.status.Status.{Status}
use Rattle.line_input.specs.declared.statuses.status.Status.TheVariants.{Done, WriteFailed, Refused, ReadFailed, NoSpace, NoMemory}
use Rattle.line_input.specs.declared.statuses.status.RunError.{RunError}
use Rattle.line_input.specs.declared.statuses.status.RunError.TheVariants.{Read as ReadTrouble, Memory}
use Rattle.line_input.specs.Statuses.{status_of, trouble_line}
use Rattle.line_input.specs.Verdict.{IsUndecided}
use Rattle.band_run.specs.declared.reading.command.BandCommand.{BandCommand}
use Rattle.band_run.specs.Verdict.{band_rules, start, verdict}

-- Statuses

-- a run with this status may have run commands; with any other, it ended before the first
abbrev pub runs_commands : Status → Bool
runs_commands Done = true
runs_commands WriteFailed = true
runs_commands NoMemory = true
runs_commands _ = false

-- the input has a trouble with this status, and `line` reports it
pub record Breaks (status : Status) (i line : List ℕ) : Type 0 where
  pub trouble : RunError
  pub verdict_is : verdict i ≡ Err trouble
  pub status_is : status_of trouble ≡ status
  pub told : line ≡ trouble_line trouble

-- no command was run
abbrev pub NoneRun : List BandCommand → List BandCommand → Type 0
NoneRun done later = (done ≡ []) × (later ≡ [])

-- the source gave all of the input, and its commands are these
abbrev pub Says : List ℕ → List ℕ → List BandCommand → Type 0
Says i b commands = (b ≡ i) × (verdict i ≡ Ok commands)

-- What each status except that of the sink requires of the input i and of b, which the source gave of it: whose commands' replies are written, which commands weren't run, and which line follows the replies.
abbrev pub Demands : Status → List ℕ → List ℕ → List BandCommand → List BandCommand → List ℕ → Type 0
Demands Done i b done later line = Says i b done × (later ≡ []) × (line ≡ [])
Demands Refused i b done later line = NoneRun done later × Breaks Refused i line
Demands NoSpace i b done later line = NoneRun done later × Breaks NoSpace i line
Demands ReadFailed i b done later line = NoneRun done later × IsUndecided band_rules start b × (line ≡ trouble_line ReadTrouble)
Demands NoMemory i b done later line = (NoneRun done later ⊎ (Says i b (done ++ later) × (0 < length later))) × (line ≡ trouble_line Memory)
Demands _ i b done later line = ⊥

-- The sink failed in the reply to the last command that was run: w is a prefix of the replies so far, and so of the replies to all commands.
pub record CutReply (answers : List BandCommand → List BandCommand → List ℕ → Type 0) (i b w : List ℕ) : Type 0 where
  pub done : List BandCommand
  pub later : List BandCommand
  pub says : Says i b (done ++ later)
  pub text : List ℕ
  pub answered : answers done later text
  pub cut : IsCut text w

-- a status that reports a failed source has its cause: the source's count of failed calls rose
abbrev pub IsCaused : Type 0 → Status → Type 0
IsCaused source_rose ReadFailed = source_rose
IsCaused source_rose _ = Unit {0}

-- The sink failed in what another status requires. That status has its cause.
pub record CutLine (answers : List BandCommand → List BandCommand → List ℕ → Type 0) (source_rose : Type 0) (i b w : List ℕ) : Type 0 where
  pub status : Status
  pub done : List BandCommand
  pub later : List BandCommand
  pub text : List ℕ
  pub line : List ℕ
  pub demands : Demands status i b done later line
  pub cause : IsCaused source_rose status
  pub answered : answers done later text
  pub cut : IsCut (text ++ line) w

-- what was written, by the status
abbrev pub Wrote : Status → (List BandCommand → List BandCommand → List ℕ → Type 0) → Type 0 → List ℕ → List ℕ → List ℕ → Type 0
Wrote WriteFailed answers source_rose i b w = CutReply answers i b w ⊎ CutLine answers source_rose i b w
Wrote status answers source_rose i b w =
    (done later : List BandCommand) × (text line : List ℕ) × Demands status i b done later line × answers done later text × (w ≡ text ++ line)

-- A run that ended with this status: i is the input, b what the source gave of it, and w what the sink gained. If the source doesn't report what remains, the input is what it gave. (Seven parameters: what the source and the sink have, each before and after, which texts answer commands, whether an error of the source occurred, and the status.)
pub record Ran (left left' : Option (List ℕ)) (held held' : List ℕ → Type 0) (answers : List BandCommand → List BandCommand → List ℕ → Type 0) (source_rose : Type 0) (status : Status) : Type 0 where
  pub i : List ℕ
  pub b : List ℕ
  pub w : List ℕ
  pub input : IfSome left (λ bytes. bytes ≡ i)
  pub gave : Gave left left' b
  pub rest : i ≡ b ++ unwrap_or left' []
  pub gained : Gained held held' w
  pub wrote : Wrote status answers source_rose i b w
