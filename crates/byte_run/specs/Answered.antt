-- What the programs write for arguments and an input, both given as bytes.
use Rattle.std.specs.Prelude.{◌≡◌, ◌⊎◌, ℕ, List, [], Option, is_some, Some, None}
use Rattle.std.specs.Option.{option_and_then}
use Rattle.outer_ports.specs.Ports.{Rose}
use Rattle.paged_machine.specs.Holding.{Holding, HasReading}
use Rattle.line_input.specs.declared.statuses.status.Status.{Status}
use Rattle.line_input.specs.declared.statuses.status.RunError.TheVariants.{Memory}
use Rattle.line_input.specs.Statuses.{code, trouble_line}
use Rattle.command_words.specs.declared.mode.Mode.{Mode}
use Rattle.command_words.specs.declared.mode.Mode.TheVariants as M
use Rattle.command_words.specs.Words.{mode_in, parts_of}
use Rattle.argument_bytes.specs.Arguments.{AreArguments, IsRefused}
use Rattle.file_modes.specs.Outcome as files
use Rattle.replay_run.specs.Outcome.{Ran}
use Rattle.replay_run.specs.Exercise.{Exercised}
use Rattle.replay_run.specs.Top.{Refused}
use Rattle.inside_run.specs.Outcome.{Shows, fail_in}

-- memory ran out: the status is 5, and the error line is written, or nothing if there was no memory for it
abbrev pub RanOut : List ℕ → ℕ → Type 0
RanOut written status = (status ≡ 5) × ((written ≡ []) ⊎ (written ≡ trouble_line Memory))

-- the mode that the bytes of arguments request; none if they are refused
abbrev pub HasMode : List ℕ → Option Mode → Type 0
HasMode bytes mode =
    ((arguments : List (List ℕ)) × AreArguments bytes arguments × (mode ≡ option_and_then mode_in (parts_of None arguments)))
    ⊎ (IsRefused bytes × (mode ≡ None))

-- the number of the page call that has to fail; none if the arguments are refused
abbrev pub HasFail : List ℕ → Option ℕ → Type 0
HasFail bytes fail = ((arguments : List (List ℕ)) × AreArguments bytes arguments × (fail ≡ fail_in arguments)) ⊎ (IsRefused bytes × (fail ≡ None))

-- What the mode requires of the input and of what was written. The source gives the input and never fails; the sink contains what was written.
abbrev pub Does : Option Mode → List ℕ → List ℕ → Status → Type 0
Does (Some M.Replay) input written status =
    (left : List ℕ) × (machine : Holding) × (rose : ℕ) × (last : ℕ) × (i b w : List ℕ) × Ran (Some input) (Some left) (λ had. [] ≡ had) (λ had. written ≡ had)
    (record { input = i; taken = b; last = last; written = w; stands = HasReading machine.heap; loaded = is_some machine.heap; source_rose = Rose 0 0; swap_rose = rose }) status
Does (Some (M.Exercise number count)) input written status =
    (machine : Holding) × (rose : ℕ) × Exercised number count (λ had. [] ≡ had) (λ had. written ≡ had) (HasReading machine.heap) (is_some machine.heap) rose status
Does (Some (M.OfFile mode)) input written status = (left : List ℕ) × files.Ran mode (Some input) (Some left) (λ had. [] ≡ had) (λ had. written ≡ had) (Rose 0 0) status
Does None input written status = Refused (λ had. [] ≡ had) (λ had. written ≡ had) status

-- For these arguments and this input `lispm` writes this and ends with this status.
pub record IsAnswer (arguments input written : List ℕ) (number : ℕ) : Type 0 where
  pub mode : Option Mode
  pub requests : HasMode arguments mode
  pub status : Status
  pub is : number ≡ code status
  pub does : Does mode input written status

-- what is written if this page call has to fail, or if the arguments are refused
abbrev pub ShowsFor : Option ℕ → List ℕ → List ℕ → Status → Type 0
ShowsFor (Some fail) input written status =
    (left : List ℕ) × (machine : Holding) × (rose last : ℕ) × Shows (Some input) (Some left) last (λ had. [] ≡ had) (λ had. written ≡ had) machine.heap (Rose 0 0) rose status
ShowsFor None input written status = Refused (λ had. [] ≡ had) (λ had. written ≡ had) status

-- For these arguments and this input `lispm_inside` writes this and ends with this status.
pub record IsShown (arguments input written : List ℕ) (number : ℕ) : Type 0 where
  pub fail : Option ℕ
  pub requests : HasFail arguments fail
  pub status : Status
  pub is : number ≡ code status
  pub does : ShowsFor fail input written status
