-- Memory ran out before the arguments were read.
use Rattle.std.proofs.Common.{◌≡◌, ℕ, List, [], Option, Some, None, Err, refl}
use Rattle.std.specs.Prelude.{IfSome, unwrap_or}
use Rattle.outer_ports.proofs.Gains.{gave_nothing}
use Rattle.line_input.specs.declared.statuses.status.Status.{Status}
use Rattle.line_input.specs.declared.statuses.status.Status.TheVariants.{NoMemory}
use Rattle.line_input.specs.declared.statuses.status.RunError.TheVariants.{Memory}
use Rattle.line_input.specs.Statuses.{Closed, trouble_line}
use Rattle.command_words.specs.declared.mode.FileMode.{FileMode}
use Rattle.file_modes.specs.declared.trouble.FileError.TheVariants.{Input}
use Rattle.file_modes.specs.Outcome.{Ran}

all_left : (left : Option (List ℕ)) → IfSome left (λ bytes. bytes ≡ unwrap_or left [])
all_left None = tt
all_left (Some bytes) = refl

pub unread_file : {held held' : List ℕ → Type 0} {source_rose : Type 0} (mode : FileMode) (left : Option (List ℕ)) (status : Status) → Closed held held' (trouble_line Memory) NoMemory status → Ran mode left left held held' source_rose status
unread_file mode left status told = record {
  i = unwrap_or left [];
  b = [];
  input = all_left left;
  gave = gave_nothing left;
  rest = refl;
  outcome = Err (Input Memory);
  right = tt;
  cause = λ e. absurd (cc (e));
  wrote = told;
}
