-- The error lines and statuses of files that get no answer.
use Rattle.std.specs.Prelude.{ℕ, List, [], ◌++◌, codes, decimal}
use Rattle.line_input.specs.declared.statuses.status.Status.{Status}
use Rattle.line_input.specs.declared.statuses.status.Status.TheVariants as S
use Rattle.line_input.specs.declared.statuses.status.RunError.TheVariants as T
use Rattle.line_input.specs.Statuses as lines
use Rattle.world_text.specs.declared.reading.reason.Reason.TheVariants as L
use Rattle.sexpr_text.specs.declared.fault.SexprReason.{SexprReason}
use Rattle.sexpr_text.specs.declared.fault.SexprReason.TheVariants as R
use Rattle.sexpr_text.specs.declared.fault.SexprFault.{SexprFault}
use Rattle.sexpr_text.specs.declared.fault.SexprFault.TheVariants as F
use Rattle.file_modes.specs.declared.trouble.FileError.{FileError}
use Rattle.file_modes.specs.declared.trouble.FileError.TheVariants.{Input, Text}

-- the words of a reason that only a text of S-expressions has, without its number
abbrev pub fixed_words : SexprReason → List ℕ
fixed_words (R.Header reason) = []
fixed_words R.BadToken = codes "bad token"
fixed_words R.BadForm = codes "bad form"
fixed_words R.NoRegister = lines.fixed_words L.NoRegister
fixed_words R.RegisterTwice = lines.fixed_words L.RegisterTwice
fixed_words R.NoArea = lines.fixed_words L.NoArea
fixed_words R.BadNumber = lines.fixed_words L.BadNumber
fixed_words R.TooManyFields = lines.fixed_words L.TooManyFields
fixed_words R.LabelTwice = codes "label twice"
fixed_words (R.NoLabel label) = codes "no label"
fixed_words R.NoEnd = lines.fixed_words L.NoEnd
fixed_words R.TextAfterEnd = lines.fixed_words L.TextAfterEnd
fixed_words R.InputTooLong = lines.fixed_words L.InputTooLong

abbrev pub label_words : ℕ → List ℕ
label_words label = codes "no label " ++ decimal label

-- the error line with this reason for line n
abbrev pub reason_line : ℕ → SexprReason → List ℕ
reason_line n (R.Header reason) = lines.error_line n (lines.reason_words reason)
reason_line n (R.NoLabel label) = lines.error_line n (label_words label)
reason_line n reason = lines.error_line n (fixed_words reason)

-- the error line of a text of S-expressions that gives no world
abbrev pub fault_line : SexprFault → List ℕ
fault_line (F.Bad n reason) = reason_line n reason
fault_line (F.TooSmall n) = lines.trouble_line (T.TooSmall n)
fault_line F.NoMemory = lines.trouble_line T.Memory

-- the status that goes with it
abbrev pub fault_status : SexprFault → Status
fault_status (F.Bad n reason) = S.Refused
fault_status (F.TooSmall n) = S.NoSpace
fault_status F.NoMemory = S.NoMemory

-- the error line of a trouble
abbrev pub trouble_line : FileError → List ℕ
trouble_line (Input trouble) = lines.trouble_line trouble
trouble_line (Text fault) = fault_line fault

-- the status that goes with it
abbrev pub status_of : FileError → Status
status_of (Input trouble) = lines.status_of trouble
status_of (Text fault) = fault_status fault
