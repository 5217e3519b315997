-- How a run ends: its status, and its error line.
use Rattle.std.specs.Prelude.{◌≡◌, ◌⊎◌, ℕ, List, [], ◌∷◌, ◌++◌, Result, Ok, Err, codes, decimal}
use Rattle.outer_ports.specs.Ports.{Gained, IsCut}
use Rattle.lisp_graph.specs.declared.world.AreaRule.{AreaRule}
use Rattle.world_text.specs.Spelling.{name_of}
use Rattle.world_text.specs.declared.fault.WorldFault.{WorldFault}
use Rattle.world_text.specs.declared.fault.WorldFault.TheVariants as F
use Rattle.world_text.specs.declared.reading.reason.Reason.{Reason}
use Rattle.world_text.specs.declared.reading.reason.Reason.TheVariants as R
use Rattle.line_input.specs.declared.statuses.status.Status.{Status}
use Rattle.line_input.specs.declared.statuses.status.Status.TheVariants as S
use Rattle.line_input.specs.declared.statuses.status.RunError.{RunError}
use Rattle.line_input.specs.declared.statuses.status.RunError.TheVariants as T
use Rattle.line_input.specs.declared.statuses.status.RunStop.{RunStop}
use Rattle.line_input.specs.declared.statuses.status.RunStop.TheVariants.{Write, Tell}

-- Statuses

abbrev pub code : Status → ℕ
code S.Done = 0
code S.WriteFailed = 1
code S.Refused = 2
code S.ReadFailed = 3
code S.NoSpace = 4
code S.NoMemory = 5
code S.SwapFailed = 6
code S.Usage = 7
code S.NoObject = 8

-- the trouble if line n is refused for this reason, after lines that name these areas
abbrev pub world_trouble : ℕ → List AreaRule → WorldFault → RunError
world_trouble n areas (F.Bad reason) = T.Line n reason
world_trouble n areas F.TooSmall = T.TooSmall n
world_trouble n areas (F.Exhausted area charged wanted quota) = T.Exhausted n (name_of areas area) charged wanted quota
world_trouble n areas F.NoMemory = T.Memory

-- the trouble is with a line of an input
abbrev pub IsOfLine : RunError → Type 0
IsOfLine (T.Line n reason) = Unit {0}
IsOfLine (T.TooSmall n) = Unit {0}
IsOfLine (T.Exhausted n area charged wanted quota) = Unit {0}
IsOfLine _ = ⊥

-- the status that goes with an error line
abbrev pub status_of : RunError → Status
status_of (T.Line n reason) = S.Refused
status_of (T.TooSmall n) = S.NoSpace
status_of (T.Exhausted n area charged wanted quota) = S.NoSpace
status_of T.Read = S.ReadFailed
status_of T.Memory = S.NoMemory
status_of T.Swap = S.SwapFailed
status_of T.Usage = S.Usage
status_of (T.NoObject object) = S.NoObject

-- the status of a run that reached its end, or stopped
abbrev pub outcome_status : Result (Unit {0}) RunStop → Status
outcome_status (Ok _) = S.Done
outcome_status (Err Write) = S.WriteFailed
outcome_status (Err (Tell trouble)) = status_of trouble

-- Error lines

-- the words of a reason, without its number
abbrev pub fixed_words : Reason → List ℕ
fixed_words R.TextAfterEnd = codes "text after end"
fixed_words R.InputTooLong = codes "input too long"
fixed_words R.LineTooLong = codes "line too long"
fixed_words R.NoEnd = codes "no end"
fixed_words R.NotAWorld = codes "not a world"
fixed_words R.BadLine = codes "bad line"
fixed_words R.SpaceExpected = codes "space expected"
fixed_words R.AreaExpected = codes "area expected"
fixed_words R.CapacityExpected = codes "capacity expected"
fixed_words R.UnexpectedLine = codes "unexpected line"
fixed_words R.UnknownCommand = codes "unknown command"
fixed_words (R.NoObject object) = codes "no object"
fixed_words R.TooManyAreas = codes "too many areas"
fixed_words R.TooManyFields = codes "too many fields"
fixed_words R.TooManyItems = codes "too many items"
fixed_words R.WrongCount = codes "wrong count"
fixed_words R.BadNumber = codes "bad number"
fixed_words R.BadName = codes "bad name"
fixed_words R.AreaTwice = codes "area twice"
fixed_words R.BadKind = codes "bad kind"
fixed_words R.NoArea = codes "no area"
fixed_words R.NoRegister = codes "no register"
fixed_words R.RegisterTwice = codes "register twice"
fixed_words R.BadValue = codes "bad value"
fixed_words R.BadLevels = codes "bad levels"

-- the words of a reason
abbrev pub reason_words : Reason → List ℕ
reason_words (R.NoObject object) = codes "no object " ++ decimal object
reason_words reason = fixed_words reason

abbrev pub exhausted_words : List ℕ → ℕ → ℕ → ℕ → List ℕ
exhausted_words area charged wanted quota =
    codes "exhausted " ++ (area ++ (codes " " ++ (decimal charged ++ (codes " " ++ (decimal wanted ++ (codes " " ++ decimal quota))))))

-- the error line of line n with these words
abbrev pub error_line : ℕ → List ℕ → List ℕ
error_line n words = codes "error line " ++ (decimal n ++ (codes ": " ++ (words ++ 10 ∷ [])))

-- the error line of a trouble
abbrev pub trouble_line : RunError → List ℕ
trouble_line (T.Line n reason) = error_line n (reason_words reason)
trouble_line (T.TooSmall n) = error_line n (codes "space too small")
trouble_line (T.Exhausted n area charged wanted quota) = error_line n (exhausted_words area charged wanted quota)
trouble_line T.Read = codes "error: read failed" ++ 10 ∷ []
trouble_line T.Memory = codes "error: no memory" ++ 10 ∷ []
trouble_line T.Swap = codes "error: swap failed" ++ 10 ∷ []
trouble_line T.Usage = codes "error: usage" ++ 10 ∷ []
trouble_line (T.NoObject object) = codes "error: no object " ++ (decimal object ++ 10 ∷ [])

-- what a run that reached its end, or stopped, still has to write
abbrev pub outcome_line : Result (Unit {0}) RunStop → List ℕ
outcome_line (Err (Tell trouble)) = trouble_line trouble
outcome_line _ = []

-- The end of a run

-- the sink gained the text, and the status is `status`; or the sink failed in the text, and gained a prefix of it, and not all
abbrev pub Closed : (List ℕ → Type 0) → (List ℕ → Type 0) → List ℕ → Status → Status → Type 0
Closed held held' text status result =
    ((result ≡ status) × Gained held held' text)
    ⊎ ((result ≡ S.WriteFailed) × ((front : List ℕ) × IsCut text front × Gained held held' front))

-- what was pending and the last line were written, or the sink failed in them; if it failed before, nothing more is written
abbrev pub Finished : (List ℕ → Type 0) → (List ℕ → Type 0) → List ℕ → Result (Unit {0}) RunStop → Status → Type 0
Finished held held' pending (Err Write) result = (result ≡ S.WriteFailed) × Gained held held' []
Finished held held' pending outcome result = Closed held held' (pending ++ outcome_line outcome) (outcome_status outcome) result
