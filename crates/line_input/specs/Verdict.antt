-- What an input means, line by line, up to the first line that breaks a rule.
use Rattle.std.specs.Prelude.{◌≡◌, ◌⊎◌, ℕ, ◌+◌, ◌^◌, ◌≤◌, List, [], ◌∷◌, ◌++◌, length, Bool, false, ◌==◌, if◌then◌else◌, Option, Some, None, Result, Ok, Err, IfSome, unwrap_or}
use Rattle.outer_ports.specs.Ports.{Gave}
use Rattle.world_text.specs.declared.reading.reason.Reason.{Reason}
use Rattle.world_text.specs.declared.reading.reason.Reason.TheVariants.{NoEnd}
use Rattle.line_input.specs.declared.judging.input.InputReader.{InputReader}
use Rattle.line_input.specs.declared.statuses.status.RunError.{RunError}
use Rattle.line_input.specs.declared.statuses.status.RunError.TheVariants as T
use Rattle.line_input.specs.Lines.{Line, lines_of, size_of, whole_lines}
use Rattle.line_input.specs.Limits.{broken_limit, enough_bytes}
use Rattle.line_input.specs.Statuses.{IsOfLine}

-- Rules

-- How lines are judged: J is the meaning of the lines so far, and W the meaning of whole lines.
pub record Rules (J W : Type 0) : Type 0 where
  -- the lines are whole, so that none may follow
  pub is_whole : J → Bool
  -- what a text means as the next line, which has this number, or the trouble with it
  pub says : ℕ → J → List ℕ → Result J RunError
  pub whole : J → W
  -- why an input without a line is refused
  pub empty : Reason

-- One line

-- before the first line
abbrev pub start : {J : Type 0} → J → InputReader J
start judge = record { judge = judge; lines = 0; bytes = 0 }

-- the place after one more line of this size
abbrev pub further : {J : Type 0} → InputReader J → ℕ → InputReader J
further place size = record place { lines = place.lines + 1; bytes = place.bytes + size }

-- what a line leads to: the place after it, or the trouble with it
abbrev pub Said : Type 0 → Type 0
Said J = Result (InputReader J) RunError

-- the place after one more line of this size, which has this meaning
abbrev pub counted : {J : Type 0} → InputReader J → ℕ → Result J RunError → Said J
counted place size (Ok judge) = Ok (record { judge = judge; lines = place.lines + 1; bytes = place.bytes + size })
counted place size (Err trouble) = Err trouble

-- the line of this number is refused if it breaks a limit, whatever its text
abbrev pub unless_broken : {A : Type 0} → ℕ → Option Reason → Result A RunError → Result A RunError
unless_broken number (Some reason) said = Err (T.Line number reason)
unless_broken number None said = said

-- What a line of this text and size leads to in its place, in an input of at most 2^40 bytes. (Six parameters: the two types of the rules, which every definition on rules has, the rules, the place, and the text and size of a line.)
abbrev pub judged_as : {J W : Type 0} → Rules J W → InputReader J → List ℕ → ℕ → Said J
judged_as rules place text size =
    unless_broken (place.lines + 1) (broken_limit (2 ^ 40) (rules.is_whole place.judge) place.bytes (length text) size) (counted place size (rules.says (place.lines + 1) place.judge text))

-- how many bytes of the next line decide it if they contain no line feed
abbrev pub enough : {J W : Type 0} → Rules J W → InputReader J → ℕ
enough rules place = enough_bytes (2 ^ 40) (rules.is_whole place.judge) place.bytes

-- All lines

abbrev pub decided : {J : Type 0} → Said J → (InputReader J → Said J) → Said J
decided (Ok place) rest = rest place
decided (Err trouble) rest = Err trouble

-- the place after these lines if each keeps the rules; otherwise the trouble with the first that doesn't
abbrev pub judged : {J W : Type 0} → Rules J W → InputReader J → List Line → Said J
judged rules place [] = Ok place
judged rules place (line ∷ lines) = decided (judged_as rules place line.text (size_of line)) (λ behind. judged rules behind lines)

-- why this many lines are refused if the input ends before it is whole; `empty` is the reason for an input without a line
abbrev pub early_reason : ℕ → Reason → Reason
early_reason lines empty = if lines == 0 then empty else NoEnd

-- the end of the lines: they are whole, or end too early
abbrev pub ended : {J W : Type 0} → Rules J W → Said J → Result W RunError
ended rules (Err trouble) = Err trouble
ended rules (Ok place) =
    if rules.is_whole place.judge then Ok (rules.whole place.judge)
    else Err (T.Line (place.lines + 1) (early_reason place.lines rules.empty))

-- The verdict on an input: the meaning of its lines if they are whole, or the trouble with the first line that breaks a rule.
abbrev pub verdict : {J W : Type 0} → Rules J W → J → List ℕ → Result W RunError
verdict rules judge bytes = ended rules (judged rules (start judge) (lines_of bytes))

-- Calls

-- Each line has at least one byte, and the bytes are within the limit.
pub record IsPlace {J : Type 0} (place : InputReader J) : Type 0 where
  pub few : place.lines ≤ place.bytes
  pub within : place.bytes ≤ 2 ^ 40

-- A call that judged a line. If it accepted the line, the new value is what the line leads to; otherwise the trouble is that of the line, or memory ran out.
abbrev pub Judged : {A : Type 0} → A → Result (Unit {0}) RunError → Result A RunError → Type 0
Judged new (Ok _) said = said ≡ Ok new
Judged new (Err T.Memory) said = Unit {0}
Judged new (Err trouble) said = IsOfLine trouble × (said ≡ Err trouble)

-- The bytes b, which may go on, decide nothing yet: their whole lines keep the rules; after these there is no byte or, if the lines aren't whole, no more than a line may have; and b is within the limit.
pub record IsUndecided {J W : Type 0} (rules : Rules J W) (judge : J) (b : List ℕ) : Type 0 where
  pub place : InputReader J
  pub read : judged rules (start judge) (whole_lines (lines_of b)) ≡ Ok place
  pub part : (length b ≡ place.bytes) ⊎ ((rules.is_whole place.judge ≡ false) × (length b ≤ place.bytes + 32768))
  pub within : length b ≤ 2 ^ 40

-- the result of reading the input i, of which the source gave b: the meaning of i, if the source gave all of it; or the trouble with a line; or the source failed before b decided anything; or memory ran out
abbrev pub Reads : {J W : Type 0} → Rules J W → J → List ℕ → List ℕ → Result W RunError → Type 0
Reads rules judge i b (Ok whole) = (b ≡ i) × (verdict rules judge i ≡ Ok whole)
Reads rules judge i b (Err T.Memory) = Unit {0}
Reads rules judge i b (Err T.Read) = IsUndecided rules judge b
Reads rules judge i b (Err trouble) = IsOfLine trouble × (verdict rules judge i ≡ Err trouble)

-- An input that was read: i is the input, and b what the source gave of it. If the source doesn't report what remains, the input is what it gave. (Seven parameters: the two types of the rules, the rules, the judge before the first line, what the source has before and after, and the result.)
pub record WasRead {J W : Type 0} (rules : Rules J W) (judge : J) (left left' : Option (List ℕ)) (result : Result W RunError) : Type 0 where
  pub i : List ℕ
  pub b : List ℕ
  pub input : IfSome left (λ bytes. bytes ≡ i)
  pub gave : Gave left left' b
  pub rest : i ≡ b ++ unwrap_or left' []
  pub reads : Reads rules judge i b result
