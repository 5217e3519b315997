-- What holds of judged lines, whatever judges them.
use Rattle.std.proofs.Common.{◌≡◌, ℕ, ◌+◌, ◌≤◌, ◌^◌, min, List, [], ◌∷◌, length, Bool, true, false, cond, nat_lt, refl, sym, ap, ◌∙◌, None, Result, Ok, Err}
use Rattle.world_text.specs.declared.reading.reason.Reason.{Reason}
use Rattle.line_input.specs.declared.judging.input.InputReader.{InputReader}
use Rattle.line_input.specs.declared.statuses.status.RunError.{RunError}
use Rattle.line_input.specs.declared.statuses.status.RunError.TheVariants as T
use Rattle.line_input.specs.Lines.{Line, size_of}
use Rattle.line_input.specs.Limits.{broken_limit}
use Rattle.line_input.specs.Verdict.{Rules, Said, counted, decided, early_reason, ended, enough, judged, judged_as, unless_broken}
use Rattle.line_input.proofs.BrokenLimits.{front_broken, long_reason, unbroken, unbroken_limits, unbroken_line}

-- An accepted line

pub record Passed {J W : Type 0} (rules : Rules J W) (place : InputReader J) (text : List ℕ) (size : ℕ) (after : InputReader J) : Type 0 where
  pub going : rules.is_whole place.judge ≡ false
  pub within : place.bytes + min size 32769 ≤ 2 ^ 40
  pub short : length text ≤ 32768
  pub says : rules.says (place.lines + 1) place.judge text ≡ Ok after.judge
  pub lines : after.lines ≡ place.lines + 1
  pub bytes : after.bytes ≡ place.bytes + size

counted_ok : {J : Type 0} (place : InputReader J) (size : ℕ) (said : Result J RunError) (after : InputReader J) → counted place size said ≡ Ok after → (said ≡ Ok after.judge) × (after.lines ≡ place.lines + 1) × (after.bytes ≡ place.bytes + size)
counted_ok {J} place size (Ok judge) after h =
    let e : record { judge = judge; lines = place.lines + 1; bytes = place.bytes + size } ≡ after = cc (h) in
    (ap (λ (p : InputReader J). Ok p.judge) e, sym (ap (λ (p : InputReader J). p.lines) e), sym (ap (λ (p : InputReader J). p.bytes) e))
counted_ok place size (Err trouble) after h = absurd (cc (h))

pub decided_parts : {J : Type 0} (said : Said J) (rest : InputReader J → Said J) (after : InputReader J) → decided said rest ≡ Ok after → (next : InputReader J) × (said ≡ Ok next) × (rest next ≡ Ok after)
decided_parts (Ok next) rest after is = (next, refl, is)
decided_parts (Err trouble) rest after is = absurd (cc (is))

whole_at : {W : Type 0} (closed : Bool) (whole wanted : W) (trouble : RunError) → ◌≡◌ {A = Result W RunError} (cond closed (Ok whole) (Err trouble)) (Ok wanted) → (closed ≡ true) × (whole ≡ wanted)
whole_at true whole wanted trouble is = (refl, cc (is))
whole_at false whole wanted trouble is = absurd (cc (is))

module _ {J W : Type 0} (rules : Rules J W) where
  -- the reason for refusing a line that has enough bytes, whatever these are
  abbrev pub front_reason : InputReader J → Reason
  front_reason place = long_reason (rules.is_whole place.judge) (nat_lt (2 ^ 40) (place.bytes + 32769))

  -- a line with enough bytes is refused because of them, whatever follows them
  pub judged_front : (place : InputReader J) (text : List ℕ) (size : ℕ) → place.bytes ≤ 2 ^ 40 → enough rules place ≤ length text → enough rules place ≤ size → judged_as rules place text size ≡ Err (T.Line (place.lines + 1) (front_reason place))
  judged_front place text size within long wide =
      let e = front_broken (2 ^ 40) (rules.is_whole place.judge) (nat_lt (2 ^ 40) (place.bytes + 32769)) place.bytes (length text) size refl within long wide in
      ap (λ broken. unless_broken (place.lines + 1) broken (counted place size (rules.says (place.lines + 1) place.judge text))) e

  pub passed : (place : InputReader J) (text : List ℕ) (size : ℕ) (after : InputReader J) → judged_as rules place text size ≡ Ok after → Passed rules place text size after
  passed place text size after h =
      let said : Result J RunError = rules.says (place.lines + 1) place.judge text in
      let u = unbroken (place.lines + 1) (broken_limit (2 ^ 40) (rules.is_whole place.judge) place.bytes (length text) size) (counted place size said) after h in
      let a = unbroken_limits (2 ^ 40) (rules.is_whole place.judge) place.bytes (length text) size u.0 in
      let d = counted_ok place size said after u.1 in
      record { going = a.0; within = a.1; short = a.2; says = d.0; lines = d.1; bytes = d.2 }

  -- a line within the limits is accepted if it has a meaning
  pub judged_here : (place : InputReader J) (judge : J) (text : List ℕ) (size : ℕ) → rules.is_whole place.judge ≡ false → place.bytes + min size 32769 ≤ 2 ^ 40 → length text ≤ 32768 → rules.says (place.lines + 1) place.judge text ≡ Ok judge
      → judged_as rules place text size ≡ Ok (record { judge = judge; lines = place.lines + 1; bytes = place.bytes + size })
  judged_here place judge text size going within short says =
      let none : broken_limit (2 ^ 40) (rules.is_whole place.judge) place.bytes (length text) size ≡ None = ap (λ over. broken_limit (2 ^ 40) over place.bytes (length text) size) going ∙ unbroken_line place.bytes (length text) size within short in
      ap (λ broken. unless_broken (place.lines + 1) broken (counted place size (rules.says (place.lines + 1) place.judge text))) none ∙ ap (counted place size) says

  -- nothing follows whole lines
  pub nothing_behind : (lines : List Line) (place after : InputReader J) → rules.is_whole place.judge ≡ true → judged rules place lines ≡ Ok after → (lines ≡ []) × (place ≡ after)
  nothing_behind [] place after whole is = (refl, cc (is))
  nothing_behind (line ∷ lines) place after whole is =
      let d = decided_parts (judged_as rules place line.text (size_of line)) (λ behind. judged rules behind lines) after is in
      let going = (passed place line.text (size_of line) d.0 d.1).going in
      absurd (cc (going, whole))

  -- if an input is accepted
  pub ended_parts : (said : Said J) (whole : W) → ended rules said ≡ Ok whole → (place : InputReader J) × (said ≡ Ok place) × (rules.is_whole place.judge ≡ true) × (rules.whole place.judge ≡ whole)
  ended_parts (Ok place) whole is = let e = whole_at (rules.is_whole place.judge) (rules.whole place.judge) whole (T.Line (place.lines + 1) (early_reason place.lines rules.empty)) is in (place, refl, e.0, e.1)
  ended_parts (Err trouble) whole is = absurd (cc (is))
