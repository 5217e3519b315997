-- What holds of a line that breaks a limit, or breaks none.
use Rattle.std.proofs.Common.{◌≡◌, ℕ, ◌+◌, ◌≤◌, ◌^◌, min, Bool, true, false, cond, nat_lt, refl, arith, Option, Some, None, Result, Ok}
use Rattle.std.proofs.lemmas.Bool.{ltb-false}
use Rattle.std.proofs.lemmas.Bool.Decides.{nat_tests}
use Rattle.world_text.specs.declared.reading.reason.Reason.{Reason}
use Rattle.world_text.specs.declared.reading.reason.Reason.TheVariants.{TextAfterEnd, InputTooLong, LineTooLong}
use Rattle.line_input.specs.declared.statuses.status.RunError.{RunError}
use Rattle.line_input.specs.Limits.{broken_limit, enough_bytes}
use Rattle.line_input.specs.Verdict.{unless_broken}

abbrev pub long_reason : Bool → Bool → Reason
long_reason true over = TextAfterEnd
long_reason false true = InputTooLong
long_reason false false = LineTooLong

-- enough bytes break a limit, whatever follows them
pub front_broken : (limit : ℕ) (ended over : Bool) (before l m : ℕ) → nat_lt limit (before + 32769) ≡ over → before ≤ limit → enough_bytes limit ended before ≤ l → enough_bytes limit ended before ≤ m → broken_limit limit ended before l m ≡ Some (long_reason ended over)
front_broken limit true over before l m is within text size = refl
front_broken limit false true before l m is within text size =
    let e : nat_lt limit (before + min m 32769) ≡ true = grind (arith, nat_tests, is, within, size) in
    rw e refl
front_broken limit false false before l m is within text size =
    let e : nat_lt limit (before + min m 32769) ≡ false = grind (arith, nat_tests, is, within, size) in
    let f : nat_lt 32768 l ≡ true = grind (arith, nat_tests, is, within, text) in
    rw (e, f) refl

none_at : (b : Bool) (reason : Reason) (rest : Option Reason) → cond b (Some reason) rest ≡ None → (b ≡ false) × (rest ≡ None)
none_at true reason rest h = absurd (cc (h))
none_at false reason rest h = (refl, h)

-- a line that breaks no limit
pub unbroken_limits : (limit : ℕ) (ended : Bool) (before l m : ℕ) → broken_limit limit ended before l m ≡ None → (ended ≡ false) × (before + min m 32769 ≤ limit) × (l ≤ 32768)
unbroken_limits limit ended before l m h =
    let a = none_at ended TextAfterEnd _ h in
    let b = none_at (nat_lt limit (before + min m 32769)) InputTooLong _ a.1 in
    let c = none_at (nat_lt 32768 l) LineTooLong None b.1 in
    (a.0, ltb-false limit (before + min m 32769) b.0, ltb-false 32768 l c.0)

-- a line within the limits breaks none
pub unbroken_line : (before l m : ℕ) → before + min m 32769 ≤ 2 ^ 40 → l ≤ 32768 → broken_limit (2 ^ 40) false before l m ≡ None
unbroken_line before l m within short =
    let a : nat_lt (2 ^ 40) (before + min m 32769) ≡ false = grind (arith, nat_tests, within) in
    let b : nat_lt 32768 l ≡ false = grind (arith, nat_tests, short) in
    rw (a, b) refl

-- an accepted line breaks no limit
pub unbroken : {A : Type 0} (number : ℕ) (broken : Option Reason) (said : Result A RunError) (after : A) → unless_broken number broken said ≡ Ok after → (broken ≡ None) × (said ≡ Ok after)
unbroken number None said after h = (refl, h)
unbroken number (Some reason) said after h = absurd (cc (h))
