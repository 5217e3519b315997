-- Words that spell no number of 32 bits.
use Rattle.std.proofs.Common.{◌≡◌, ◌≢◌, ℕ, ◌+◌, ◌-◌, ◌*◌, ◌<◌, ◌≤◌, ◌^◌, List, [], ◌∷◌, length, get_or, Bool, true, false, Some, None, refl, arith}
use Rattle.std.specs.Prelude.{◌||◌, nat_lt, if◌then◌else◌}
use Rattle.std.specs.List.{fold}
use Rattle.std.proofs.Math.Nat.{pow-suc, pow-le-pow_right, mul-le-mul_right}
use Rattle.std.proofs.lemmas.Bool.Decides.{nat_tests}
use Rattle.lisp_graph.specs.Name.{is_digit}
use Rattle.world_text.specs.reading.Numbers.{are_digits, is_number, number_in, number_value}
use Rattle.world_text.proofs.reading_laws.NumberLaws.{number_parts}
use Rattle.world_text.proofs.reading_laws.Rows.{both}

-- each digit after a number makes it at least ten times as large
fold_least : (before : ℕ) (digits : List ℕ) → before * 10 ^ length digits ≤ fold (λ value digit. 10 * value + (digit - 48)) before digits
fold_least before [] = omega arith
fold_least before (digit ∷ digits) =
    let later = fold_least (10 * before + (digit - 48)) digits in
    let most : 10 * before ≤ 10 * before + (digit - 48) = omega arith in
    let more = mul-le-mul_right (10 ^ length digits) most in
    rw (pow-suc 10 (length digits)) (omega (arith, later, more))

-- eleven digits, of which the first is not 0, make at least ten thousand millions
large : (word : List ℕ) → 10 < length word → (get_or word 0 0 ≡ 48 → length word ≡ 1) → are_digits word ≡ true → 10 ^ 10 ≤ number_value word
large [] long first digits = absurd (omega arith)
large (byte ∷ bytes) long first digits =
    let digit : is_digit byte ≡ true = (both (is_digit byte) (are_digits bytes) digits).0 in
    let other : byte ≢ 48 = λ e. omega (arith, first e) in
    let some : 1 ≤ 10 * 0 + (byte - 48) = grind (arith, nat_tests, digit, other) in
    let least : (10 * 0 + (byte - 48)) * 10 ^ length bytes ≤ number_value (byte ∷ bytes) = fold_least (10 * 0 + (byte - 48)) bytes in
    let power : 10 ^ 10 ≤ 10 ^ length bytes = pow-le-pow_right {n = 10} (omega arith) {i = 10} {j = length bytes} (omega arith) in
    let more : 1 * 10 ^ length bytes ≤ (10 * 0 + (byte - 48)) * 10 ^ length bytes = mul-le-mul_right (10 ^ length bytes) some in
    omega (arith, least, power, more)

pub unspelled : (low high : ℕ) (word : List ℕ) → is_number word ≡ false → number_in low high word ≡ None
unspelled low high word is = rw is refl

-- a number past the end of a range
above : (low high n : ℕ) → high < n → (if nat_lt n low || nat_lt high n then None else Some n) ≡ None
above low high n more = at (nat_lt n low) (nat_lt high n) refl
  where
    at : (less past : Bool) → nat_lt high n ≡ past → (if less || past then None else Some n) ≡ None
    at true past is = refl
    at false true is = refl
    at false false is = absurd (grind (arith, nat_tests, is))

-- more than ten bytes
pub too_long : (low high : ℕ) (word : List ℕ) → 10 < length word → high < 2 ^ 32 → number_in low high word ≡ None
too_long low high word long small = at (is_number word) refl
  where
    at : (number : Bool) → is_number word ≡ number → number_in low high word ≡ None
    at false is = unspelled low high word is
    at true is =
        let parts = number_parts word is in
        let least = large word long parts.1 parts.2 in
        rw is (above low high (number_value word) (omega (arith, least, small)))
