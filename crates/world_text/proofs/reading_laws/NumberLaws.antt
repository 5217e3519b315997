-- The spellings of numbers.
use Rattle.std.proofs.Common.{◌≡◌, ℕ, zero, suc, ◌+◌, ◌-◌, ◌*◌, ◌<◌, ◌≤◌, ◌^◌, List, [], ◌∷◌, length, get_or, Bool, true, false, Option, Some, None, Ok, refl, ap, sym, ◌∙◌, arith, decimal, rules}
use Rattle.std.specs.Prelude.{◌==◌, ◌&&◌, ◌||◌, nat_lt, if◌then◌else◌}
use Rattle.std.specs.List.{list_all, fold}
use Rattle.std.proofs.lemmas.Bool.Decides.{nat_tests}
use Rattle.std.proofs.lemmas.Fmt.{decimal-digits_value, decimal_digit, decimal_nonempty, digits_decimal, digits_value-decimal, first_decimal}
use Rattle.std.proofs.lemmas.Str.Parse.{IsNumeralModel, numerals_by_fold}
use Rattle.lisp_graph.specs.Name.{is_digit}
use Rattle.world_text.specs.declared.reading.reason.Reason.{Reason}
use Rattle.world_text.specs.declared.reading.reason.Reason.TheVariants.{BadNumber}
use Rattle.world_text.specs.reading.Words.{is_graphic, is_word}
use Rattle.world_text.specs.reading.Numbers.{are_digits, is_number, number_in, number_value}
use Rattle.world_text.specs.reading.Next.{a_number, found}
use Rattle.world_text.proofs.reading_laws.WordReaders.{Spells}
use Rattle.world_text.proofs.reading_laws.Rows.{both}

-- the number that digits represent after the digits of another number
abbrev pub value_after : ℕ → List ℕ → ℕ
value_after before digits = fold (λ value digit. 10 * value + (digit - 48)) before digits

pub own : IsNumeralModel (λ digits. are_digits digits ≡ true) (value_after 0)
own = numerals_by_fold (λ digits. are_digits digits ≡ true) (search rules) value_after (search rules)

-- if no zero precedes other digits, a word is a number if and only if it is digits
pub number_digits : (word : List ℕ) → 0 < length word → (get_or word 0 0 ≡ 48 → length word ≡ 1) → is_number word ≡ are_digits word
number_digits word some first = tests_at (length word == 0) (nat_lt 1 (length word)) (get_or word 0 0 == 48) refl refl refl
  where
    tests_at : (none long nought : Bool) → (length word == 0) ≡ none → nat_lt 1 (length word) ≡ long → (get_or word 0 0 == 48) ≡ nought
        → (if none then false else if long && nought then false else are_digits word) ≡ are_digits word
    tests_at true long nought a b c = absurd (grind (arith, nat_tests, a))
    tests_at false true true a b c = absurd (let l : length word ≡ 1 = first (grind (arith, nat_tests, c)) in grind (arith, nat_tests, b))
    tests_at false true false a b c = refl
    tests_at false false nought a b c = refl

-- digits with no zero before others are a number
number_formed : (word : List ℕ) → 0 < length word → (get_or word 0 0 ≡ 48 → length word ≡ 1) → are_digits word ≡ true → is_number word ≡ true
number_formed word some first digits = number_digits word some first ∙ digits

pub number_parts : (word : List ℕ) → is_number word ≡ true → (0 < length word) × (get_or word 0 0 ≡ 48 → length word ≡ 1) × (are_digits word ≡ true)
number_parts word is = parts_at (length word == 0) (nat_lt 1 (length word)) (get_or word 0 0 == 48) refl refl refl is
  where
    parts_at : (none long nought : Bool) → (length word == 0) ≡ none → nat_lt 1 (length word) ≡ long → (get_or word 0 0 == 48) ≡ nought
        → (if none then false else if long && nought then false else are_digits word) ≡ true
        → (0 < length word) × (get_or word 0 0 ≡ 48 → length word ≡ 1) × (are_digits word ≡ true)
    parts_at true long nought a b c so = absurd (cc (so))
    parts_at false true true a b c so = absurd (cc (so))
    parts_at false true false a b c so = (grind (arith, nat_tests, a), λ e. absurd (grind (arith, nat_tests, c)), so)
    parts_at false false nought a b c so = (grind (arith, nat_tests, a), λ e. grind (arith, nat_tests, a, b), so)

in_range : (low high n : ℕ) → low ≤ n → n ≤ high → (if nat_lt n low || nat_lt high n then None else Some n) ≡ Some n
in_range low high n from to = range_at (nat_lt n low) (nat_lt high n) refl refl
  where
    range_at : (below above : Bool) → nat_lt n low ≡ below → nat_lt high n ≡ above → (if below || above then None else Some n) ≡ Some n
    range_at true above a b = absurd (grind (arith, nat_tests, a))
    range_at false true a b = absurd (grind (arith, nat_tests, b))
    range_at false false a b = refl

range_parts : (low high n m : ℕ) → (if nat_lt n low || nat_lt high n then None else Some n) ≡ Some m → (low ≤ n) × (n ≤ high) × (n ≡ m)
range_parts low high n m is = parts_at (nat_lt n low) (nat_lt high n) refl refl is
  where
    parts_at : (below above : Bool) → nat_lt n low ≡ below → nat_lt high n ≡ above → (if below || above then None else Some n) ≡ Some m → (low ≤ n) × (n ≤ high) × (n ≡ m)
    parts_at true above a b so = absurd (cc (so))
    parts_at false true a b so = absurd (cc (so))
    parts_at false false a b so = (grind (arith, nat_tests, a), grind (arith, nat_tests, b), cc (so))

first_zero : (n : ℕ) → n < 2 ^ 64 → get_or (decimal n) 0 0 ≡ 48 → n ≡ 0
first_zero zero fits first = refl
first_zero (suc n) fits first = absurd (omega (arith, first, first_decimal (suc n) (omega arith) fits))

-- a number's spelling is read as the number
pub number_reads : (low high n : ℕ) → low ≤ n → n ≤ high → high < 2 ^ 64 → number_in low high (decimal n) ≡ Some n
number_reads low high n from to small =
    let fits : n < 2 ^ 64 = omega arith in
    let digits = digits_decimal own n fits in
    let value : number_value (decimal n) ≡ n = digits_value-decimal own n fits in
    let one : get_or (decimal n) 0 0 ≡ 48 → length (decimal n) ≡ 1 = λ e.
    let zero : n ≡ 0 = first_zero n fits e in
    rw (zero, decimal_digit 0 (omega arith)) refl in
    rw (number_formed (decimal n) (decimal_nonempty n fits) one digits, value) (in_range low high n from to)

some_when : (b : Bool) (read : Option ℕ) (n : ℕ) → (if b then read else None) ≡ Some n → (b ≡ true) × (read ≡ Some n)
some_when true read n is = (refl, is)
some_when false read n is = absurd (cc (is))

-- what is read as a number is its spelling
pub number_only : (low high n : ℕ) (word : List ℕ) → high < 2 ^ 64 → number_in low high word ≡ Some n → (word ≡ decimal n) × (low ≤ n) × (n ≤ high)
number_only low high n word small is =
    let number = some_when (is_number word) (if nat_lt (number_value word) low || nat_lt high (number_value word) then None else Some (number_value word)) n is in
    let range = range_parts low high (number_value word) n number.1 in
    let parts = number_parts word number.0 in
    let fits : number_value word < 2 ^ 64 = omega (arith, range.1) in
    let again : decimal (number_value word) ≡ word = decimal-digits_value own word parts.2 parts.0 parts.1 fits in
    (sym again ∙ ap decimal range.2, omega (arith, range.0, range.2), omega (arith, range.1, range.2))

digit_graphic : (byte : ℕ) → is_digit byte ≡ true → is_graphic byte ≡ true
digit_graphic byte digit = grind (arith, nat_tests)

-- digits make a word
pub all_digits : (bytes : List ℕ) → are_digits bytes ≡ true → list_all is_graphic bytes ≡ true
all_digits [] digits = refl
all_digits (byte ∷ bytes) digits =
    let b = both (is_digit byte) (are_digits bytes) digits in
    rw (digit_graphic byte b.0, all_digits bytes b.1) refl

digits_word : (word : List ℕ) → 0 < length word → are_digits word ≡ true → is_word word ≡ true
digits_word [] some digits = absurd (omega arith)
digits_word (byte ∷ bytes) some digits = all_digits (byte ∷ bytes) digits

pub decimal_digits : (n : ℕ) → n < 2 ^ 64 → list_all is_graphic (decimal n) ≡ true
decimal_digits n fits = all_digits (decimal n) (digits_decimal own n fits)

pub decimal_word : (n : ℕ) → n < 2 ^ 64 → is_word (decimal n) ≡ true
decimal_word n fits = digits_word (decimal n) (decimal_nonempty n fits) (digits_decimal own n fits)

-- what was found isn't refused
pub found_is : {A : Type 0} (reason : Reason) (option : Option A) (x : A) → found reason option ≡ Ok x → option ≡ Some x
found_is reason None x is = absurd (cc (is))
found_is reason (Some y) x is = cc

pub numbers : (low high : ℕ) → high < 2 ^ 64 → Spells (a_number low high) (λ n. (low ≤ n) × (n ≤ high)) decimal
numbers low high small = record {
  accepts = λ n fits. ap (found BadNumber) (number_reads low high n fits.0 fits.1 small);
  only = λ word n is. let o = number_only low high n word small (found_is BadNumber (number_in low high word) n is) in (o.0, (o.1, o.2));
  words = λ n fits. decimal_word n (omega (arith, fits.1));
}

-- the first byte of a number is a digit
first_digit : (word : List ℕ) → 0 < length word → are_digits word ≡ true → is_digit (get_or word 0 0) ≡ true
first_digit [] some digits = absurd (omega arith)
first_digit (byte ∷ bytes) some digits = (both (is_digit byte) (are_digits bytes) digits).0

pub decimal_first : (n : ℕ) → n < 2 ^ 64 → (48 ≤ get_or (decimal n) 0 0) × (get_or (decimal n) 0 0 ≤ 57)
decimal_first n fits =
    let digit = first_digit (decimal n) (decimal_nonempty n fits) (digits_decimal own n fits) in
    (grind (arith, nat_tests, digit), grind (arith, nat_tests, digit))
