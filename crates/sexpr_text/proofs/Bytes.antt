-- Bytes that are names and numbers, and bytes at which pieces end.
use Rattle.std.proofs.Common.{◌≡◌, ℕ, suc, ◌+◌, ◌-◌, ◌*◌, ◌<◌, ◌^◌, ℤ, pos, negsuc, List, [], ◌∷◌, Bool, true, false, Option, Some, None, refl, ap, arith, decimal, rules}
use Rattle.std.specs.Prelude.{◌==◌, ◌||◌, if◌then◌else◌, is_some}
use Rattle.std.specs.Fmt.{signed_decimal}
use Rattle.std.specs.List.{fold, list_all}
use Rattle.std.proofs.lemmas.Bool.Decides.{nat_tests}
use Rattle.std.proofs.lemmas.Fmt.{digits_decimal}
use Rattle.std.proofs.lemmas.Str.Parse.{IsNumeralModel, numerals_by_fold}
use Rattle.lisp_graph.specs.Name.{is_digit, is_name_byte}
use Rattle.lisp_graph.specs.declared.object.Value.TheVariants.{Fix}
use Rattle.world_text.specs.Numbers.{are_digits}
use Rattle.world_text.specs.Spelling.{IsWritten}
use Rattle.world_text.proofs.reading_laws.Rows.{both}
use Rattle.sexpr_text.specs.declared.bracket.Bracket.{Bracket}
use Rattle.sexpr_text.specs.declared.bracket.Bracket.TheVariants.{Round, Square, Curly}
use Rattle.sexpr_text.specs.Brackets.{closed_by, closing, opened_by, opening}
use Rattle.sexpr_text.specs.Pieces.{is_edge, is_last, is_white}

-- Edges

-- neither a bracket nor `=`, `#` or white space
pub record IsPlain (byte : ℕ) : Type 0 where
  pub opens : opened_by byte ≡ None
  pub closes : closed_by byte ≡ None
  pub equals : (byte == 61) ≡ false
  pub hash : (byte == 35) ≡ false
  pub black : is_white byte ≡ false

no_bracket : (one two three : Bool) (a b c : Bracket) → one ≡ false → two ≡ false → three ≡ false → (if one then Some a else if two then Some b else if three then Some c else None) ≡ None
no_bracket one two three a b c first second third = rw (first, second, third) refl

none_of : (byte other : ℕ) → is_name_byte byte ≡ true → is_name_byte other ≡ false → (byte == other) ≡ false
none_of byte other name not = of_test (byte == other) refl
  where
    of_test : (b : Bool) → (byte == other) ≡ b → (byte == other) ≡ false
    of_test true is = let e : byte ≡ other = grind (arith, nat_tests, is) in absurd (cc (name, not, ap is_name_byte e))
    of_test false is = is

pub name_plain : (byte : ℕ) → is_name_byte byte ≡ true → IsPlain byte
name_plain byte name = record {
  opens = no_bracket (byte == 40) (byte == 91) (byte == 123) Round Square Curly (none_of byte 40 name refl) (none_of byte 91 name refl) (none_of byte 123 name refl);
  closes = no_bracket (byte == 41) (byte == 93) (byte == 125) Round Square Curly (none_of byte 41 name refl) (none_of byte 93 name refl) (none_of byte 125 name refl);
  equals = none_of byte 61 name refl;
  hash = none_of byte 35 name refl;
  black = none_either (byte == 32) (byte == 10) (none_of byte 32 name refl) (none_of byte 10 name refl);
}
  where
    none_either : (a b : Bool) → a ≡ false → b ≡ false → (a || b) ≡ false
    none_either a b first second = rw (first, second) refl

-- no piece ends at such a byte
pub plain_edge : (byte : ℕ) → IsPlain byte → is_edge byte ≡ false
plain_edge byte plain = of_parts (is_white byte) (byte == 61) (opened_by byte) (closed_by byte) plain.black plain.equals plain.opens plain.closes
  where
    of_parts : (white equals : Bool) (opened closed : Option Bracket) → white ≡ false → equals ≡ false → opened ≡ None → closed ≡ None → (white || is_some closed || (is_some opened || equals)) ≡ false
    of_parts white equals opened closed a b c d = rw (a, b, c, d) refl

pub name_edge : (byte : ℕ) → is_name_byte byte ≡ true → is_edge byte ≡ false
name_edge byte name = plain_edge byte (name_plain byte name)

-- Brackets

pub opening_opens : (bracket : Bracket) → opened_by (opening bracket) ≡ Some bracket
opening_opens Round = refl
opening_opens Square = refl
opening_opens Curly = refl

pub opening_last : (bracket : Bracket) → is_last (opening bracket) ≡ true
opening_last Round = refl
opening_last Square = refl
opening_last Curly = refl

-- a byte before which a piece ends, and which doesn't end a piece itself
pub record IsStop (byte : ℕ) : Type 0 where
  pub edge : is_edge byte ≡ true
  pub behind : is_last byte ≡ false

pub closing_stops : (bracket : Bracket) → IsStop (closing bracket)
closing_stops Round = record { edge = refl; behind = refl }
closing_stops Square = record { edge = refl; behind = refl }
closing_stops Curly = record { edge = refl; behind = refl }

-- Numbers

digit_name : (byte : ℕ) → is_digit byte ≡ true → is_name_byte byte ≡ true
digit_name byte digit = grind (arith, nat_tests)

digits_name : (bytes : List ℕ) → are_digits bytes ≡ true → list_all is_name_byte bytes ≡ true
digits_name [] digits = refl
digits_name (byte ∷ bytes) digits =
    let b = both (is_digit byte) (are_digits bytes) digits in
    rw (digit_name byte b.0, digits_name bytes b.1) refl

abbrev value_after : ℕ → List ℕ → ℕ
value_after before digits = fold (λ value digit. 10 * value + (digit - 48)) before digits

own : IsNumeralModel (λ digits. are_digits digits ≡ true) (value_after 0)
own = numerals_by_fold (λ digits. are_digits digits ≡ true) (search rules) value_after (search rules)

pub decimal_name : (number : ℕ) → number < 2 ^ 64 → list_all is_name_byte (decimal number) ≡ true
decimal_name number small = digits_name (decimal number) (digits_decimal own number small)

pub signed_name : (number : ℤ) → IsWritten (Fix number) → list_all is_name_byte (signed_decimal number) ≡ true
signed_name (pos number) small = decimal_name number (omega arith)
signed_name (negsuc number) small = decimal_name (suc number) (omega arith)
