-- The table of the digits of the numbers below 100, and numbers of three to five digits.
use Rattle.std.proofs.Common.{◌≡◌, ℕ, ◌+◌, ◌/◌, ◌%◌, ◌<◌, ◌≤◌, true, List, [], ◌∷◌, ◌++◌, slice_index_or, decimal, refl, ap, sym, ◌∙◌, arith}
use Rattle.std.specs.Prelude.{bytes_eq}
use Rattle.std.proofs.lemmas.Bool.{agree_below_at}
use Rattle.std.proofs.lemmas.Fmt.{decimal_digit}
use Rattle.std.proofs.lemmas.Slice.Eq.{bytes_eq-Decides}
use Rattle.itoa.proofs.Decimal.{decimal_pair, decimal_two}
use Rattle.trace_text.specs.declared.digit_pairs.TheConstants.{DIGIT_PAIRS}

is_row : (other : List ℕ) (n : ℕ) → n < 100 → bytes_eq (slice_index_or DIGIT_PAIRS n other) ((48 + n / 10) ∷ (48 + n % 10) ∷ []) ≡ true
is_row other n small = agree_below_at (λ k. bytes_eq (slice_index_or DIGIT_PAIRS k other) ((48 + k / 10) ∷ (48 + k % 10) ∷ [])) (λ _. true) 100 n refl small

pub row : (other : List ℕ) (n : ℕ) → n < 100 → slice_index_or DIGIT_PAIRS n other ≡ (48 + n / 10) ∷ (48 + n % 10) ∷ []
row other n small = (bytes_eq-Decides _ _).0 (is_row other n small)

pub two : (n a b : ℕ) → 10 ≤ n → n < 100 → a ≡ 48 + n / 10 → b ≡ 48 + n % 10 → a ∷ b ∷ [] ≡ decimal n
two n a b low high tens ones = rw (tens, ones) (sym (decimal_two n low high))

-- the last two digits follow those of the number without them
last_two : (n a b : ℕ) → 100 ≤ n → n < 100000 → a ≡ 48 + n % 100 / 10 → b ≡ 48 + n % 100 % 10 → decimal n ≡ decimal (n / 100) ++ a ∷ b ∷ []
last_two n a b low high tens ones = rw (tens, ones) (decimal_pair n low (omega arith))

pub three : (n a b c : ℕ) → 100 ≤ n → n < 100000 → n / 100 < 10 → a ≡ 48 + n / 100 → b ≡ 48 + n % 100 / 10 → c ≡ 48 + n % 100 % 10 → a ∷ b ∷ c ∷ [] ≡ decimal n
three n a b c low high short first tens ones =
    sym (last_two n b c low high tens ones ∙ ap (λ front. front ++ b ∷ c ∷ []) (decimal_digit (n / 100) short ∙ ap (λ digit. digit ∷ []) (sym first)))

pub four : (n a b c d : ℕ) → 100 ≤ n → n < 100000 → 10 ≤ n / 100 → n / 100 < 100 → a ≡ 48 + n / 100 % 100 / 10 → b ≡ 48 + n / 100 % 100 % 10 → c ≡ 48 + n % 100 / 10 → d ≡ 48 + n % 100 % 10
    → a ∷ b ∷ c ∷ d ∷ [] ≡ decimal n
four n a b c d low high long short thousands hundreds tens ones =
    let same : n / 100 % 100 ≡ n / 100 = omega (arith, short) in
    let front : decimal (n / 100) ≡ a ∷ b ∷ [] = rw (thousands, hundreds, same) (decimal_two (n / 100) long short) in
    sym (last_two n c d low high tens ones ∙ ap (λ digits. digits ++ c ∷ d ∷ []) front)

pub five : (n x a b c d : ℕ) → n < 100000 → 100 ≤ n / 100 → x ≡ 48 + n / 100 / 100 → a ≡ 48 + n / 100 % 100 / 10 → b ≡ 48 + n / 100 % 100 % 10 → c ≡ 48 + n % 100 / 10 → d ≡ 48 + n % 100 % 10
    → x ∷ a ∷ b ∷ c ∷ d ∷ [] ≡ decimal n
five n x a b c d high long first thousands hundreds tens ones =
    let front : x ∷ a ∷ b ∷ [] ≡ decimal (n / 100) = three (n / 100) x a b long (omega (arith, high)) (omega (arith, high)) first thousands hundreds in
    sym (last_two n c d (omega (arith, long)) high tens ones ∙ ap (λ digits. digits ++ c ∷ d ∷ []) (sym front))
