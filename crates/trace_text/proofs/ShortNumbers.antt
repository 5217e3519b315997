-- The table of the lines of the numbers below 100.
use Rattle.std.proofs.Common.{◌≡◌, ℕ, ◌+◌, ◌-◌, ◌/◌, ◌%◌, ◌<◌, ◌≤◌, true, List, [], ◌∷◌, ◌++◌, take, slice_index_or, decimal, refl, ap, sym, ◌∙◌, arith}
use Rattle.std.specs.Prelude.{bytes_eq}
use Rattle.std.proofs.lemmas.Bool.{agree_below_at}
use Rattle.std.proofs.lemmas.Fmt.{decimal_digit}
use Rattle.std.proofs.lemmas.Slice.Eq.{bytes_eq-Decides}
use Rattle.itoa.proofs.Decimal.{decimal_two}
use Rattle.trace_text.specs.declared.reply.TheConstants.{SHORT_NUMBERS}

one_row : (other : List ℕ) (n : ℕ) → n < 10 → bytes_eq (take 2 (slice_index_or SHORT_NUMBERS n other)) ((48 + n) ∷ 10 ∷ []) ≡ true
one_row other n small = agree_below_at (λ k. bytes_eq (take 2 (slice_index_or SHORT_NUMBERS k other)) ((48 + k) ∷ 10 ∷ [])) (λ _. true) 10 n refl small

two_row : (other : List ℕ) (n : ℕ) → n < 90 → bytes_eq (take 3 (slice_index_or SHORT_NUMBERS (n + 10) other)) ((48 + (n + 10) / 10) ∷ (48 + (n + 10) % 10) ∷ 10 ∷ []) ≡ true
two_row other n small = agree_below_at (λ k. bytes_eq (take 3 (slice_index_or SHORT_NUMBERS (k + 10) other)) ((48 + (k + 10) / 10) ∷ (48 + (k + 10) % 10) ∷ 10 ∷ [])) (λ _. true) 90 n refl small

pub one_line : (other : List ℕ) (n : ℕ) → n < 10 → take 2 (slice_index_or SHORT_NUMBERS n other) ≡ decimal n ++ 10 ∷ []
one_line other n small = (bytes_eq-Decides _ _).0 (one_row other n small) ∙ ap (λ digits. digits ++ 10 ∷ []) (sym (decimal_digit n small))

pub two_line : (other : List ℕ) (n : ℕ) → 10 ≤ n → n < 100 → take 3 (slice_index_or SHORT_NUMBERS n other) ≡ decimal n ++ 10 ∷ []
two_line other n low high =
    let e : n - 10 + 10 ≡ n = omega arith in
    let row = ap (λ k. bytes_eq (take 3 (slice_index_or SHORT_NUMBERS k other)) ((48 + k / 10) ∷ (48 + k % 10) ∷ 10 ∷ [])) (sym e) ∙ two_row other (n - 10) (omega arith) in
    (bytes_eq-Decides _ _).0 row ∙ ap (λ digits. digits ++ 10 ∷ []) (sym (decimal_two n low high))
