-- A number of one to three digits at the front of a text.
use Rattle.std.proofs.Common.{◌≡◌, ℕ, ◌+◌, ◌-◌, ◌*◌, ◌≤◌, List, [], ◌∷◌, ◌++◌, length, get_or, take, drop, ap, ◌∙◌, arith, decimal}
use Rattle.std.proofs.lemmas.List.{take_rest}
use Rattle.std.proofs.lemmas.Fmt.{decimal_digit}
use Rattle.itoa.proofs.Decimal.{decimal_two}
use Rattle.trace_text.proofs.DigitPairs.{three}

one_digit : (first : ℕ) (rest : List ℕ) → 48 ≤ first → first ≤ 57 → first ∷ rest ≡ decimal (first - 48) ++ rest
one_digit first rest low high = let e : first ≡ 48 + (first - 48) = omega arith in rw (decimal_digit (first - 48) (omega arith)) (ap (λ d. d ∷ rest) e)

two_digits : (first second n : ℕ) (rest : List ℕ) → 49 ≤ first → first ≤ 57 → 48 ≤ second → second ≤ 57 → n ≡ 10 * (first - 48) + (second - 48) → first ∷ second ∷ rest ≡ decimal n ++ rest
two_digits first second n rest low high low' high' is = rw (decimal_two n (omega arith) (omega arith)) (two (omega arith) (omega arith))
  where
    two : {a b : ℕ} → first ≡ a → second ≡ b → first ∷ second ∷ rest ≡ a ∷ b ∷ rest
    two e f = cc

pub one_lead : (text : List ℕ) (n : ℕ) → 1 ≤ length text → 48 ≤ get_or text 0 0 → get_or text 0 0 ≤ 57 → n ≡ get_or text 0 0 - 48 → text ≡ decimal n ++ take (length text - 1) (drop 1 text)
one_lead [] n some low high is = absurd (omega arith)
one_lead (first ∷ rest) n some low high is = rw (take_rest (first ∷ rest) 1, is) (one_digit first rest low high)

pub two_lead : (text : List ℕ) (n : ℕ) → 2 ≤ length text → 49 ≤ get_or text 0 0 → get_or text 0 0 ≤ 57 → 48 ≤ get_or text 1 0 → get_or text 1 0 ≤ 57 → n ≡ 10 * (get_or text 0 0 - 48) + (get_or text 1 0 - 48) → text ≡ decimal n ++ take (length text - 2) (drop 2 text)
two_lead [] n some low high low' high' is = absurd (omega arith)
two_lead (first ∷ []) n some low high low' high' is = absurd (omega arith)
two_lead (first ∷ second ∷ rest) n some low high low' high' is = rw (take_rest (first ∷ second ∷ rest) 2) (two_digits first second n rest low high low' high' is)

-- the same with a space after the number

pub one_spaced : (text : List ℕ) (n : ℕ) → 2 ≤ length text → 48 ≤ get_or text 0 0 → get_or text 0 0 ≤ 57 → n ≡ get_or text 0 0 - 48 → get_or text 1 0 ≡ 32 → text ≡ decimal n ++ 32 ∷ take (length text - 2) (drop 2 text)
one_spaced [] n some low high is space = absurd (omega arith)
one_spaced (first ∷ []) n some low high is space = absurd (omega arith)
one_spaced (first ∷ second ∷ rest) n some low high is space =
    rw (take_rest (first ∷ second ∷ rest) 2, is) (one_digit first (second ∷ rest) low high ∙ ap (λ byte. decimal (first - 48) ++ byte ∷ rest) space)

pub two_spaced : (text : List ℕ) (n : ℕ) → 3 ≤ length text → 49 ≤ get_or text 0 0 → get_or text 0 0 ≤ 57 → 48 ≤ get_or text 1 0 → get_or text 1 0 ≤ 57 → n ≡ 10 * (get_or text 0 0 - 48) + (get_or text 1 0 - 48) → get_or text 2 0 ≡ 32
    → text ≡ decimal n ++ 32 ∷ take (length text - 3) (drop 3 text)
two_spaced [] n some low high low' high' is space = absurd (omega arith)
two_spaced (first ∷ []) n some low high low' high' is space = absurd (omega arith)
two_spaced (first ∷ second ∷ []) n some low high low' high' is space = absurd (omega arith)
two_spaced (first ∷ second ∷ third ∷ rest) n some low high low' high' is space =
    rw (take_rest (first ∷ second ∷ third ∷ rest) 3) (two_digits first second n (third ∷ rest) low high low' high' is ∙ ap (λ byte. decimal n ++ byte ∷ rest) space)

three_digits : (first second third n : ℕ) (rest : List ℕ) → 49 ≤ first → first ≤ 57 → 48 ≤ second → second ≤ 57 → 48 ≤ third → third ≤ 57 → n ≡ 10 * (10 * (first - 48) + (second - 48)) + (third - 48) → first ∷ second ∷ third ∷ rest ≡ decimal n ++ rest
three_digits first second third n rest low high low' high' low'' high'' is =
    ap (λ digits. digits ++ rest) (three n first second third (omega arith) (omega arith) (omega arith) (omega arith) (omega arith) (omega arith))

pub three_spaced : (text : List ℕ) (n : ℕ) → 4 ≤ length text → 49 ≤ get_or text 0 0 → get_or text 0 0 ≤ 57 → 48 ≤ get_or text 1 0 → get_or text 1 0 ≤ 57 → 48 ≤ get_or text 2 0 → get_or text 2 0 ≤ 57
    → n ≡ 10 * (10 * (get_or text 0 0 - 48) + (get_or text 1 0 - 48)) + (get_or text 2 0 - 48) → get_or text 3 0 ≡ 32 → text ≡ decimal n ++ 32 ∷ take (length text - 4) (drop 4 text)
three_spaced [] n some low high low' high' low'' high'' is space = absurd (omega arith)
three_spaced (first ∷ []) n some low high low' high' low'' high'' is space = absurd (omega arith)
three_spaced (first ∷ second ∷ []) n some low high low' high' low'' high'' is space = absurd (omega arith)
three_spaced (first ∷ second ∷ third ∷ []) n some low high low' high' low'' high'' is space = absurd (omega arith)
three_spaced (first ∷ second ∷ third ∷ fourth ∷ rest) n some low high low' high' low'' high'' is space =
    rw (take_rest (first ∷ second ∷ third ∷ fourth ∷ rest) 4) (three_digits first second third n (fourth ∷ rest) low high low' high' low'' high'' is ∙ ap (λ byte. decimal n ++ byte ∷ rest) space)
