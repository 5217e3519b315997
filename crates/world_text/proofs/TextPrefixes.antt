-- What a text begins with.
use Rattle.std.proofs.Common.{◌≡◌, ℕ, zero, suc, ◌<◌, ◌≤◌, ◌^◌, List, [], ◌∷◌, ◌++◌, length, get_or, take, drop, true, decimal, refl, sym, ap, ◌∙◌, arith}
use Rattle.std.proofs.lemmas.List.{take-append-drop, length-take-le}
use Rattle.std.proofs.lemmas.Fmt.{decimal-digits_value}
use Rattle.world_text.specs.reading.Numbers.{are_digits, number_value}
use Rattle.world_text.proofs.reading_laws.NumberLaws.{own}

-- the first element of a part at the front
first_same : (text : List ℕ) (count : ℕ) → 0 < count → get_or (take count text) 0 0 ≡ get_or text 0 0
first_same text zero some = absurd (omega arith)
first_same [] (suc count) some = refl
first_same (byte ∷ bytes) (suc count) some = refl

-- digits at the front, with no zero before others, spell their number
pub digits_lead : (text : List ℕ) (count : ℕ) → 0 < count → count ≤ length text → are_digits (take count text) ≡ true → (get_or text 0 0 ≡ 48 → count ≡ 1) → number_value (take count text) < 2 ^ 64
    → text ≡ decimal (number_value (take count text)) ++ drop count text
digits_lead text count some within digits first fits =
    let size : length (take count text) ≡ count = length-take-le count text within in
    let again : decimal (number_value (take count text)) ≡ take count text =
    decimal-digits_value own (take count text) digits (omega (arith, size)) (λ e. size ∙ first (sym (first_same text count some) ∙ e)) fits in
    sym (take-append-drop count text) ∙ ap (λ word. word ++ drop count text) (sym again)
