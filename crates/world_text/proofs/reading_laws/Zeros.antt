-- Numbers that are written over zeros.
use Rattle.std.proofs.Common.{◌≡◌, ℕ, suc, ◌-◌, ◌<◌, List, [], ◌∷◌, ◌++◌, length, refl, ap, arith, length-append}
use Rattle.std.specs.Prelude.{replicate, slice_set}

set_zero : (numbers : List ℕ) (number left : ℕ) → slice_set (numbers ++ replicate (suc left) 0) (length numbers) number ≡ (numbers ++ number ∷ []) ++ replicate left 0
set_zero [] number left = refl
set_zero (first ∷ numbers) number left = ap (λ (xs : List ℕ). first ∷ xs) (set_zero numbers number left)

-- one number more
pub zeros_set : (numbers capacity : List ℕ) (number level size : ℕ) → capacity ≡ numbers ++ replicate (size - length numbers) 0 → level ≡ length numbers → level < size
    → slice_set capacity level number ≡ (numbers ++ number ∷ []) ++ replicate (size - length (numbers ++ number ∷ [])) 0
zeros_set numbers capacity number level size is at within =
    let e : size - length numbers ≡ suc (size - suc (length numbers)) = omega arith in
    let f : length (numbers ++ number ∷ []) ≡ suc (length numbers) = omega (arith, length-append numbers (number ∷ [])) in
    rw (is, at, f, e) (set_zero numbers number (size - suc (length numbers)))
