-- Lookups in a list after a write to it, and in a part of it.
use Rattle.std.proofs.Common.{ℕ, zero, suc, ◌≡◌, ◌≢◌, ◌+◌, ◌-◌, ◌<◌, List, [], ◌∷◌, Some, length, slice_get, slice_set, slice_range, take, drop, replicate, refl, arith, ap, ◌∙◌}
use Rattle.std.proofs.lemmas.List.{get_or-replicate, length-replicate}
use Rattle.std.proofs.lemmas.Option.{slice_get-get_or}

-- the place that was written
pub get-set_same : {X : Type 0} (xs : List X) (i : ℕ) (y : X) → i < length xs → slice_get (slice_set xs i y) i ≡ Some y
get-set_same [] i y h = absurd (omega arith)
get-set_same (x ∷ xs) zero y h = refl
get-set_same (x ∷ xs) (suc i) y h = get-set_same xs i y (omega arith)

-- any other place
pub get-set_other : {X : Type 0} (xs : List X) (i j : ℕ) (y : X) → j ≢ i → slice_get (slice_set xs i y) j ≡ slice_get xs j
get-set_other [] i j y ne = refl
get-set_other (x ∷ xs) zero zero y ne = absurd (ne refl)
get-set_other (x ∷ xs) zero (suc j) y ne = refl
get-set_other (x ∷ xs) (suc i) zero y ne = refl
get-set_other (x ∷ xs) (suc i) (suc j) y ne = get-set_other xs i j y (λ e. ne (ap suc e))

-- a place of a prefix
get-take : {X : Type 0} (xs : List X) (n k : ℕ) → k < n → slice_get (take n xs) k ≡ slice_get xs k
get-take xs zero k h = absurd (omega arith)
get-take [] (suc n) k h = refl
get-take (x ∷ xs) (suc n) zero h = refl
get-take (x ∷ xs) (suc n) (suc k) h = get-take xs n k (omega arith)

-- a place of a rest
get-drop : {X : Type 0} (xs : List X) (n k : ℕ) → slice_get (drop n xs) k ≡ slice_get xs (n + k)
get-drop xs zero k = let e : 0 + k ≡ k = omega arith in rw e refl
get-drop [] (suc n) k = refl
get-drop (x ∷ xs) (suc n) k = let e : suc n + k ≡ suc (n + k) = omega arith in rw e (get-drop xs n k)

-- a place of a part
pub get-slice_range : {X : Type 0} (xs : List X) (a b k : ℕ) → k < b - a → slice_get (slice_range xs a b) k ≡ slice_get xs (a + k)
get-slice_range xs a b k h = get-take (drop a xs) (b - a) k h ∙ get-drop xs a k

-- any place among copies of a value
pub get-replicate : {X : Type 0} (n k : ℕ) (y : X) → k < n → slice_get (replicate n y) k ≡ Some y
get-replicate n k y h =
    slice_get-get_or (replicate n y) k y (omega (arith, length-replicate n y)) ∙ ap Some (get_or-replicate n k y y h)
