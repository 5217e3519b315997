-- A place of a list after a write.
use Rattle.std.proofs.Common.{ℕ, ◌≡◌, ◌≢◌, ◌<◌, List, Some, length, length-set, slice_get, slice_set, sym, ap, ◌∙◌, arith, inl, inr}
use Rattle.std.proofs.lemmas.Bool.{cases_lt}
use Rattle.std.proofs.lemmas.List.{get_or-set_same, get_or-set_other}
use Rattle.std.proofs.lemmas.Option.{slice_get-get_or, slice_get_past}

pub slice_get-set_same : {X : Type 0} (xs : List X) (i : ℕ) (y : X) → i < length xs → slice_get (slice_set xs i y) i ≡ Some y
slice_get-set_same xs i y low = slice_get-get_or (slice_set xs i y) i y (omega (arith, low, length-set xs i y)) ∙ ap Some (get_or-set_same xs i y y low)

pub slice_get-set_other : {X : Type 0} (xs : List X) (i j : ℕ) (y : X) → j ≢ i → slice_get (slice_set xs i y) j ≡ slice_get xs j
slice_get-set_other xs i j y ne =
    elim (cases_lt j (length xs)) [
      | inl low ↦ slice_get-get_or (slice_set xs i y) j y (omega (arith, low, length-set xs i y)) ∙ ap Some (get_or-set_other xs i j y y ne) ∙ sym (slice_get-get_or xs j y low)
      | inr past ↦ slice_get_past (slice_set xs i y) j (omega (arith, past, length-set xs i y)) ∙ sym (slice_get_past xs j past)
    ]
