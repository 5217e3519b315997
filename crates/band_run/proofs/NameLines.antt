-- The lines of a list of names.
use Rattle.std.proofs.Common.{◌≡◌, ℕ, zero, suc, ◌+◌, ◌<◌, ◌≤◌, List, [], ◌∷◌, ◌++◌, length, take, get_or, Some, None, refl, ap, ◌∙◌, arith}
use Rattle.std.specs.Prelude.{slice_get}
use Rattle.std.proofs.lemmas.List.{take_all}
use Rattle.outer_ports.proofs.Gains.{parts_more}
use Rattle.band_store.specs.declared.directory.Extent.{Extent}
use Rattle.band_store.specs.Directory.{sizes}
use Rattle.band_run.specs.Replies.{band_line, list_text}

found : (bands : List (List ℕ × ℕ)) (i : ℕ) (band : List ℕ × ℕ) → Some band ≡ slice_get bands i → (i < length bands) × (get_or bands i band ≡ band)
found [] zero band is = absurd (cc (is))
found [] (suc i) band is = absurd (cc (is))
found (b ∷ bs) zero band is = (omega arith, cc)
found (b ∷ bs) (suc i) band is = let r = found bs i band is in (omega (arith, r.0), r.1)

-- the line of one more name
pub lines_more : (bands : List (List ℕ × ℕ)) (i : ℕ) (band : List ℕ × ℕ) → Some band ≡ slice_get bands i → list_text (take (i + 1) bands) ≡ list_text (take i bands) ++ band_line band
lines_more bands i band is =
    let r = found bands i band is in
    parts_more band_line bands i band r.0 ∙ ap (λ b. list_text (take i bands) ++ band_line b) r.1

-- there is a name at each position up to the end
pub some_there : (bands : List (List ℕ × ℕ)) (i : ℕ) → i < length bands → None ≡ slice_get bands i → ⊥
some_there [] i below is = omega arith
some_there (b ∷ bs) zero below is = cc (is)
some_there (b ∷ bs) (suc i) below is = some_there bs i (omega arith) is

pub length-sizes : (bands : List (List ℕ × Extent)) → length (sizes bands) ≡ length bands
length-sizes [] = refl
length-sizes (band ∷ bands) = omega (arith, length-sizes bands)

pub lines_all : (bands : List (List ℕ × Extent)) (i : ℕ) → length bands ≤ i → list_text (take i (sizes bands)) ≡ list_text (sizes bands)
lines_all bands i past = ap list_text (take_all i (sizes bands) (omega (arith, length-sizes bands)))
