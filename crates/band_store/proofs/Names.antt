-- A list of names in order: what a search finds, and what an edit at that position does.
use Rattle.std.proofs.Common.{◌≡◌, inl, inr, ℕ, zero, suc, ◌+◌, ◌<◌, ◌≤◌, Bool, true, false, ◌&&◌, cond, List, [], ◌∷◌, length, get_or, set, Some, None, refl, sym, ◌∙◌, ap, arith}
use Rattle.std.specs.declared.cmp.Ordering.{Ordering}
use Rattle.std.specs.declared.cmp.Ordering.TheVariants.{Less, Equal, Greater}
use Rattle.std.specs.List.{insert}
use Rattle.std.specs.Ordering.{is_eq, is_lt, ordering_reverse}
use Rattle.std.specs.FinMap.{slice_cmp-IsAntisymmetric, nat_cmp-IsAntisymmetric}
use Rattle.std.specs.FinMap.Entries.{below_all, by_order}
use Rattle.std.specs.Cmp.Lexicographic.{nat_list_cmp_total}
use Rattle.std.proofs.lemmas.Bool.{cases_lt}
use Rattle.std.proofs.lemmas.List.{get_or_default}
use Rattle.band_store.specs.declared.directory.Extent.{Extent}
use Rattle.band_store.specs.Directory.{IsAt, IsGap, is_ordered, name_at, name_order, named, put_name}

abbrev pub Bands : Type 0
Bands = List (List ℕ × Extent)

abbrev pub nowhere : List ℕ × Extent
nowhere = ([], record { at = 0; size = 0 })

both : (a b : Bool) → (a && b) ≡ true → (a ≡ true) × (b ≡ true)
both true true e = (refl, refl)
both true false e = absurd cc
both false b e = absurd cc

less : (o : Ordering) → is_lt o ≡ true → o ≡ Less
less Less e = refl
less Equal e = absurd cc
less Greater e = absurd cc

-- names that compare as equal are equal
pub same_name : (x y : List ℕ) → name_order x y ≡ Equal → x ≡ y
same_name = slice_cmp-IsAntisymmetric nat_cmp-IsAntisymmetric

-- a name compares as equal to itself
tied : (x : List ℕ) → name_order x x ≡ Equal
tied x = by (name_order x x) refl
  where
    by : (o : Ordering) → name_order x x ≡ o → name_order x x ≡ Equal
    by Less e = absurd (let back : Less ≡ Greater = sym e ∙ nat_list_cmp_total.antisymm x x ∙ ap ordering_reverse e in cc)
    by Equal e = e
    by Greater e = absurd (let back : Greater ≡ Less = sym e ∙ nat_list_cmp_total.antisymm x x ∙ ap ordering_reverse e in cc)

-- each later name is greater
below_at : (x : List ℕ) (bands : Bands) (j : ℕ) (d : List ℕ × Extent) → below_all name_order x bands ≡ true → j < length bands → name_order x (get_or bands j d).0 ≡ Less
below_at x [] j d below within = absurd (omega arith)
below_at x (band ∷ bands) zero d below within = less (name_order x band.0) (both (is_lt (name_order x band.0)) (below_all name_order x bands) below).0
below_at x (band ∷ bands) (suc j) d below within = below_at x bands j d (both (is_lt (name_order x band.0)) (below_all name_order x bands) below).1 (omega arith)

pub rises : (bands : Bands) (i j : ℕ) (d : List ℕ × Extent) → is_ordered bands ≡ true → i < j → j < length bands → name_order (get_or bands i d).0 (get_or bands j d).0 ≡ Less
rises [] i j d ordered lt within = absurd (omega arith)
rises (band ∷ bands) i zero d ordered lt within = absurd (omega arith)
rises (band ∷ bands) zero (suc j) d ordered lt within = below_at band.0 bands j d (both (below_all name_order band.0 bands) (is_ordered bands) ordered).0 (omega arith)
rises (band ∷ bands) (suc i) (suc j) d ordered lt within = rises bands i j d (both (below_all name_order band.0 bands) (is_ordered bands) ordered).1 (omega arith) (omega arith)

-- the names below one position are less than this one, and those from another position on are greater
pub record IsNarrowed (bands : Bands) (name : List ℕ) (low high : ℕ) : Type 0 where
  pub order : low ≤ high
  pub within : high ≤ length bands
  pub before : (j : ℕ) → j < low → name_order name (name_at bands j) ≡ Greater
  pub behind : (j : ℕ) → high ≤ j → j < length bands → name_order name (name_at bands j) ≡ Less

-- the name is less than the one in the middle
pub narrow_less : (bands : Bands) (name : List ℕ) (low high mid : ℕ) → is_ordered bands ≡ true → IsNarrowed bands name low high → low ≤ mid → mid < high → name_order name (name_at bands mid) ≡ Less → IsNarrowed bands name low mid
narrow_less bands name low high mid ordered is le lt below = record {
  order = le;
  within = omega (arith, is.within);
  before = is.before;
  behind = λ j from within. elim (cases_lt mid j) [
    | inl later ↦ nat_list_cmp_total.trans name (name_at bands mid) (name_at bands j) below (rises bands mid j nowhere ordered later within)
    | inr here ↦ let same : j ≡ mid = omega arith in ap (λ (k : ℕ). name_order name (name_at bands k)) same ∙ below
  ];
}

turned : (x y : List ℕ) → name_order x y ≡ Greater → name_order y x ≡ Less
turned x y e = nat_list_cmp_total.antisymm y x ∙ ap ordering_reverse e

-- the name is greater
pub narrow_greater : (bands : Bands) (name : List ℕ) (low high mid : ℕ) → is_ordered bands ≡ true → IsNarrowed bands name low high → low ≤ mid → mid < high → name_order name (name_at bands mid) ≡ Greater → IsNarrowed bands name (mid + 1) high
narrow_greater bands name low high mid ordered is le lt above = record {
  order = omega arith;
  within = is.within;
  before = λ j before. elim (cases_lt j mid) [
    | inl earlier ↦ nat_list_cmp_total.antisymm name (name_at bands j)
        ∙ ap ordering_reverse (nat_list_cmp_total.trans (name_at bands j) (name_at bands mid) name (rises bands j mid nowhere ordered earlier (omega (arith, is.within))) (turned name (name_at bands mid) above))
    | inr here ↦ let same : j ≡ mid = omega arith in ap (λ (k : ℕ). name_order name (name_at bands k)) same ∙ above
  ];
  behind = is.behind;
}

-- the name is that one
pub narrow_equal : (bands : Bands) (name : List ℕ) (mid : ℕ) → is_ordered bands ≡ true → mid < length bands → name_order name (name_at bands mid) ≡ Equal → IsAt bands name mid
narrow_equal bands name mid ordered within ties =
    let here : name_at bands mid ≡ name = sym (same_name name (name_at bands mid) ties) in
    record {
      within = within;
      here = here;
      before = λ j lt. nat_list_cmp_total.antisymm name (name_at bands j)
          ∙ ap ordering_reverse (ap (name_order (name_at bands j)) (sym here) ∙ rises bands j mid nowhere ordered lt within);
    }

-- the result of a comparison with the name that was read, as one with the name at that position
pub compared : (bands : Bands) (name : List ℕ) (mid : ℕ) (read : List ℕ × Extent) (bytes : List ℕ) (o : Ordering) → mid < length bands → bytes ≡ (get_or bands mid read).0 → o ≡ name_order name bytes → name_order name (name_at bands mid) ≡ o
compared bands name mid read bytes o within is_read is =
    ap (name_order name) (sym (is_read ∙ ap (λ (b : List ℕ × Extent). b.0) (get_or_default bands mid read nowhere within))) ∙ sym is

-- in the list's tail, positions are one lower
at_tail : (band : List ℕ × Extent) (bands : Bands) (name : List ℕ) (at : ℕ) → IsAt (band ∷ bands) name (suc at) → IsAt bands name at
at_tail band bands name at is = record { within = omega (arith, is.within); here = is.here; before = λ j lt. is.before (suc j) (omega arith) }

gap_tail : (band : List ℕ × Extent) (bands : Bands) (name : List ℕ) (at : ℕ) → IsGap (band ∷ bands) name (suc at) → IsGap bands name at
gap_tail band bands name at is = record {
  within = omega (arith, is.within);
  before = λ j lt. is.before (suc j) (omega arith);
  behind = λ j le lt. is.behind (suc j) (omega arith) (omega arith);
}

gap_first : (band : List ℕ × Extent) (bands : Bands) (name : List ℕ) → IsGap (band ∷ bands) name zero → IsGap bands name zero
gap_first band bands name is = record {
  within = omega arith;
  before = λ j lt. absurd (omega arith);
  behind = λ j le lt. is.behind (suc j) (omega arith) (omega arith);
}

-- the name's value is the one at its position
pub named_at : (bands : Bands) (name : List ℕ) (at : ℕ) → IsAt bands name at → named name bands ≡ Some (get_or bands at nowhere).1
named_at [] name at is = absurd (omega (arith, is.within))
named_at (band ∷ bands) name zero is =
    ap (λ o. cond (is_eq o) (Some band.1) (named name bands)) (ap (name_order name) is.here ∙ tied name)
named_at (band ∷ bands) name (suc at) is =
    ap (λ o. cond (is_eq o) (Some band.1) (named name bands)) (is.before zero (omega arith)) ∙ named_at bands name at (at_tail band bands name at is)

-- a name with a gap has no value
pub named_gap : (bands : Bands) (name : List ℕ) (at : ℕ) → IsGap bands name at → named name bands ≡ None
named_gap [] name at is = refl
named_gap (band ∷ bands) name zero is =
    ap (λ o. cond (is_eq o) (Some band.1) (named name bands)) (is.behind zero (omega arith) (omega arith)) ∙ named_gap bands name zero (gap_first band bands name is)
named_gap (band ∷ bands) name (suc at) is =
    ap (λ o. cond (is_eq o) (Some band.1) (named name bands)) (is.before zero (omega arith)) ∙ named_gap bands name at (gap_tail band bands name at is)

-- a name that exists gets another value at its position
pub put_at : (bands : Bands) (name : List ℕ) (value : Extent) (at : ℕ) → IsAt bands name at → set bands at (name, value) ≡ put_name name value bands
put_at [] name value at is = absurd (omega (arith, is.within))
put_at (band ∷ bands) name value zero is =
    ap (λ n. (n, value) ∷ bands) (sym is.here)
    ∙ ap (λ o. by_order o ((name, value) ∷ band ∷ bands) ((band.0, value) ∷ bands) (band ∷ put_name name value bands)) (sym (ap (name_order name) is.here ∙ tied name))
put_at (band ∷ bands) name value (suc at) is =
    ap (λ (l : Bands). band ∷ l) (put_at bands name value at (at_tail band bands name at is))
    ∙ ap (λ o. by_order o ((name, value) ∷ band ∷ bands) ((band.0, value) ∷ bands) (band ∷ put_name name value bands)) (sym (is.before zero (omega arith)))

-- a new name is inserted in its gap
pub put_gap : (bands : Bands) (name : List ℕ) (value : Extent) (at : ℕ) → IsGap bands name at → insert bands at (name, value) ≡ put_name name value bands
put_gap [] name value zero is = refl
put_gap [] name value (suc at) is = absurd (omega (arith, is.within))
put_gap (band ∷ bands) name value zero is =
    ap (λ o. by_order o ((name, value) ∷ band ∷ bands) ((band.0, value) ∷ bands) (band ∷ put_name name value bands)) (sym (is.behind zero (omega arith) (omega arith)))
put_gap (band ∷ bands) name value (suc at) is =
    ap (λ (l : Bands). band ∷ l) (put_gap bands name value at (gap_tail band bands name at is))
    ∙ ap (λ o. by_order o ((name, value) ∷ band ∷ bands) ((band.0, value) ∷ bands) (band ∷ put_name name value bands)) (sym (is.before zero (omega arith)))
