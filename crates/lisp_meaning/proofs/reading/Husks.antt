-- The words of husks, class by class, when roles or classes change.
use Rattle.std.proofs.Common.{◌≡◌, ℕ, zero, suc, ◌+◌, ◌-◌, ◌<◌, ◌≤◌, ◌⊎◌, inl, inr, Bool, true, false, ◌&&◌, refl, sym, ◌∙◌, ap, arith, Some, nat_eq}
use Rattle.std.proofs.lemmas.Bool.{cases_Bool, cases_eq}
use Rattle.lisp_graph.specs.Totals.{total, if_true}
use Rattle.lisp_graph.proofs.Totals.{total-zero, total-suc, total-le, total-add}
use Rattle.lisp_meaning.specs.reading.Image.{Image, region, is_free, Live}
use Rattle.lisp_meaning.specs.reading.Classes.{Class, class_at, is_live_at, in_class, classes}
use Rattle.lisp_meaning.specs.invariants.Roles.{AsCons, AsBlock, Role, Blank, Scratch, Waste, HuskWord, PairHead, PairTail, Cell, Head, Field, Moved, Relaid, names_as, owner, RoleMap}
use Rattle.lisp_meaning.specs.invariants.ChargesIn.{is_of_husk, husk_word_in}
use Rattle.lisp_meaning.specs.invariants.Invariant.{Covered, HusksFit}
use Rattle.lisp_meaning.specs.invariants.Laid.{between}
use Rattle.lisp_meaning.specs.invariants.Placed.{Placed, Recharged}
use Rattle.lisp_meaning.proofs.sums.Charges.{total-none}
use Rattle.lisp_meaning.proofs.layout.Layout.{between_yes, between_no, between_which}
use Rattle.lisp_meaning.proofs.layout.Placement.{two_numbers, class_no}

-- a word of an object, or of a cons's forward, is no word of a husk

pub owned_no_husk : (r : Role) (n : ℕ) → owner r ≡ Some n → is_of_husk r ≡ false
owned_no_husk (PairHead m) n e = refl
owned_no_husk (PairTail m) n e = refl
owned_no_husk (Cell m i) n e = refl
owned_no_husk (Head m) n e = refl
owned_no_husk (Field m i) n e = refl
owned_no_husk (HuskWord m) n e = cc
owned_no_husk (Relaid kind m) n e = cc
owned_no_husk (Moved kind m) n e = refl
owned_no_husk Blank n e = refl
owned_no_husk Scratch n e = refl
owned_no_husk Waste n e = refl

pub named_no_husk : (r : Role) (n : ℕ) → names_as AsCons r ≡ Some n → is_of_husk r ≡ false
named_no_husk (PairHead m) n e = refl
named_no_husk (PairTail m) n e = refl
named_no_husk (Cell m i) n e = refl
named_no_husk (Head m) n e = refl
named_no_husk (Field m i) n e = refl
named_no_husk (HuskWord m) n e = cc
named_no_husk (Relaid AsCons m) n e = refl
named_no_husk (Relaid AsBlock m) n e = cc
named_no_husk (Moved kind m) n e = refl
named_no_husk Blank n e = refl
named_no_husk Scratch n e = refl
named_no_husk Waste n e = refl

-- Nothing new

-- each word of a husk in a live class was one before, in the same class
pub record NoNewHusks (regions regions' : ℕ → Class) (k k' : RoleMap) : Type 0 where
  pub was : (a : ℕ) → is_of_husk (k'.role a) ≡ true → is_live_at regions' a ≡ true → (is_of_husk (k.role a) ≡ true) × (class_at regions' a ≡ class_at regions a)

-- so no class has more of them
pub husks_stay : (regions regions' : ℕ → Class) (k k' : RoleMap) → NoNewHusks regions regions' k k' → (area level count : ℕ)
    → total (husk_word_in k' regions' area level) count ≤ total (husk_word_in k regions area level) count
husks_stay regions regions' k k' h area level count =
    total-le (husk_word_in k' regions' area level) (husk_word_in k regions area level) count (λ a l. each a (cases_Bool (is_of_husk (k'.role a))) (cases_Bool (is_live_at regions' a)))
  where
    each : (a : ℕ) → (is_of_husk (k'.role a) ≡ true) ⊎ (is_of_husk (k'.role a) ≡ false) → (is_live_at regions' a ≡ true) ⊎ (is_live_at regions' a ≡ false)
        → husk_word_in k' regions' area level a ≤ husk_word_in k regions area level a
    each a (inr e) t = let x : husk_word_in k' regions' area level a ≡ 0 = ap (λ (b : Bool). if_true (b && in_class area level a (class_at regions' a)) 1) e in omega arith
    each a (inl e) (inr f) =
        let x : husk_word_in k' regions' area level a ≡ 0 =
        ap (λ (b : Bool). if_true (b && in_class area level a (class_at regions' a)) 1) e
        ∙ ap (λ (b : Bool). if_true (b && (nat_eq (class_at regions' a).area area && nat_eq (class_at regions' a).level level)) 1) f in
        omega arith
    each a (inl e) (inl f) =
        let w = h.was a e f in
        let x : husk_word_in k' regions' area level a ≡ husk_word_in k regions area level a =
        ap (λ (b : Bool). if_true (b && in_class area level a (class_at regions' a)) 1) (e ∙ sym w.0)
        ∙ ap (λ (c : Class). if_true (is_of_husk (k.role a) && in_class area level a c) 1) w.1 in
        omega arith

-- Words are placed

module _ (g g' : Image) (k k' : RoleMap) (b count area level : ℕ) (c : Covered g k) (p : Placed g g' b count area level) where
  not_free : (a : ℕ) → is_of_husk (k.role a) ≡ true → is_free (region g a).standing ≡ false
  not_free a e = go (cases_Bool (is_free (region g a).standing))
    where
      go : (is_free (region g a).standing ≡ true) ⊎ (is_free (region g a).standing ≡ false) → is_free (region g a).standing ≡ false
      go (inl f) = let x = ap is_of_husk (c.free a f) in cc
      go (inr f) = f

  still_husk : (a : ℕ) → is_of_husk (k'.role a) ≡ true → k'.role a ≡ k.role a → is_of_husk (k.role a) ≡ true
  still_husk a e r = ap is_of_husk (sym r) ∙ e

  -- and none is a word of a husk
  pub husks_placed : ((a : ℕ) → is_of_husk (k'.role a) ≡ true → k'.role a ≡ k.role a) → ((x y : ℕ) → g'.live_husks x y ≡ g.live_husks x y) → HusksFit g k → HusksFit g' k'
  husks_placed same husks fit x y i =
      let less = husks_stay (classes g) (classes g') k k' (record { was = λ a e l. (still_husk a e (same a e), p.class a (not_free a (still_husk a e (same a e)))) }) x y i in
      let was = fit x y i in
      let now = husks x y in
      omega arith

  -- an object is relocated: at most `gone` words, from a on, become words of a husk in its class
  module _ (a gone before after : ℕ) (t : Recharged g g' area level before after gone)
      (which : (i : ℕ) → is_of_husk (k'.role i) ≡ true → (k'.role i ≡ k.role i) ⊎ ((a ≤ i) × (i < a + gone)))
      (there : (i : ℕ) → (a ≤ i) × (i < a + gone) → class_at (classes g') i ≡ record { area = area; level = level; standing = Live }) where
    -- 1 for one of these words, if the class is theirs
    new_husk : ℕ → ℕ → ℕ → ℕ
    new_husk x y i = if_true (between a gone i && in_class x y i (record { area = area; level = level; standing = Live })) 1

    each : (x y i : ℕ) → husk_word_in k' (classes g') x y i ≤ husk_word_in k (classes g) x y i + new_husk x y i
    unfolding new_husk
    each x y i = go (cases_Bool (is_of_husk (k'.role i)))
      where
        at : is_of_husk (k'.role i) ≡ true → (k'.role i ≡ k.role i) ⊎ ((a ≤ i) × (i < a + gone)) → husk_word_in k' (classes g') x y i ≤ husk_word_in k (classes g) x y i + new_husk x y i
        at e (inl r) =
            let z : husk_word_in k' (classes g') x y i ≡ husk_word_in k (classes g) x y i =
            ap (λ (q : Role). if_true (is_of_husk q && in_class x y i (class_at (classes g') i)) 1) r
            ∙ ap (λ (q : Class). if_true (is_of_husk (k.role i) && in_class x y i q) 1) (p.class i (not_free i (still_husk i e r))) in
            omega arith
        at e (inr w) =
            let z : husk_word_in k' (classes g') x y i ≡ if_true (in_class x y i (record { area = area; level = level; standing = Live })) 1 =
            ap (λ (q : Bool). if_true (q && in_class x y i (class_at (classes g') i)) 1) e ∙ ap (λ (q : Class). if_true (in_class x y i q) 1) (there i w) in
            let v : new_husk x y i ≡ if_true (in_class x y i (record { area = area; level = level; standing = Live })) 1 =
            ap (λ (q : Bool). if_true (q && in_class x y i (record { area = area; level = level; standing = Live })) 1) (between_yes a gone i w.0 w.1) in
            omega arith

        go : (is_of_husk (k'.role i) ≡ true) ⊎ (is_of_husk (k'.role i) ≡ false) → husk_word_in k' (classes g') x y i ≤ husk_word_in k (classes g) x y i + new_husk x y i
        go (inl e) = at e (which i e)
        go (inr e) = let z : husk_word_in k' (classes g') x y i ≡ 0 = ap (λ (q : Bool). if_true (q && in_class x y i (class_at (classes g') i)) 1) e in omega arith

    more : (x y i : ℕ) → total (husk_word_in k' (classes g') x y) i ≤ total (husk_word_in k (classes g) x y) i + total (new_husk x y) i
    more x y i =
        let l = total-le (husk_word_in k' (classes g') x y) (λ j. husk_word_in k (classes g) x y j + new_husk x y j) i (λ j q. each x y j) in
        let s = total-add (husk_word_in k (classes g) x y) (new_husk x y) i in
        omega arith

    -- at most `gone` numbers are from a on and below a + gone
    few : (i : ℕ) → (total (λ j. if_true (between a gone j) 1) i ≤ gone) × (total (λ j. if_true (between a gone j) 1) i ≤ i - a)
    few zero = let z = total-zero (λ j. if_true (between a gone j) 1) in (omega arith, omega arith)
    few (suc i) = let f = few i in go (between_which a gone i) f.0 f.1 (total-suc (λ j. if_true (between a gone j) 1) i)
      where
        go : ((a ≤ i) × (i < a + gone)) ⊎ ((a ≤ i) × (i < a + gone) → ⊥) → total (λ j. if_true (between a gone j) 1) i ≤ gone → total (λ j. if_true (between a gone j) 1) i ≤ i - a
            → total (λ j. if_true (between a gone j) 1) (suc i) ≡ if_true (between a gone i) 1 + total (λ j. if_true (between a gone j) 1) i
            → (total (λ j. if_true (between a gone j) 1) (suc i) ≤ gone) × (total (λ j. if_true (between a gone j) 1) (suc i) ≤ suc i - a)
        go (inl x) l m e = let y = x.0 in let z = x.1 in let q = ap (λ (t : Bool). if_true t 1) (between_yes a gone i x.0 x.1) in (omega arith, omega arith)
        go (inr x) l m e = let q = ap (λ (t : Bool). if_true t 1) (between_no a gone i x) in (omega arith, omega arith)

    few_here : (x y i : ℕ) → total (new_husk x y) i ≤ gone
    unfolding new_husk
    few_here x y i =
        let l = total-le (new_husk x y) (λ j. if_true (between a gone j) 1) i (λ j q. less (between a gone j) (in_class x y j (record { area = area; level = level; standing = Live }))) in
        let f = (few i).0 in
        omega arith
      where
        less : (u v : Bool) → if_true (u && v) 1 ≤ if_true u 1
        less true true = omega arith
        less true false = omega arith
        less false v = omega arith

    none_else : (x y i : ℕ) → ((x ≡ area) × (y ≡ level) → ⊥) → total (new_husk x y) i ≡ 0
    unfolding new_husk
    none_else x y i ne = total-none (new_husk x y) i (λ j q. ap (λ (t : Bool). if_true (between a gone j && t) 1) (class_no area level x y j ne) ∙ zero_one (between a gone j))
      where
        zero_one : (u : Bool) → if_true (u && false) 1 ≡ 0
        zero_one true = refl
        zero_one false = refl

    pub husks_relaid : HusksFit g k → HusksFit g' k'
    husks_relaid fit x y i = go (two_numbers x y area level (cases_eq x area) (cases_eq y level))
      where
        go : ((x ≡ area) × (y ≡ level)) ⊎ ((x ≡ area) × (y ≡ level) → ⊥) → total (husk_word_in k' (classes g') x y) i ≤ g'.live_husks x y
        go (inl e) =
            let now : g'.live_husks x y ≡ g.live_husks x y + gone =
            ap (λ (q : ℕ). g'.live_husks q y) e.0 ∙ ap (g'.live_husks area) e.1 ∙ t.husks_class ∙ sym (ap (λ (q : ℕ). g.live_husks q y + gone) e.0 ∙ ap (λ (q : ℕ). g.live_husks area q + gone) e.1) in
            let l = more x y i in let f = few_here x y i in let w = fit x y i in
            omega arith
        go (inr ne) = let now = t.husks_else x y ne in let l = more x y i in let f = none_else x y i ne in let w = fit x y i in omega arith
