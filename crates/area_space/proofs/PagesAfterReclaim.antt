-- Which pages are resident after a reclaim.
use Rattle.std.proofs.Common.{ℕ, ◌≡◌, ◌≢◌, ◌+◌, ◌/◌, ◌<◌, Bool, true, false, not, ◌&&◌, List, [], ◌∷◌, filter, if◌then◌else◌, refl, sym, ap, subst, ◌∙◌, arith, inl, inr, get_or}
use Rattle.std.specs.Prelude.{nat_eq, nat_lt, slice_index_or, ◌==◌}
use Rattle.std.specs.List.{list_any, range_with_len}
use Rattle.std.proofs.lemmas.Bool.{cases_Bool, cases_eq, cases_lt, cond-true, cond-false, eq-eqb, eqb-true, le-ltb, lt-ltb, ne_eqb}
use Rattle.std.proofs.lemmas.Cmp.{nat_eq_equiv}
use Rattle.std.proofs.lemmas.List.Elements.{filter_agree}
use Rattle.std.proofs.lemmas.List.Folds.{Any-from_list_any, list_any_at}
use Rattle.std.proofs.lemmas.List.FromFn.{get_or-range_with_len, length-range_with_len}
use Rattle.std.proofs.lemmas.Map.Views.{list_any-from_Contains}
use Rattle.mem_port.specs.Frames.{outside}
use Rattle.index_lists.proofs.ListUpdates.{list_in}
use Rattle.area_space.specs.Frees.{is_old, outside_old}
use Rattle.area_space.specs.Sound.{IsTable}
use Rattle.area_space.specs.Table.{Table, chain, lists_of, slots_of, stale, IsOld}
use Rattle.area_space.proofs.RegionStates.{old_or_not}

-- the pages outside the old regions below a number
abbrev pub outside_old_below : Table → ℕ → List ℕ → List ℕ
outside_old_below t below pages = filter (λ page. not (nat_lt (page / 16) below && is_old t (page / 16))) pages

and_false : (b : Bool) → (b && false) ≡ false
and_false true = refl
and_false false = refl

and_true : (b : Bool) → (b && true) ≡ b
and_true true = refl
and_true false = refl

-- Filters

-- one test after another
filter_both : (f g h : ℕ → Bool) → ((x : ℕ) → h x ≡ (f x && g x)) → (xs : List ℕ) → filter g (filter f xs) ≡ filter h xs
filter_both f g h same [] = refl
filter_both f g h same (x ∷ xs) =
    let rest = filter_both f g h same xs in
    elim (cases_Bool (f x)) [
      | inl on ↦ ap (filter g) (cond-true _ _ _ on) ∙ ap (λ ys. if g x then x ∷ ys else ys) rest ∙ ap (λ b. if b then x ∷ filter h xs else filter h xs) (sym (same x ∙ ap (λ b. b && g x) on))
      | inr off ↦ ap (filter g) (cond-false _ _ _ off) ∙ rest ∙ sym (cond-false _ _ _ (same x ∙ ap (λ b. b && g x) off))
    ]

-- a test that every number passes
filter_any : (f : ℕ → Bool) → ((x : ℕ) → f x ≡ true) → (xs : List ℕ) → filter f xs ≡ xs
filter_any f pass [] = refl
filter_any f pass (x ∷ xs) = cond-true _ _ _ (pass x) ∙ ap (λ ys. x ∷ ys) (filter_any f pass xs)

-- Old regions

old_passes : (t : Table) (r : ℕ) → IsTable t → IsOld t r → is_old t r ≡ true
old_passes t r v old =
    let low : old.0 < slots_of t = (let l = list_in (lists_of t) (stale old.0) r old.1 in let s = v.chains_size in omega arith) in
    let at : get_or (range_with_len 0 (slots_of t)) old.0 0 ≡ old.0 = (let e = get_or-range_with_len 0 (slots_of t) old.0 0 low in omega arith) in
    list_any_at (λ slot. list_any (nat_eq r) (chain t (stale slot))) (range_with_len 0 (slots_of t)) old.0 0 (subst (λ n. old.0 < n) (sym (length-range_with_len 0 (slots_of t))) low)
    (ap (λ slot. list_any (nat_eq r) (chain t (stale slot))) at ∙ list_any-from_Contains nat_eq_equiv r (chain t (stale old.0)) old.1)

passes_old : (t : Table) (r : ℕ) → is_old t r ≡ true → IsOld t r
passes_old t r e =
    let a = Any-from_list_any (λ slot. list_any (nat_eq r) (chain t (stale slot))) (range_with_len 0 (slots_of t)) e in
    let b = Any-from_list_any (nat_eq r) (chain t (stale a.1)) a.4 in
    let is : r ≡ b.1 = eqb-true r b.1 b.4 in
    (a.1, (b.0, b.2, subst (λ y. slice_index_or (chain t (stale a.1)) b.0 y ≡ y) (sym is) b.3))

others_fail : (t : Table) (r : ℕ) → (IsOld t r → ⊥) → is_old t r ≡ false
others_fail t r other = elim (cases_Bool (is_old t r)) [ inl on ↦ absurd (other (passes_old t r on)) | inr off ↦ off ]

-- The pages of one region more

lt_more : (r k : ℕ) → r ≢ k → nat_lt r (k + 1) ≡ nat_lt r k
lt_more r k ne = elim (cases_lt r k) [ inl low ↦ lt-ltb r (k + 1) (omega arith) ∙ sym (lt-ltb r k low) | inr high ↦ le-ltb r (k + 1) (omega arith) ∙ sym (le-ltb r k high) ]

one_old : (t : Table) (k r : ℕ) → is_old t k ≡ true → not (nat_lt r (k + 1) && is_old t r) ≡ (not (nat_lt r k && is_old t r) && not (r == k))
one_old t k r old =
    elim (cases_eq r k) [
      | inl e ↦
          let here : is_old t r ≡ true = ap (is_old t) e ∙ old in
          ap (λ b. not (b && is_old t r)) (lt-ltb r (k + 1) (omega arith)) ∙ ap not here
          ∙ sym (ap (λ b. not (nat_lt r k && is_old t r) && not b) (eq-eqb r k e) ∙ and_false (not (nat_lt r k && is_old t r)))
      | inr ne ↦
          ap (λ b. not (b && is_old t r)) (lt_more r k ne)
          ∙ sym (ap (λ b. not (nat_lt r k && is_old t r) && not b) (ne_eqb r k ne) ∙ and_true (not (nat_lt r k && is_old t r)))
    ]

one_other : (t : Table) (k r : ℕ) → is_old t k ≡ false → not (nat_lt r k && is_old t r) ≡ not (nat_lt r (k + 1) && is_old t r)
one_other t k r other =
    elim (cases_eq r k) [
      | inl e ↦
          let here : is_old t r ≡ false = ap (is_old t) e ∙ other in
          ap (λ o. not (nat_lt r k && o)) here ∙ ap not (and_false (nat_lt r k)) ∙ sym (ap (λ o. not (nat_lt r (k + 1) && o)) here ∙ ap not (and_false (nat_lt r (k + 1))))
      | inr ne ↦ ap (λ b. not (b && is_old t r)) (sym (lt_more r k ne))
    ]

pub outside_first : (t : Table) (pages : List ℕ) → pages ≡ outside_old_below t 0 pages
outside_first t pages = sym (filter_any (λ page. not (nat_lt (page / 16) 0 && is_old t (page / 16))) (λ page. ap (λ b. not (b && is_old t (page / 16))) (le-ltb (page / 16) 0 (omega arith))) pages)

pub outside_more : (t : Table) (k : ℕ) → IsTable t → (pages now later : List ℕ) → now ≡ outside_old_below t k pages → (IsOld t k → later ≡ outside k now) → ((IsOld t k → ⊥) → later ≡ now) → later ≡ outside_old_below t (k + 1) pages
outside_more t k v pages now later so_far empties stays =
    elim (old_or_not t k v) [
      | inl old ↦
          empties old ∙ ap (outside k) so_far
          ∙ filter_both (λ page. not (nat_lt (page / 16) k && is_old t (page / 16))) (λ page. not (page / 16 == k)) (λ page. not (nat_lt (page / 16) (k + 1) && is_old t (page / 16))) (λ page. one_old t k (page / 16) (old_passes t k v old)) pages
      | inr other ↦
          stays other ∙ so_far
          ∙ filter_agree (λ page. not (nat_lt (page / 16) k && is_old t (page / 16))) (λ page. not (nat_lt (page / 16) (k + 1) && is_old t (page / 16))) (λ page. one_other t k (page / 16) (others_fail t k other)) pages
    ]

pub outside_all : (t : Table) → IsTable t → (pages : List ℕ) → outside_old_below t t.regions pages ≡ outside_old t pages
outside_all t v pages = filter_agree (λ page. not (nat_lt (page / 16) t.regions && is_old t (page / 16))) (λ page. not (is_old t (page / 16))) (λ page. each (page / 16)) pages
  where
    each : (r : ℕ) → not (nat_lt r t.regions && is_old t r) ≡ not (is_old t r)
    each r =
        elim (cases_Bool (is_old t r)) [
          | inl on ↦ (let old = passes_old t r on in ap (λ b. not (b && is_old t r)) (lt-ltb r t.regions (v.sound.within (stale old.0) r old.1)))
          | inr off ↦ ap (λ o. not (nat_lt r t.regions && o)) off ∙ ap not (and_false (nat_lt r t.regions)) ∙ sym (ap not off)
        ]
