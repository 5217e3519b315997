-- The regions of an old class become free, one by one.
use Rattle.std.proofs.Common.{◌≡◌, ◌≢◌, ℕ, suc, ◌+◌, ◌*◌, ◌<◌, ◌≤◌, Some, eqb, List, [], ◌∷◌, length, slice_index, slice_set, sym, ◌∙◌, ap, subst, arith, inl, inr, length-set, get_or-set_same, get_or-set_other}
use Rattle.std.specs.Prelude.{Contains}
use Rattle.std.specs.List.{IsDistinct}
use Rattle.std.proofs.lemmas.Bool.{cases_eq}
use Rattle.index_lists.specs.Chains.{Chains, IsFree, IsSound, with_list, list_at, without, first_of}
use Rattle.area_space.proofs.Sums.{block-le}
use Rattle.area_space.proofs.Chains.{packed_same, words_in-same}
use Rattle.area_space.proofs.ChargeChanges.{owed_is}
use Rattle.area_space.proofs.FreeSets.{holds_released}
use Rattle.area_space.specs.PageList.{PageList, Adds}
use Rattle.area_space.specs.Accounts.{debt}
use Rattle.area_space.specs.Frees.{forgiven, released}
use Rattle.area_space.specs.declared.classes.Class.{Class}
use Rattle.area_space.specs.Inside.{TableInvariant}
use Rattle.area_space.specs.Room.{words_in, words_of_class, regions_of_class, IsPacked}
use Rattle.area_space.specs.Sound.{IsTable}
use Rattle.area_space.specs.Sums.{both}
use Rattle.area_space.specs.Table.{Table, levels_of, slots_of, used_of, chain, lists_of, live, stale}
use Rattle.index_lists.proofs.ListUpdates.{without-first, Contains-first, Contains-without, list_at-with_list_same, list_at-with_list_other}
use Rattle.index_lists.proofs.Members.{contains_from_has}
use Rattle.index_lists.specs.Members.{Has}
use Rattle.lisp_graph.proofs.Totals.{total-cong}

pub first_split : (xs : List ℕ) (r : ℕ) → first_of xs ≡ Some r → IsDistinct eqb xs → xs ≡ r ∷ without r xs
first_split [] r e d = absurd (cc)
first_split (x ∷ xs) r e d =
    let same : x ≡ r = cc in
    let f = without-first x xs d in
    let g : x ∷ xs ≡ x ∷ without x (x ∷ xs) = ap (λ (ys : List ℕ). x ∷ ys) (sym f) in
    subst (λ (q : ℕ). x ∷ xs ≡ q ∷ without q (x ∷ xs)) same g

packed_tail : (used : List ℕ) (r : ℕ) (xs : List ℕ) → IsPacked used (r ∷ xs) → IsPacked used xs
packed_tail used r [] p = tt
packed_tail used r (x ∷ xs) p = p.1

pub chain_released : (t : Table) (slot r : ℕ) → IsTable t → slot < slots_of t → chain (released t slot r) (stale slot) ≡ without r (chain t (stale slot))
chain_released t slot r v low = let s = v.chains_size in list_at-with_list_same (lists_of t) (stale slot) (without r (chain t (stale slot))) (omega arith)

pub chain_released_other : (t : Table) (slot r c : ℕ) → c ≢ stale slot → chain (released t slot r) c ≡ chain t c
chain_released_other t slot r c ne = list_at-with_list_other (lists_of t) (stale slot) (without r (chain t (stale slot))) c ne

pub released_is : (t : Table) (slot r : ℕ) → IsTable t → slot < slots_of t → debt t (stale slot) ≡ 0 → first_of (chain t (stale slot)) ≡ Some r
    → IsSound (lists_of (released t slot r)) → IsFree (lists_of (released t slot r)) r → IsTable (released t slot r)
released_is t slot r v low none first sound gone =
    let u : Table = released t slot r in
    let c0 = stale slot in
    let held : Contains (chain t c0) r = Contains-first (chain t c0) r first in
    let inside = v.sound.within c0 r held in
    let s = v.used_size in
    let ms = v.marks_size in
    let split = first_split (chain t c0) r first (v.sound.one_place c0) in
    let here = chain_released t slot r v low in
    let other : (c : ℕ) → c ≢ c0 → chain u c ≡ chain t c = chain_released_other t slot r in
    let same_used : (q : ℕ) → q ≢ r → used_of u q ≡ used_of t q = λ q ne. get_or-set_other t.used r q 0 0 ne in
    let same_mark : (q : ℕ) → q ≢ r → slice_index u.marks q ≡ slice_index t.marks q = λ q ne. get_or-set_other t.marks r q 0 0 ne in
    let zero_used : used_of u r ≡ 0 = get_or-set_same t.used r 0 0 (omega arith) in
    let zero_mark : slice_index u.marks r ≡ 0 = get_or-set_same t.marks r 0 0 (omega arith) in
    let free_back : (q : ℕ) → q ≢ r → IsFree (lists_of u) q → IsFree (lists_of t) q = λ q ne f c m.
    elim (cases_eq c c0) [
      | inl e ↦ f c0 (subst (λ (xs : List ℕ). Contains xs q) (sym here) (Contains-without r q (chain t c0) ne (subst (λ (k : ℕ). Contains (chain t k) q) e m)))
      | inr n ↦ f c (subst (λ (xs : List ℕ). Contains xs q) (sym (other c n)) m)
    ] in
    let apart : (c q : ℕ) → Has q (chain u c) → used_of t q ≡ used_of u q = λ c q m.
    sym (same_used q (λ e. gone c (subst (Contains (chain u c)) e (contains_from_has q (chain u c) m)))) in
    let old_packed : (c : ℕ) → IsPacked t.used (chain u c) = λ c.
    elim (cases_eq c c0) [
      | inl e ↦ subst (λ (xs : List ℕ). IsPacked t.used xs) (sym (ap (chain u) e ∙ here)) (packed_tail t.used r (without r (chain t c0)) (subst (λ (xs : List ℕ). IsPacked t.used xs) split (v.packed c0)))
      | inr n ↦ subst (λ (xs : List ℕ). IsPacked t.used xs) (sym (other c n)) (v.packed c)
    ] in
    let shorter : (c : ℕ) → regions_of_class u c ≤ regions_of_class t c = λ c.
    elim (cases_eq c c0) [
      | inl e ↦
          let x : length (chain t c0) ≡ suc (length (without r (chain t c0))) = ap length split in
          let y : regions_of_class u c0 ≡ length (without r (chain t c0)) = ap length here in
          subst (λ (k : ℕ). regions_of_class u k ≤ regions_of_class t k) (sym e) (omega arith)
      | inr n ↦ let x : regions_of_class u c ≡ regions_of_class t c = ap length (other c n) in omega arith
    ] in
    let words : (m : ℕ) → words_of_class u (live m) ≡ words_of_class t (live m) = λ m.
    let e : chain u (live m) ≡ chain t (live m) = other (live m) (λ q. omega arith) in
    sym (words_in-same t.used u.used (chain u (live m)) (apart (live m))) ∙ ap (words_in t.used) e in
    record {
      few_regions = v.few_regions;
      few_levels = v.few_levels;
      few_areas = v.few_areas;
      small = v.small;
      kinds_size = v.kinds_size;
      chains_size = length-set t.chains c0 (without r (chain t c0)) ∙ v.chains_size;
      charges_size = v.charges_size;
      husks_size = v.husks_size;
      used_size = length-set t.used r 0 ∙ v.used_size;
      marks_size = length-set t.marks r 0 ∙ v.marks_size;
      sound = sound;
      full = λ q. elim (cases_eq q r) [
        | inl e ↦ let x : used_of u q ≡ used_of u r = ap (used_of u) e in omega arith
        | inr ne ↦ let x = same_used q ne in let y = v.full q in omega arith
      ];
      blank = λ q f. elim (cases_eq q r) [
        | inl e ↦ ap (used_of u) e ∙ zero_used
        | inr ne ↦ same_used q ne ∙ v.blank q (free_back q ne f)
      ];
      unmarked = λ q f. elim (cases_eq q r) [
        | inl e ↦ ap (slice_index u.marks) e ∙ zero_mark
        | inr ne ↦ same_mark q ne ∙ v.unmarked q (free_back q ne f)
      ];
      owing = λ c e. elim (cases_eq c c0) [
        | inl is ↦ ap (debt t) is ∙ none
        | inr n ↦ v.owing c (sym (other c n) ∙ e)
      ];
      packed = λ c. packed_same t.used u.used (chain u c) (apart c) (old_packed c);
      fitting = λ a bound. (let x = block-le (both (regions_of_class u)) (both (regions_of_class t)) (levels_of t) a (λ m. let p = shorter (2 * m) in let q = shorter (2 * m + 1) in omega arith) in let y = v.fitting a bound in omega arith);
      paid = v.paid;
      counted = (let e = total-cong (λ k. words_of_class u (live k)) (λ k. words_of_class t (live k)) (slots_of t) (λ m l. words m) in let y = v.counted in omega arith);
      idle = λ e. absurd (let z = v.idle e slot in cc);
    }

pub release_kept : {debts : List ℕ} {classes : List Class} (t : Table) (new : Chains) (set more : PageList) (slot r regions areas count : ℕ) → TableInvariant t regions areas count set debts classes → Adds set more r r → slot < slots_of t → debt t (stale slot) ≡ 0 → first_of (chain t (stale slot)) ≡ Some r
    → new ≡ with_list (lists_of t) (stale slot) (without r (list_at (lists_of t) (stale slot))) → IsSound new → IsFree new r
    → TableInvariant (record t { regions = new.nodes; chains = new.lists; used = slice_set t.used r 0; marks = slice_set t.marks r 0 }) regions areas count more debts classes
release_kept {debts} {classes} t new set more slot r regions areas count k d low none first is sound free =
    let after = released_is t slot r k.table low none first (subst IsSound is sound) (subst (λ (w : Chains). IsFree w r) is free) in
    let kept : TableInvariant (released t slot r) regions areas count more debts classes = record {
      table = after;
      regions_is = k.regions_is;
      areas_is = k.areas_is;
      pages_is = k.pages_is;
      free_is = holds_released set more (lists_of t) (stale slot) r k.table.sound (Contains-first (chain t (stale slot)) r first) k.free_is d;
      debts_is = k.debts_is;
      classes_is = k.classes_is;
    } in
    subst (λ (w : Chains). TableInvariant (record t { regions = w.nodes; chains = w.lists; used = slice_set t.used r 0; marks = slice_set t.marks r 0 }) regions areas count more debts classes) (sym is) kept

pub forgiven_is : (t : Table) (slot : ℕ) → IsTable t → slot < slots_of t → IsTable (forgiven t slot)
forgiven_is t slot v low =
    let u : Table = forgiven t slot in
    let c0 = stale slot in
    let s = v.charges_size in
    let h = v.husks_size in
    let less : (c : ℕ) → debt u c ≤ debt t c = λ c.
    elim (cases_eq c c0) [
      | inl e ↦
          let x = get_or-set_same t.charges c0 0 0 (omega arith) in
          let y = get_or-set_same t.husks c0 0 0 (omega arith) in
          subst (λ (k : ℕ). debt u k ≤ debt t k) (sym e) (omega arith)
      | inr ne ↦
          let x = get_or-set_other t.charges c0 c 0 0 ne in
          let y = get_or-set_other t.husks c0 c 0 0 ne in
          omega arith
    ] in
    owed_is t u.charges u.husks v (length-set t.charges c0 0) (length-set t.husks c0 0)
    (λ c e. let x = less c in let y = v.owing c e in omega arith)
    (λ a bound. let x = block-le (both (debt u)) (both (debt t)) (levels_of t) a (λ m. let p = less (2 * m) in let q = less (2 * m + 1) in omega arith) in let y = v.paid a bound in omega arith)
