-- The used end of the last region of a live chain moves.
use Rattle.std.proofs.Common.{◌≡◌, ◌≢◌, ℕ, zero, suc, ◌+◌, ◌*◌, ◌/◌, ◌<◌, ◌≤◌, ◌^◌, Some, List, [], ◌∷◌, length, slice_index, sym, ◌∙◌, subst, arith, inl, inr, length-set, get_or-set_same, get_or-set_other}
use Rattle.std.specs.Prelude.{Contains, IfSome, Option, None}
use Rattle.std.proofs.lemmas.Bool.{cases_eq}
use Rattle.index_lists.specs.Chains.{last_of}
use Rattle.area_space.proofs.Sums.{total-blocks}
use Rattle.area_space.proofs.Chains.{packed_raise, words_in-has, words_in-lacks, has_last}
use Rattle.area_space.specs.Places.{IsEnd, extended}
use Rattle.area_space.specs.Room.{share, words_in, words_of_class, regions_of_class, regions_of_area}
use Rattle.area_space.specs.Sound.{IsTable}
use Rattle.area_space.specs.Sums.{both}
use Rattle.area_space.specs.Table.{Table, levels_of, slots_of, areas_of, used_of, chain, live}
use Rattle.index_lists.proofs.Members.{contains_from_has, has_from_contains, apart_from_distinct, lacks_from_not}
use Rattle.lisp_graph.specs.Totals.{total}
use Rattle.lisp_graph.proofs.Totals.{total-at, total-le, total-suc, total-zero}

-- the last region of a live chain
pub end_in_chain : (t : Table) (slot at words : ℕ) → IsEnd t slot at words → Contains (chain t (live slot)) (at / 4096)
end_in_chain t slot at words e = contains_from_has (at / 4096) (chain t (live slot)) (has_last (chain t (live slot)) (at / 4096) e.last)

pub end_region : (t : Table) (slot at words : ℕ) → IsTable t → IsEnd t slot at words → at / 4096 < t.regions
end_region t slot at words v e = v.sound.within (live slot) (at / 4096) (end_in_chain t slot at words e)

-- the numbers of a place, in a table that is sound
pub record EndBounds (t : Table) (at words : ℕ) : Type 0 where
  pub region_in : at / 4096 < t.regions
  pub few : t.regions ≤ 1024
  pub size : length t.used ≡ t.regions
  pub end : at ≡ 4096 * (at / 4096) + used_of t (at / 4096)
  pub fits : used_of t (at / 4096) + words ≤ 4096

pub end_bounds : (t : Table) (slot at words : ℕ) → IsTable t → IsEnd t slot at words → EndBounds t at words
end_bounds t slot at words v e = record { region_in = end_region t slot at words v e; few = v.few_regions; size = v.used_size; end = e.end; fits = e.fits }

words_in_bound : (used xs : List ℕ) → ((r : ℕ) → slice_index used r ≤ 4096) → words_in used xs ≤ 4096 * length xs
words_in_bound used [] h = omega arith
words_in_bound used (x ∷ xs) h = let a = h x in let i = words_in_bound used xs h in omega arith

shares_small : (t : Table) (n : ℕ) → IsTable t → total (share t) n ≤ 1040 * n
shares_small t zero v = let a = total-zero (share t) in omega arith
shares_small t (suc n) v =
    let a = total-suc (share t) n in
    let b = v.small n in
    let d = v.few_levels in
    let i = shares_small t n v in
    omega arith

scaled : (f : ℕ → ℕ) (n : ℕ) → total (λ m. 4096 * f m) n ≡ 4096 * total f n
scaled f zero = let a = total-zero f in let b = total-zero (λ m. 4096 * f m) in omega arith
scaled f (suc n) = let a = total-suc f n in let b = total-suc (λ m. 4096 * f m) n in let i = scaled f n in omega arith

pub words_small : (t : Table) → IsTable t → total (λ slot. words_of_class t (live slot)) (slots_of t) < 2 ^ 32
words_small t v =
    let each = total-le (λ slot. words_of_class t (live slot)) (λ slot. 4096 * both (regions_of_class t) slot) (slots_of t) (λ m l. let x = words_in_bound t.used (chain t (live m)) v.full in omega arith) in
    let s = scaled (both (regions_of_class t)) (slots_of t) in
    let b = total-blocks (both (regions_of_class t)) (levels_of t) (areas_of t) in
    let f = total-le (regions_of_area t) (share t) (areas_of t) v.fitting in
    let g = shares_small t (areas_of t) v in
    let few = v.few_areas in
    omega arith

-- the class of the place has this many used words more
pub words_extended : (t : Table) (slot at words : ℕ) → IsTable t → IsEnd t slot at words → words_of_class (extended t at words) (live slot) ≡ words_of_class t (live slot) + words
words_extended t slot at words v e =
    let held = end_in_chain t slot at words e in
    let low = end_region t slot at words v e in
    let size = v.used_size in
    words_in-has t.used (at / 4096) words (chain t (live slot)) (omega arith) (apart_from_distinct (chain t (live slot)) (v.sound.one_place (live slot))) (has_from_contains (at / 4096) (chain t (live slot)) held.0 held.1 held.2)

-- and no other class has
pub words_extended_other : (t : Table) (slot at words class : ℕ) → IsTable t → IsEnd t slot at words → class ≢ live slot → words_of_class (extended t at words) class ≡ words_of_class t class
words_extended_other t slot at words class v e ne =
    words_in-lacks t.used (at / 4096) (used_of t (at / 4096) + words) (chain t class)
    (lacks_from_not (at / 4096) (chain t class) (λ has. ne (v.sound.one_list class (live slot) (at / 4096) (contains_from_has (at / 4096) (chain t class) has) (end_in_chain t slot at words e))))

pub extended_is : (t : Table) (slot at words : ℕ) → IsTable t → IsEnd t slot at words → IsTable (extended t at words)
extended_is t slot at words v e =
    let r : ℕ = at / 4096 in
    let w : ℕ = used_of t r + words in
    let u : Table = extended t at words in
    let held = end_in_chain t slot at words e in
    let low = end_region t slot at words v e in
    let b : r < length t.used = (let z = v.used_size in omega arith) in
    let here : used_of u r ≡ w = get_or-set_same t.used r w 0 b in
    let other : (q : ℕ) → q ≢ r → used_of u q ≡ used_of t q = λ q ne. get_or-set_other t.used r q w 0 ne in
    let more : (q : ℕ) → used_of t q ≤ used_of u q = λ q.
    elim (cases_eq q r) [
      | inl same ↦ subst (λ (k : ℕ). used_of t k ≤ used_of u k) (sym same) (omega arith)
      | inr ne ↦ let x = other q ne in omega arith
    ] in
    record {
      few_regions = v.few_regions;
      few_levels = v.few_levels;
      few_areas = v.few_areas;
      small = v.small;
      kinds_size = v.kinds_size;
      chains_size = v.chains_size;
      charges_size = v.charges_size;
      husks_size = v.husks_size;
      used_size = length-set t.used r w ∙ v.used_size;
      marks_size = v.marks_size;
      sound = v.sound;
      full = λ q.
          elim (cases_eq q r) [
            | inl same ↦ subst (λ (k : ℕ). used_of u k ≤ 4096) (sym same) (let f = e.fits in omega arith)
            | inr ne ↦ let x = other q ne in let y = v.full q in omega arith
          ];
      blank = λ q free.
          elim (cases_eq q r) [
            | inl same ↦ absurd (free (live slot) (subst (Contains (chain t (live slot))) (sym same) held))
            | inr ne ↦ other q ne ∙ v.blank q free
          ];
      unmarked = v.unmarked;
      owing = v.owing;
      packed = λ c. packed_raise t.used u.used more (chain t c) (v.packed c);
      fitting = v.fitting;
      paid = v.paid;
      counted =
          (let f : ℕ → ℕ = λ s. words_of_class t (live s) in
          let g : ℕ → ℕ = λ s. words_of_class u (live s) in
          let inside = e.inside in
          let at_slot : g slot ≡ f slot + words = words_extended t slot at words v e in
          let beside : (m : ℕ) → m < slots_of t → m ≢ slot → f m ≡ g m = λ m l ne. sym (words_extended_other t slot at words (live m) v e (λ q. ne (omega arith))) in
          let sum = total-at f g slot (slots_of t) inside beside in
          let before = v.counted in
          omega arith);
      idle = v.idle;
    }

pub last_inside : (t : Table) (class : ℕ) (last : Option ℕ) → IsTable t → last ≡ last_of (chain t class) → IfSome last (λ r. r < t.regions)
last_inside t class None v e = tt
last_inside t class (Some r) v e = v.sound.within class r (contains_from_has r (chain t class) (has_last (chain t class) r (sym e)))
