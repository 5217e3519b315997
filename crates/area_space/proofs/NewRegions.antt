-- A region is opened at the end of a live chain.
use Rattle.std.proofs.Common.{◌≡◌, ◌≢◌, ℕ, ◌+◌, ◌*◌, ◌<◌, ◌≤◌, Some, List, [], ◌∷◌, ◌++◌, length, sym, ◌∙◌, ap, subst, arith, inl, inr, length-set, length-append}
use Rattle.std.specs.Prelude.{Contains}
use Rattle.std.proofs.lemmas.Bool.{cases_eq}
use Rattle.std.proofs.lemmas.Nat.{mul-add-lt}
use Rattle.std.proofs.lemmas.List.Elements.{Contains-append_left}
use Rattle.index_lists.specs.Chains.{IsFree, IsSound, last_of}
use Rattle.area_space.proofs.Sums.{block-at, block-other}
use Rattle.area_space.proofs.Chains.{packed_push, words_in-append}
use Rattle.area_space.specs.Places.{opened}
use Rattle.area_space.specs.Room.{share, words_in, words_of_class, regions_of_class, regions_of_area, IsPacked}
use Rattle.area_space.specs.Sound.{IsTable}
use Rattle.area_space.specs.Sums.{both}
use Rattle.area_space.specs.Table.{Table, slot_of, levels_of, slots_of, areas_of, used_of, chain, lists_of, live, IsUnclassed, stale}
use Rattle.index_lists.proofs.ListUpdates.{list_at-with_list_same, list_at-with_list_other}
use Rattle.lisp_graph.specs.Totals.{total}
use Rattle.lisp_graph.proofs.Totals.{total-cong}

pub slot_below : (t : Table) (area level : ℕ) → area < areas_of t → level < levels_of t → slot_of t area level < slots_of t
slot_below t area level a l = let m = mul-add-lt area (levels_of t) level (areas_of t) a l in omega arith

pub chain_opened : (t : Table) (class region : ℕ) → class < length t.chains → chain (opened t class region) class ≡ chain t class ++ region ∷ []
chain_opened t class region b = list_at-with_list_same (lists_of t) class (chain t class ++ region ∷ []) b

pub chain_opened_other : (t : Table) (class region c : ℕ) → c ≢ class → chain (opened t class region) c ≡ chain t c
chain_opened_other t class region c ne = list_at-with_list_other (lists_of t) class (chain t class ++ region ∷ []) c ne

-- what was in a chain is in it still
pub contains_opened : (t : Table) (class region c r : ℕ) → class < length t.chains → Contains (chain t c) r → Contains (chain (opened t class region) c) r
contains_opened t class region c r b m =
    let P : List ℕ → Type 0 = λ xs. Contains xs r in
    elim (cases_eq c class) [
      | inl e ↦ subst (λ (k : ℕ). Contains (chain (opened t class region) k) r) (sym e) (subst P (sym (chain_opened t class region b)) (Contains-append_left (chain t class) (region ∷ []) r (subst (λ (k : ℕ). Contains (chain t k) r) e m)))
      | inr ne ↦ subst P (sym (chain_opened_other t class region c ne)) m
    ]

-- no class has more used words
pub words_opened : (t : Table) (class region : ℕ) → IsTable t → class < length t.chains → IsUnclassed t region → (c : ℕ) → words_of_class (opened t class region) c ≡ words_of_class t c
words_opened t class region v b free c =
    let unused : used_of t region ≡ 0 = v.blank region free in
    elim (cases_eq c class) [
      | inl e ↦
          let w : words_in t.used (chain t class ++ region ∷ []) ≡ words_in t.used (chain t class) = (let x = words_in-append t.used (chain t class) (region ∷ []) in omega arith) in
          let x : words_of_class (opened t class region) class ≡ words_in t.used (chain t class ++ region ∷ []) = ap (words_in t.used) (chain_opened t class region b) in
          let y : words_of_class (opened t class region) c ≡ words_of_class (opened t class region) class = ap (words_of_class (opened t class region)) e in
          let z : words_of_class t class ≡ words_of_class t c = ap (words_of_class t) (sym e) in
          y ∙ (x ∙ (w ∙ z))
      | inr ne ↦ ap (words_in t.used) (chain_opened_other t class region c ne)
    ]

pub opened_is : (t : Table) (area level region : ℕ) → IsTable t → area < areas_of t → level < levels_of t → IsUnclassed t region
    → ((r : ℕ) → last_of (chain t (live (slot_of t area level))) ≡ Some r → 2048 < used_of t r)
    → regions_of_area t area + 1 ≤ share t area
    → IsSound (lists_of (opened t (live (slot_of t area level)) region))
    → IsTable (opened t (live (slot_of t area level)) region)
opened_is t area level region v area_in level_in free full one sound =
    let k = slot_of t area level in
    let u : Table = opened t (live k) region in
    let low = slot_below t area level area_in level_in in
    let b : live k < length t.chains = (let z = v.chains_size in omega arith) in
    let here = chain_opened t (live k) region b in
    let other : (c : ℕ) → c ≢ live k → chain u c ≡ chain t c = chain_opened_other t (live k) region in
    let free_back : (r : ℕ) → IsFree (lists_of u) r → IsFree (lists_of t) r = λ r f c m. f c (contains_opened t (live k) region c r b m) in
    let words : (c : ℕ) → words_of_class u c ≡ words_of_class t c = words_opened t (live k) region v b free in
    let lens : (m : ℕ) → m ≢ k → both (regions_of_class t) m ≡ both (regions_of_class u) m = λ m ne.
    let x : regions_of_class u (2 * m) ≡ regions_of_class t (2 * m) = ap length (other (2 * m) (λ e. ne (omega arith))) in
    let y : regions_of_class u (2 * m + 1) ≡ regions_of_class t (2 * m + 1) = ap length (other (2 * m + 1) (λ e. omega arith)) in
    omega arith in
    record {
      few_regions = v.few_regions;
      few_levels = v.few_levels;
      few_areas = v.few_areas;
      small = v.small;
      kinds_size = v.kinds_size;
      chains_size = length-set t.chains (live k) (chain t (live k) ++ region ∷ []) ∙ v.chains_size;
      charges_size = v.charges_size;
      husks_size = v.husks_size;
      used_size = v.used_size;
      marks_size = v.marks_size;
      sound = sound;
      full = v.full;
      blank = λ r f. v.blank r (free_back r f);
      unmarked = λ r f. v.unmarked r (free_back r f);
      owing = λ c e.
          elim (cases_eq c (live k)) [
            | inl same ↦ (let z : length (chain t (live k) ++ region ∷ []) ≡ 0 = ap length (sym here ∙ (ap (chain u) (sym same) ∙ e)) in absurd (omega (arith, length-append (chain t (live k)) (region ∷ []))))
            | inr ne ↦ v.owing c (sym (other c ne) ∙ e)
          ];
      packed = λ c.
          elim (cases_eq c (live k)) [
            | inl e ↦ subst (λ (xs : List ℕ). IsPacked t.used xs) (sym (ap (chain u) e ∙ here)) (packed_push t.used (chain t (live k)) region (v.packed (live k)) full)
            | inr ne ↦ subst (λ (xs : List ℕ). IsPacked t.used xs) (sym (other c ne)) (v.packed c)
          ];
      fitting = λ a inside.
          elim (cases_eq a area) [
            | inl e ↦
                let at = block-at (both (regions_of_class t)) (both (regions_of_class u)) (levels_of t) area level level_in lens in
                let x : regions_of_class u (2 * k) ≡ regions_of_class t (2 * k) + 1 = (let z : regions_of_class u (2 * k) ≡ length (chain t (live k) ++ region ∷ []) = ap length here in omega (arith, length-append (chain t (live k)) (region ∷ []))) in
                let y : regions_of_class u (2 * k + 1) ≡ regions_of_class t (2 * k + 1) = ap length (other (2 * k + 1) (λ q. omega arith)) in
                let sum : regions_of_area u area ≤ share t area = omega arith in
                subst (λ (q : ℕ). regions_of_area u q ≤ share t q) (sym e) sum
            | inr ne ↦
                let same = block-other (both (regions_of_class t)) (both (regions_of_class u)) (levels_of t) area a level level_in ne lens in
                let before = v.fitting a inside in
                omega arith
          ];
      paid = v.paid;
      counted = (let e : total (λ s. words_of_class u (live s)) (slots_of t) ≡ total (λ s. words_of_class t (live s)) (slots_of t) = total-cong (λ s. words_of_class u (live s)) (λ s. words_of_class t (live s)) (slots_of t) (λ m l. words (live m)) in let before = v.counted in omega arith);
      idle = λ e slot. other (stale slot) (λ q. omega arith) ∙ v.idle e slot;
    }
