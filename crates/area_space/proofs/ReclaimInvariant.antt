-- What always holds of a table outlasts a reclaim: live classes are spared.
use Rattle.std.proofs.Common.{◌≡◌, ℕ, ◌+◌, ◌*◌, ◌/◌, ◌<◌, ◌≤◌, eqb, None, List, [], length, slice_index, sym, ◌∙◌, ap, subst, arith, inl, inr}
use Rattle.std.specs.Prelude.{Contains, ◌⊎◌}
use Rattle.std.specs.List.{IsDistinct}
use Rattle.std.proofs.lemmas.Bool.{cases_lt}
use Rattle.index_lists.proofs.ListUpdates.{list_in}
use Rattle.index_lists.proofs.Members.{contains_from_has, distinct_from_apart}
use Rattle.lisp_graph.specs.Totals.{total}
use Rattle.lisp_graph.proofs.Totals.{total-cong}
use Rattle.area_space.specs.Accounts.{debt}
use Rattle.area_space.specs.Flips.{Slot}
use Rattle.area_space.specs.Frees.{Frees}
use Rattle.area_space.specs.Room.{words_of_class, regions_of_class, IsPacked}
use Rattle.area_space.specs.Sound.{IsTable}
use Rattle.area_space.specs.Sums.{block, both}
use Rattle.area_space.specs.Table.{Table, levels_of, slots_of, live, stale, chain, lists_of, IsOld, IsUnclassed}
use Rattle.area_space.proofs.Sums.{block-le}
use Rattle.area_space.proofs.Chains.{packed_same}
use Rattle.area_space.proofs.RegionStates.{half_cases, old_or_not}
use Rattle.area_space.proofs.UsedWords.{freed_live_words}
use Rattle.area_space.proofs.FlipInvariant.{none_in, IsBarren, barren_past}

-- a class after a reclaim: unchanged if it is live
record IsSpared (t u : Table) (class : ℕ) : Type 0 where
  pub kind : class ≡ live (class / 2)
  pub chains : chain u class ≡ chain t class
  pub debts : debt u class ≡ debt t class

module _ (t n : Table) (v : IsTable t) (f : Frees t n) where
  abbrev u : Table
  u = record t { chains = n.chains; charges = n.charges; husks = n.husks; used = n.used; marks = n.marks; aim = None }

  spared_live : (slot : ℕ) → slot < slots_of t → chain u (live slot) ≡ chain t (live slot)
  spared_live slot low = ap (λ (s : Slot). s.live_chain) (f.slots slot low)

  spared_debt : (slot : ℕ) → slot < slots_of t → debt u (live slot) ≡ debt t (live slot)
  spared_debt slot low =
      let e = f.slots slot low in
      let a : slice_index u.charges (live slot) ≡ slice_index t.charges (live slot) = ap (λ (s : Slot). s.live_charge) e in
      let b : slice_index u.husks (live slot) ≡ slice_index t.husks (live slot) = ap (λ (s : Slot). s.live_husk) e in
      omega arith

  gone_stale : (slot : ℕ) → slot < slots_of t → IsBarren u (stale slot)
  gone_stale slot low =
      let e = f.slots slot low in
      let a : slice_index u.charges (stale slot) ≡ 0 = ap (λ (s : Slot). s.old_charge) e in
      let b : slice_index u.husks (stale slot) ≡ 0 = ap (λ (s : Slot). s.old_husk) e in
      record { chains = ap (λ (s : Slot). s.old_chain) e; debts = omega arith }

  fate : (class : ℕ) → IsSpared t u class ⊎ IsBarren u class
  fate class =
      elim (cases_lt (class / 2) (slots_of t)) [
        | inl low ↦ elim (half_cases class) [
          | inl e ↦ inl (record { kind = e; chains = ap (chain u) e ∙ (spared_live (class / 2) low ∙ ap (chain t) (sym e)); debts = ap (debt u) e ∙ (spared_debt (class / 2) low ∙ ap (debt t) (sym e)) })
          | inr e ↦ inr (subst (IsBarren u) (sym e) (gone_stale (class / 2) low))
        ]
        | inr past ↦ inr (barren_past u (2 * slots_of t) class (f.sizes.chains ∙ v.chains_size) (f.sizes.charges ∙ v.charges_size) (f.sizes.husks ∙ v.husks_size) (omega arith))
      ]

  was_in : (class r : ℕ) → Contains (chain u class) r → Contains (chain t class) r
  was_in class r m = elim (fate class) [
    | inl s ↦ subst (λ (xs : List ℕ). Contains xs r) s.chains m
    | inr b ↦ absurd (none_in r (subst (λ (xs : List ℕ). Contains xs r) b.chains m))
  ]

  -- a region in a live class isn't old
  not_old : (class r : ℕ) → class ≡ live (class / 2) → Contains (chain t class) r → IsOld t r → ⊥
  not_old class r kind m old = (let one = v.sound.one_list class (stale old.0) r m old.1 in absurd (omega arith))

  free_before : (r : ℕ) → IsUnclassed u r → (IsOld t r → ⊥) → IsUnclassed t r
  free_before r free young = λ c m. elim (half_cases c) [
    | inl e ↦
        (let in_live = subst (λ (k : ℕ). Contains (chain t k) r) e m in
        let b = list_in (lists_of t) (live (c / 2)) r in_live in
        let z = v.chains_size in
        free (live (c / 2)) (subst (λ (xs : List ℕ). Contains xs r) (sym (spared_live (c / 2) (omega arith))) in_live))
    | inr e ↦ young (c / 2, subst (λ (k : ℕ). Contains (chain t k) r) e m)
  ]

  no_more : (p : Table → ℕ → ℕ) → ((class : ℕ) → p u class ≤ p t class) → (area : ℕ) → block (both (p u)) (levels_of t) area ≤ block (both (p t)) (levels_of t) area
  no_more p less area = block-le (both (p u)) (both (p t)) (levels_of t) area (λ slot. let a = less (2 * slot) in let b = less (2 * slot + 1) in omega arith)

  fewer_debts : (class : ℕ) → debt u class ≤ debt t class
  fewer_debts class = elim (fate class) [ inl s ↦ (let e = s.debts in omega arith) | inr b ↦ (let e = b.debts in omega arith) ]

  fewer_regions : (class : ℕ) → regions_of_class u class ≤ regions_of_class t class
  fewer_regions class = elim (fate class) [
    | inl s ↦ (let e : regions_of_class u class ≡ regions_of_class t class = ap length s.chains in omega arith)
    | inr b ↦ (let e : regions_of_class u class ≡ 0 = ap length b.chains in omega arith)
  ]

  reclaimed_is : IsTable u
  reclaimed_is = record {
    few_regions = v.few_regions;
    few_levels = v.few_levels;
    few_areas = v.few_areas;
    small = v.small;
    kinds_size = v.kinds_size;
    chains_size = f.sizes.chains ∙ v.chains_size;
    charges_size = f.sizes.charges ∙ v.charges_size;
    husks_size = f.sizes.husks ∙ v.husks_size;
    used_size = f.sizes.used ∙ v.used_size;
    marks_size = f.sizes.marks ∙ v.marks_size;
    sound = record {
      within = λ l r m. v.sound.within l r (was_in l r m);
      one_list = λ l k r m p. v.sound.one_list l k r (was_in l r m) (was_in k r p);
      one_place = λ class. elim (fate class) [
        | inl s ↦ subst (IsDistinct eqb) (sym s.chains) (v.sound.one_place class)
        | inr b ↦ subst (IsDistinct eqb) (sym b.chains) (distinct_from_apart [] tt)
      ];
    };
    full = λ r. elim (old_or_not t r v) [
      | inl old ↦ (let e = (f.gone r old).0 in omega arith)
      | inr young ↦ (let e = (f.kept r young).0 in let b = v.full r in omega arith)
    ];
    blank = λ r free. elim (old_or_not t r v) [
      | inl old ↦ (f.gone r old).0
      | inr young ↦ (f.kept r young).0 ∙ v.blank r (free_before r free young)
    ];
    unmarked = λ r free. elim (old_or_not t r v) [
      | inl old ↦ (f.gone r old).1
      | inr young ↦ (f.kept r young).1 ∙ v.unmarked r (free_before r free young)
    ];
    owing = λ class e. elim (fate class) [
      | inl s ↦ s.debts ∙ v.owing class (sym s.chains ∙ e)
      | inr b ↦ b.debts
    ];
    packed = λ class. elim (fate class) [
      | inl s ↦ subst (IsPacked n.used) (sym s.chains) (packed_same t.used n.used (chain t class) (λ r has. sym (f.kept r (not_old class r s.kind (contains_from_has r (chain t class) has))).0) (v.packed class))
      | inr b ↦ subst (IsPacked n.used) (sym b.chains) tt
    ];
    fitting = λ area inside. (let x = no_more regions_of_class fewer_regions area in let y = v.fitting area inside in omega arith);
    paid = λ area inside. (let x = no_more debt fewer_debts area in let y = v.paid area inside in omega arith);
    counted =
        (let e : total (λ s. words_of_class u (live s)) (slots_of t) ≡ total (λ s. words_of_class t (live s)) (slots_of t) = total-cong (λ s. words_of_class u (live s)) (λ s. words_of_class t (live s)) (slots_of t) (λ m l. freed_live_words t n m v f l) in
        let before = v.counted in
        omega arith);
    idle = λ _ slot. elim (cases_lt slot (slots_of t)) [
      | inl low ↦ (gone_stale slot low).chains
      | inr past ↦ (barren_past u (2 * slots_of t) (stale slot) (f.sizes.chains ∙ v.chains_size) (f.sizes.charges ∙ v.charges_size) (f.sizes.husks ∙ v.husks_size) (omega arith)).chains
    ];
  }

pub reclaim_lasts : (t u : Table) → IsTable t → Frees t u → IsTable u
reclaim_lasts t u v f = subst IsTable (sym f.same) (reclaimed_is t u v f)
