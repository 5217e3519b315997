-- What always holds of a table outlasts a flip: what was live in a slot moves to its old class.
use Rattle.std.proofs.Common.{◌≡◌, ℕ, ◌+◌, ◌*◌, ◌/◌, ◌<◌, ◌≤◌, Bool, true, false, eqb, Some, None, List, [], length, slice_index, refl, sym, ◌∙◌, ap, subst, arith, inl, inr}
use Rattle.std.specs.Prelude.{Contains, ◌⊎◌, not}
use Rattle.std.specs.List.{IsDistinct}
use Rattle.std.proofs.lemmas.Bool.{cases_lt}
use Rattle.std.proofs.lemmas.List.{get_or_past}
use Rattle.lisp_graph.specs.declared.command.Condemn.{Condemn}
use Rattle.index_lists.proofs.ListUpdates.{list_in}
use Rattle.index_lists.proofs.Members.{distinct_from_apart}
use Rattle.lisp_graph.proofs.Totals.{total-cong}
use Rattle.area_space.specs.Accounts.{debt}
use Rattle.area_space.specs.Flips.{Slot, state_of, after_flip, condemns, Condemns}
use Rattle.area_space.specs.Room.{regions_of_class, IsPacked}
use Rattle.area_space.specs.Sound.{IsTable}
use Rattle.area_space.specs.Sums.{block, both}
use Rattle.area_space.specs.Table.{Table, areas_of, levels_of, slots_of, live, stale, class_from, chain, lists_of, IsOld, IsUnclassed}
use Rattle.area_space.proofs.RegionStates.{half_cases}
use Rattle.area_space.proofs.FlipSteps.{nothing_in}
use Rattle.area_space.proofs.NewRegions.{slot_below}

pub none_in : (r : ℕ) → Contains [] r → ⊥
none_in r m = absurd (omega (arith, m.1))

-- what was live in a slot is in its class of this kind, and the other class is empty
record IsHanded (t u : Table) (slot : ℕ) (old : Bool) : Type 0 where
  pub heir : chain u (class_from old slot) ≡ chain t (live slot)
  pub empty : chain u (class_from (not old) slot) ≡ []
  pub owes : debt u (class_from old slot) ≡ debt t (live slot)
  pub clear : debt u (class_from (not old) slot) ≡ 0

handed : (t u : Table) (slot : ℕ) (old : Bool) → chain t (stale slot) ≡ [] → debt t (stale slot) ≡ 0 → state_of u slot ≡ after_flip old (state_of t slot) → IsHanded t u slot old
handed t u slot true none zero e = record {
  heir = ap (λ (s : Slot). s.old_chain) e;
  empty = ap (λ (s : Slot). s.live_chain) e;
  owes = (let a : slice_index u.charges (stale slot) ≡ slice_index t.charges (live slot) = ap (λ (s : Slot). s.old_charge) e in let b : slice_index u.husks (stale slot) ≡ slice_index t.husks (live slot) = ap (λ (s : Slot). s.old_husk) e in omega arith);
  clear = (let a : slice_index u.charges (live slot) ≡ 0 = ap (λ (s : Slot). s.live_charge) e in let b : slice_index u.husks (live slot) ≡ 0 = ap (λ (s : Slot). s.live_husk) e in omega arith);
}
handed t u slot false none zero e = record {
  heir = ap (λ (s : Slot). s.live_chain) e;
  empty = ap (λ (s : Slot). s.old_chain) e ∙ none;
  owes = (let a : slice_index u.charges (live slot) ≡ slice_index t.charges (live slot) = ap (λ (s : Slot). s.live_charge) e in let b : slice_index u.husks (live slot) ≡ slice_index t.husks (live slot) = ap (λ (s : Slot). s.live_husk) e in omega arith);
  clear = (let a : slice_index u.charges (stale slot) ≡ slice_index t.charges (stale slot) = ap (λ (s : Slot). s.old_charge) e in let b : slice_index u.husks (stale slot) ≡ slice_index t.husks (stale slot) = ap (λ (s : Slot). s.old_husk) e in omega arith);
}

kind_cases : (old : Bool) (class : ℕ) → (class ≡ class_from old (class / 2)) ⊎ (class ≡ class_from (not old) (class / 2))
kind_cases true class = elim (half_cases class) [ inl e ↦ inr e | inr e ↦ inl e ]
kind_cases false class = half_cases class

both_kinds : (f : ℕ → ℕ) (old : Bool) (slot : ℕ) → both f slot ≡ f (class_from old slot) + f (class_from (not old) slot)
both_kinds f true slot = omega arith
both_kinds f false slot = refl

-- a class after a flip: what was live in its slot, or nothing
record IsHeir (t u : Table) (what : Condemn) (class : ℕ) : Type 0 where
  pub kind : class ≡ class_from (condemns t what (class / 2)) (class / 2)
  pub chains : chain u class ≡ chain t (live (class / 2))
  pub debts : debt u class ≡ debt t (live (class / 2))

pub record IsBarren (u : Table) (class : ℕ) : Type 0 where
  pub chains : chain u class ≡ []
  pub debts : debt u class ≡ 0

-- nothing is past the last class
pub barren_past : (u : Table) (n class : ℕ) → length u.chains ≡ n → length u.charges ≡ n → length u.husks ≡ n → n ≤ class → IsBarren u class
barren_past u n class a b c past = record {
  chains = get_or_past u.chains class [] (omega arith);
  debts = (let x = get_or_past u.charges class 0 (omega arith) in let y = get_or_past u.husks class 0 (omega arith) in omega arith);
}

module _ (t n : Table) (what : Condemn) (v : IsTable t) (young : (region : ℕ) → IsOld t region → ⊥) (f : Condemns t n what) where
  abbrev u : Table
  u = record t { chains = n.chains; charges = n.charges; husks = n.husks; marks = n.marks; aim = Some what; last = None; pages = []; placed = 0 }

  no_old : (slot : ℕ) → chain t (stale slot) ≡ []
  no_old slot = nothing_in (chain t (stale slot)) (λ r m. young r (slot, m))

  hand : (slot : ℕ) → slot < slots_of t → IsHanded t u slot (condemns t what slot)
  hand slot low = handed t u slot (condemns t what slot) (no_old slot) (v.owing (stale slot) (no_old slot)) (f.slots slot low)

  fate : (class : ℕ) → IsHeir t u what class ⊎ IsBarren u class
  fate class =
      elim (cases_lt (class / 2) (slots_of t)) [
        | inl low ↦ (let h = hand (class / 2) low in elim (kind_cases (condemns t what (class / 2)) class) [
          | inl e ↦ inl (record { kind = e; chains = ap (chain u) e ∙ h.heir; debts = ap (debt u) e ∙ h.owes })
          | inr e ↦ inr (record { chains = ap (chain u) e ∙ h.empty; debts = ap (debt u) e ∙ h.clear })
        ])
        | inr past ↦ inr (barren_past u (2 * slots_of t) class (f.sizes.chains ∙ v.chains_size) (f.sizes.charges ∙ v.charges_size) (f.sizes.husks ∙ v.husks_size) (omega arith))
      ]

  -- a chain has a property if the empty one and those before have it
  each : (P : List ℕ → Type 0) → P [] → ((c : ℕ) → P (chain t c)) → (class : ℕ) → P (chain u class)
  each P none was class = elim (fate class) [
    | inl h ↦ subst P (sym h.chains) (was (live (class / 2)))
    | inr b ↦ subst P (sym b.chains) none
  ]

  heir_of : (class r : ℕ) → Contains (chain u class) r → IsHeir t u what class
  heir_of class r m = elim (fate class) [
    | inl h ↦ h
    | inr b ↦ absurd (none_in r (subst (λ (xs : List ℕ). Contains xs r) b.chains m))
  ]

  was_in : (class r : ℕ) → Contains (chain u class) r → Contains (chain t (live (class / 2))) r
  was_in class r m = subst (λ (xs : List ℕ). Contains xs r) (heir_of class r m).chains m

  free_before : (r : ℕ) → IsUnclassed u r → IsUnclassed t r
  free_before r free = λ c m. elim (half_cases c) [
    | inl e ↦
        (let in_live = subst (λ (k : ℕ). Contains (chain t k) r) e m in
        let b = list_in (lists_of t) (live (c / 2)) r in_live in
        let z = v.chains_size in
        let h = hand (c / 2) (omega arith) in
        free (class_from (condemns t what (c / 2)) (c / 2)) (subst (λ (xs : List ℕ). Contains xs r) (sym h.heir) in_live))
    | inr e ↦ young r (c / 2, subst (λ (k : ℕ). Contains (chain t k) r) e m)
  ]

  debts_same : (slot : ℕ) → slot < slots_of t → both (debt u) slot ≡ both (debt t) slot
  debts_same slot low =
      let b = condemns t what slot in
      let h = hand slot low in
      let one = both_kinds (debt u) b slot in
      let owes = h.owes in
      let clear = h.clear in
      let zero = v.owing (stale slot) (no_old slot) in
      omega arith

  regions_same : (slot : ℕ) → slot < slots_of t → both (regions_of_class u) slot ≡ both (regions_of_class t) slot
  regions_same slot low =
      let b = condemns t what slot in
      let h = hand slot low in
      let one = both_kinds (regions_of_class u) b slot in
      let heir : regions_of_class u (class_from b slot) ≡ regions_of_class t (live slot) = ap length h.heir in
      let empty : regions_of_class u (class_from (not b) slot) ≡ 0 = ap length h.empty in
      let none : regions_of_class t (stale slot) ≡ 0 = ap length (no_old slot) in
      omega arith

  in_area : (p q : ℕ → ℕ) → ((slot : ℕ) → slot < slots_of t → both p slot ≡ both q slot) → (area : ℕ) → area < areas_of t → block (both p) (levels_of t) area ≡ block (both q) (levels_of t) area
  in_area p q same area inside = total-cong (λ l. both p (area * levels_of t + l)) (λ l. both q (area * levels_of t + l)) (levels_of t) (λ l low. same (area * levels_of t + l) (slot_below t area l inside low))

  flipped_is : IsTable u
  flipped_is = record {
    few_regions = v.few_regions;
    few_levels = v.few_levels;
    few_areas = v.few_areas;
    small = v.small;
    kinds_size = v.kinds_size;
    chains_size = f.sizes.chains ∙ v.chains_size;
    charges_size = f.sizes.charges ∙ v.charges_size;
    husks_size = f.sizes.husks ∙ v.husks_size;
    used_size = v.used_size;
    marks_size = f.sizes.marks ∙ v.marks_size;
    sound = record {
      within = λ l r m. v.sound.within (live (l / 2)) r (was_in l r m);
      one_list = λ l k r m p.
          (let one = v.sound.one_list (live (l / 2)) (live (k / 2)) r (was_in l r m) (was_in k r p) in
          let half : l / 2 ≡ k / 2 = omega arith in
          (heir_of l r m).kind ∙ (ap (λ (s : ℕ). class_from (condemns t what s) s) half ∙ sym (heir_of k r p).kind));
      one_place = each (IsDistinct eqb) (distinct_from_apart [] tt) v.sound.one_place;
    };
    full = v.full;
    blank = λ r free. v.blank r (free_before r free);
    unmarked = λ r free. elim (cases_lt r t.regions) [
      | inl low ↦ (f.marks r low).free free
      | inr past ↦ get_or_past n.marks r 0 (let a = f.sizes.marks in let b = v.marks_size in omega arith)
    ];
    owing = λ class e. elim (fate class) [
      | inl h ↦ h.debts ∙ v.owing (live (class / 2)) (sym h.chains ∙ e)
      | inr b ↦ b.debts
    ];
    packed = each (IsPacked t.used) tt v.packed;
    fitting = λ area inside. (let x = in_area (regions_of_class u) (regions_of_class t) regions_same area inside in let y = v.fitting area inside in omega arith);
    paid = λ area inside. (let x = in_area (debt u) (debt t) debts_same area inside in let y = v.paid area inside in omega arith);
    counted = omega arith;
    idle = λ e. absurd (cc);
  }

pub flip_lasts : (t u : Table) (what : Condemn) → IsTable t → ((region : ℕ) → IsOld t region → ⊥) → Condemns t u what → IsTable u
flip_lasts t u what v young f = subst IsTable (sym f.same) (flipped_is t u what v young f)
