-- A region is opened in the memory.
use Rattle.std.proofs.Common.{◌≡◌, ℕ, zero, suc, ◌+◌, ◌*◌, ◌/◌, ◌%◌, ◌<◌, ◌≤◌, Some, List, [], ◌∷◌, ◌++◌, length, slice_index, slice_set, sym, ◌∙◌, ap, subst, arith, inl, inr, length-set, get_or-set_same, get_or-set_other}
use Rattle.std.specs.Prelude.{Contains, ◌⊎◌}
use Rattle.std.proofs.lemmas.Bool.{cases_eq}
use Rattle.std.proofs.lemmas.Nat.{mod-mul-add}
use Rattle.std.proofs.lemmas.List.Elements.{Contains-append_cases}
use Rattle.mem_port.specs.Store.{Store, IsUnused}
use Rattle.index_lists.specs.Chains.{last_of}
use Rattle.area_space.proofs.Chains.{last_of-append}
use Rattle.area_space.proofs.NewRegions.{slot_below, chain_opened, chain_opened_other, contains_opened}
use Rattle.area_space.specs.Ground.{IsGround, NamesNoFree, with_level}
use Rattle.area_space.specs.Places.{IsEnd, opened}
use Rattle.area_space.specs.Sound.{IsTable}
use Rattle.area_space.specs.Table.{Table, IsUnclassed, slot_of, levels_of, areas_of, used_of, chain, live, stale}

-- a free region's level may be set
pub unused_from_free : (s : Store) (t : Table) (region : ℕ) → IsTable t → IsGround s t → NamesNoFree s t → IsUnclassed t region → IsUnused s region
unused_from_free s t region v g named free = record {
  null = λ at e low. g.blank at low (let z : used_of t (at / 4096) ≡ 0 = ap (used_of t) e ∙ v.blank region free in omega arith);
  unnamed = λ at to word got is same. named at to word got is (subst (λ (r : ℕ). IsUnclassed t r) (sym same) free);
}

pub opened_end : (t : Table) (area level region words : ℕ) → IsTable t → area < areas_of t → level < levels_of t → IsUnclassed t region → words ≤ 2048
    → IsEnd (opened t (live (slot_of t area level)) region) (slot_of t area level) (region * 4096) words
opened_end t area level region words v a l free few =
    let k = slot_of t area level in
    let low = slot_below t area level a l in
    let b : live k < length t.chains = (let z = v.chains_size in omega arith) in
    let r : region * 4096 / 4096 ≡ region = omega arith in
    let none : used_of t (region * 4096 / 4096) ≡ 0 = ap (used_of t) r ∙ v.blank region free in
    record {
      inside = low;
      last = ap last_of (chain_opened t (live k) region b) ∙ (last_of-append (chain t (live k)) region ∙ ap Some (sym r));
      end = omega arith;
      fits = omega arith;
    }

level_again : (a h l : ℕ) → l < h → (a * h + l) % h ≡ l
level_again a h l low = mod-mul-add a h l low

-- what is in a chain was in it, or was opened there
contains_back : (t : Table) (class region c r : ℕ) → class < length t.chains → Contains (chain (opened t class region) c) r → Contains (chain t c) r ⊎ ((c ≡ class) × (r ≡ region))
contains_back t class region c r b m =
    elim (cases_eq c class) [
      | inl e ↦
          let here : Contains (chain t class ++ region ∷ []) r = subst (λ (xs : List ℕ). Contains xs r) (ap (chain (opened t class region)) e ∙ chain_opened t class region b) m in
          elim (Contains-append_cases (chain t class) (region ∷ []) r here) [
            | inl old ↦ inl (subst (λ (k : ℕ). Contains (chain t k) r) (sym e) old)
            | inr new ↦ inr (e, only region r new)
          ]
      | inr ne ↦ inl (subst (λ (xs : List ℕ). Contains xs r) (chain_opened_other t class region c ne) m)
    ]
  where
    only : (x y : ℕ) → Contains (x ∷ []) y → y ≡ x
    only x y (zero, low, is) = sym is
    only x y (suc k, low, is) = absurd (omega arith)

pub ground_opened : (s : Store) (t : Table) (area level region : ℕ) → IsTable t → IsGround s t → area < areas_of t → level < levels_of t → region < t.regions → IsUnclassed t region
    → IsGround (with_level s region level) (opened t (live (slot_of t area level)) region)
ground_opened s t area level region v g a l inside free =
    let k = slot_of t area level in
    let low = slot_below t area level a l in
    let b : live k < length t.chains = (let z = v.chains_size in omega arith) in
    let size = g.levels_size in
    let in_levels : region < length s.levels = omega arith in
    let here : slice_index (slice_set s.levels region level) region ≡ level = get_or-set_same s.levels region level 0 in_levels in
    let old : (c r : ℕ) → Contains (chain t c) r → slice_index (slice_set s.levels region level) r ≡ slice_index s.levels r = λ c r m.
    get_or-set_other s.levels region r level 0 (λ e. free c (subst (Contains (chain t c)) e m)) in
    record {
      size = g.size;
      levels_size = length-set s.levels region level ∙ g.levels_size;
      top = g.top;
      level_live = λ slot r m.
          elim (contains_back t (live k) region (live slot) r b m) [
            | inl was ↦ old (live slot) r was ∙ g.level_live slot r was
            | inr (e, f) ↦
                let same : slot ≡ k = omega arith in
                ap (slice_index (slice_set s.levels region level)) f ∙ (here ∙ sym (ap (λ (q : ℕ). q % levels_of t) same ∙ level_again area (levels_of t) level l))
          ];
      level_old = λ slot r m.
          elim (contains_back t (live k) region (stale slot) r b m) [
            | inl was ↦ old (stale slot) r was ∙ g.level_old slot r was
            | inr (e, f) ↦ absurd (omega arith)
          ];
      blank = g.blank;
    }

pub named_opened : (s : Store) (t : Table) (area level region : ℕ) → IsTable t → area < areas_of t → level < levels_of t → NamesNoFree s t
    → NamesNoFree (with_level s region level) (opened t (live (slot_of t area level)) region)
named_opened s t area level region v a l named =
    let k = slot_of t area level in
    let low = slot_below t area level a l in
    let b : live k < length t.chains = (let z = v.chains_size in omega arith) in
    λ at to word got is free. named at to word got is (λ c m. free c (contains_opened t (live k) region c (to / 4096) b m))
