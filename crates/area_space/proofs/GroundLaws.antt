-- The relation of a memory and a table, as one of them changes.
use Rattle.std.proofs.Common.{◌≡◌, ◌≢◌, ℕ, ◌+◌, ◌*◌, ◌/◌, ◌%◌, ◌<◌, ◌≤◌, Bool, true, false, Some, None, List, length, slice_index, slice_get, slice_set, refl, sym, ◌∙◌, ap, subst, arith, inl, inr, length-set, get_or-set_same, get_or-set_other}
use Rattle.std.specs.Prelude.{Contains, ◌⊎◌}
use Rattle.std.proofs.lemmas.Bool.{cases_eq}
use Rattle.lisp_graph.specs.declared.command.Condemn.{Condemn}
use Rattle.store_word.specs.Words.{Parts, address_of, null_word}
use Rattle.mem_port.specs.Store.{Store, IsFresh, Stores}
use Rattle.index_lists.specs.Chains.{list_at}
use Rattle.index_lists.proofs.ListUpdates.{list_in}
use Rattle.area_space.specs.declared.classes.Origin.{Origin}
use Rattle.area_space.specs.declared.classes.Origin.TheVariants.{New, Moved, Reserve}
use Rattle.lisp_graph.specs.declared.world.AreaRule.{AreaRule}
use Rattle.area_space.specs.Fresh.{fresh, quotas_in}
use Rattle.area_space.specs.Table.{Table, levels_of, slots_of, live, stale, chain, lists_of, used_of, IsUnclassed, IsOld}
use Rattle.area_space.specs.Sound.{IsTable}
use Rattle.area_space.specs.Places.{IsEnd, extended}
use Rattle.area_space.specs.Charges.{committed, husked}
use Rattle.area_space.specs.Flips.{Slot, state_of, after_flip, condemns, Condemns}
use Rattle.area_space.specs.Ground.{IsGround, NamesNoFree}
use Rattle.std.proofs.lemmas.List.{length-replicate}
use Rattle.std.proofs.lemmas.Option.{slice_get_within}
use Rattle.mem_port.proofs.Lookups.{get-set_same, get-set_other, get-replicate}
use Rattle.area_space.proofs.UsedEnds.{end_region}
use Rattle.area_space.proofs.RegionStates.{half_cases}
use Rattle.area_space.proofs.FreeSets.{empties}

-- A memory that is the same in words and levels

pub ground_same : (old new : Store) (t : Table) → new.words ≡ old.words → new.levels ≡ old.levels → new.top ≡ old.top → IsGround old t → IsGround new t
ground_same old new t words levels top g = record {
  size = ap length words ∙ g.size;
  levels_size = ap length levels ∙ g.levels_size;
  top = top ∙ g.top;
  level_live = λ slot r m. ap (λ (ls : List ℕ). slice_index ls r) levels ∙ g.level_live slot r m;
  level_old = λ slot r m. ap (λ (ls : List ℕ). slice_index ls r) levels ∙ g.level_old slot r m;
  blank = λ at low free. ap (λ (ws : List Parts). slice_get ws at) words ∙ g.blank at (subst (λ (ws : List Parts). at < length ws) words low) free;
}

pub named_same : (old new : Store) (t : Table) → new.words ≡ old.words → NamesNoFree old t → NamesNoFree new t
named_same old new t words named = λ at to word got. named at to word (sym (ap (λ (ws : List Parts). slice_get ws at) words) ∙ got)

-- A word is stored

pub ground_stored : (old new : Store) (t : Table) (at : ℕ) (word : Parts) → IsGround old t → Stores old new at word → at % 4096 < used_of t (at / 4096) → IsGround new t
ground_stored old new t at word g st below = record {
  size = ap length st.words ∙ (length-set old.words at word ∙ g.size);
  levels_size = ap length st.levels ∙ g.levels_size;
  top = st.top ∙ g.top;
  level_live = λ slot r m. ap (λ (ls : List ℕ). slice_index ls r) st.levels ∙ g.level_live slot r m;
  level_old = λ slot r m. ap (λ (ls : List ℕ). slice_index ls r) st.levels ∙ g.level_old slot r m;
  blank = λ b low free.
      (let ne : b ≢ at = λ e. (let f = subst (λ (k : ℕ). used_of t (k / 4096) ≤ k % 4096) e free in absurd (omega arith)) in
      let size : length new.words ≡ length old.words = ap length st.words ∙ length-set old.words at word in
      ap (λ (ws : List Parts). slice_get ws b) st.words ∙ (get-set_other old.words at b word ne ∙ g.blank b (omega arith) free));
}

pub named_stored : (old new : Store) (t : Table) (at : ℕ) (word : Parts) → NamesNoFree old t → Stores old new at word
    → ((to : ℕ) → address_of word.content ≡ Some to → IsUnclassed t (to / 4096) → ⊥) → NamesNoFree new t
named_stored old new t at word named st ok = λ b to other got is.
    let there : slice_get (slice_set old.words at word) b ≡ Some other = sym (ap (λ (ws : List Parts). slice_get ws b) st.words) ∙ got in
    elim (cases_eq b at) [
      | inl e ↦
          let low = slice_get_within (slice_set old.words at word) b other there in
          let size = length-set old.words at word in
          let here : slice_get (slice_set old.words at word) b ≡ Some word = ap (slice_get (slice_set old.words at word)) e ∙ get-set_same old.words at word (omega arith) in
          let both : Some word ≡ Some other = sym here ∙ there in
          let same : word ≡ other = cc in
          ok to (ap (λ (w : Parts). address_of w.content) same ∙ is)
      | inr ne ↦ named b to other (sym (get-set_other old.words at b word ne) ∙ there) is
    ]

-- A new memory and a new table

pub ground_fresh : (s : Store) (regions top : ℕ) (rules : List AreaRule) → IsFresh s regions top → IsGround s (fresh regions top rules)
ground_fresh s regions top rules f =
    let nothing : (c r : ℕ) → Contains (chain (fresh regions top rules) c) r → ⊥ = λ c r m. (let x = subst (λ (xs : List ℕ). Contains xs r) (empties (2 * (length (quotas_in rules) * (top + 1))) c) m in absurd (omega (arith, x.1))) in
    let size : length s.words ≡ 4096 * regions = ap length f.words ∙ length-replicate (4096 * regions) null_word in
    record {
      size = size;
      levels_size = ap length f.levels ∙ length-replicate regions 0;
      top = f.top;
      level_live = λ slot r m. absurd (nothing (live slot) r m);
      level_old = λ slot r m. absurd (nothing (stale slot) r m);
      blank = λ at low free. ap (λ (ws : List Parts). slice_get ws at) f.words ∙ get-replicate (4096 * regions) at null_word (omega arith);
    }

pub named_fresh : (s : Store) (regions top : ℕ) (rules : List AreaRule) → IsFresh s regions top → NamesNoFree s (fresh regions top rules)
named_fresh s regions top rules f = λ at to word got is free.
    let low = slice_get_within s.words at word got in
    let size : length s.words ≡ 4096 * regions = ap length f.words ∙ length-replicate (4096 * regions) null_word in
    let here : slice_get s.words at ≡ Some null_word = ap (λ (ws : List Parts). slice_get ws at) f.words ∙ get-replicate (4096 * regions) at null_word (omega arith) in
    let same : Some word ≡ Some null_word = sym got ∙ here in
    let null : word ≡ null_word = cc in
    let none : address_of word.content ≡ None = ap (λ (w : Parts). address_of w.content) null in
    absurd (cc)

-- The chains stay, and used ends only rise

pub ground_raised : (s : Store) (t u : Table) → u.regions ≡ t.regions → u.top ≡ t.top → u.chains ≡ t.chains → ((r : ℕ) → used_of t r ≤ used_of u r) → IsGround s t → IsGround s u
ground_raised s t u regions top chains more g =
    let same : (c : ℕ) → chain u c ≡ chain t c = λ c. ap (λ (cs : List (List ℕ)). list_at (record { nodes = t.regions; lists = cs }) c) chains in
    let levels : (slot : ℕ) → slot % levels_of t ≡ slot % levels_of u = λ slot. ap (λ (k : ℕ). slot % (k + 1)) (sym top) in
    record {
      size = g.size ∙ ap (λ (k : ℕ). 4096 * k) (sym regions);
      levels_size = g.levels_size ∙ sym regions;
      top = g.top ∙ sym top;
      level_live = λ slot r m. g.level_live slot r (subst (λ (xs : List ℕ). Contains xs r) (same (live slot)) m) ∙ levels slot;
      level_old = λ slot r m. g.level_old slot r (subst (λ (xs : List ℕ). Contains xs r) (same (stale slot)) m) ∙ levels slot;
      blank = λ at low free. g.blank at low (let x = more (at / 4096) in omega arith);
    }

pub named_again : (s : Store) (t u : Table) → u.chains ≡ t.chains → NamesNoFree s t → NamesNoFree s u
named_again s t u chains named = λ at to word got is free. named at to word got is (λ c m. free c (subst (λ (cs : List (List ℕ)). Contains (list_at (record { nodes = u.regions; lists = cs }) c) (to / 4096)) (sym chains) m))

-- all but charges and pages is as a commit leaves it
pub record IsBeside (t u : Table) (used : List ℕ) : Type 0 where
  pub regions : u.regions ≡ t.regions
  pub top : u.top ≡ t.top
  pub chains : u.chains ≡ t.chains
  pub uses : u.used ≡ used

pub committed_beside : (t : Table) (slot at words charge : ℕ) (o : Origin) → IsBeside t (committed t slot at words charge o) (extended t at words).used
committed_beside t slot at words charge New = record { regions = refl; top = refl; chains = refl; uses = refl }
committed_beside t slot at words charge (Moved from) = record { regions = refl; top = refl; chains = refl; uses = refl }
committed_beside t slot at words charge Reserve = record { regions = refl; top = refl; chains = refl; uses = refl }

used_rises : (t : Table) (slot at words : ℕ) → IsTable t → IsEnd t slot at words → (r : ℕ) → used_of t r ≤ used_of (extended t at words) r
used_rises t slot at words v e r =
    let low = end_region t slot at words v e in
    let size = v.used_size in
    elim (cases_eq r (at / 4096)) [
      | inl same ↦
          let x = get_or-set_same t.used (at / 4096) (used_of t (at / 4096) + words) 0 (omega arith) in
          subst (λ (k : ℕ). used_of t k ≤ used_of (extended t at words) k) (sym same) (omega arith)
      | inr ne ↦ let x = get_or-set_other t.used (at / 4096) r (used_of t (at / 4096) + words) 0 ne in omega arith
    ]

pub ground_committed : (s : Store) (t u : Table) (slot at words charge : ℕ) (o : Origin) → IsTable t → IsEnd t slot at words → u ≡ record (committed t slot at words charge o) { pages = u.pages } → IsGround s t → IsGround s u
ground_committed s t u slot at words charge o v e is g =
    let b = committed_beside t slot at words charge o in
    let uses : u.used ≡ (extended t at words).used = ap (λ (w : Table). w.used) is ∙ b.uses in
    ground_raised s t u (ap (λ (w : Table). w.regions) is ∙ b.regions) (ap (λ (w : Table). w.top) is ∙ b.top) (ap (λ (w : Table). w.chains) is ∙ b.chains)
    (λ r. subst (λ (us : List ℕ). used_of t r ≤ slice_index us r) (sym uses) (used_rises t slot at words v e r)) g

pub named_committed : (s : Store) (t u : Table) (slot at words charge : ℕ) (o : Origin) → u ≡ record (committed t slot at words charge o) { pages = u.pages } → NamesNoFree s t → NamesNoFree s u
named_committed s t u slot at words charge o is named =
    let b = committed_beside t slot at words charge o in
    named_again s t u (ap (λ (w : Table). w.chains) is ∙ b.chains) named

pub ground_husked : (s : Store) (t u : Table) (class words : ℕ) → u ≡ husked t class words → IsGround s t → IsGround s u
ground_husked s t u class words is g =
    ground_raised s t u (ap (λ (w : Table). w.regions) is) (ap (λ (w : Table). w.top) is) (ap (λ (w : Table). w.chains) is)
    (λ r. let e = ap (λ (w : Table). used_of w r) is in omega arith) g

pub named_husked : (s : Store) (t u : Table) (class words : ℕ) → u ≡ husked t class words → NamesNoFree s t → NamesNoFree s u
named_husked s t u class words is named = named_again s t u (ap (λ (w : Table). w.chains) is) named

-- A flip

live_was : (b : Bool) (x : Slot) (r : ℕ) → Contains (after_flip b x).live_chain r → Contains x.live_chain r
live_was true x r m = absurd (omega (arith, m.1))
live_was false x r m = m

old_was : (b : Bool) (x : Slot) (r : ℕ) → Contains (after_flip b x).old_chain r → Contains x.live_chain r ⊎ Contains x.old_chain r
old_was true x r m = inl m
old_was false x r m = inr m

live_stays : (b : Bool) (x : Slot) (r : ℕ) → Contains x.live_chain r → Contains (after_flip b x).live_chain r ⊎ Contains (after_flip b x).old_chain r
live_stays true x r m = inr m
live_stays false x r m = inl m

slot_within : (t : Table) (class slot r : ℕ) → IsTable t → class / 2 ≡ slot → Contains (chain t class) r → slot < slots_of t
slot_within t class slot r v half m =
    let l = list_in (lists_of t) class r m in
    let s = v.chains_size in
    omega arith

pub ground_condemned : (s : Store) (t u : Table) (what : Condemn) → IsTable u → Condemns t u what → IsGround s t → IsGround s u
ground_condemned s t u what w f g =
    let regions : t.regions ≡ u.regions = sym (ap (λ (x : Table). x.regions) f.same) in
    let top : t.top ≡ u.top = sym (ap (λ (x : Table). x.top) f.same) in
    let slots : slots_of u ≡ slots_of t = ap slots_of f.same in
    let levels : (slot : ℕ) → slot % levels_of t ≡ slot % levels_of u = λ slot. ap (λ (k : ℕ). slot % (k + 1)) top in
    record {
      size = g.size ∙ ap (λ (k : ℕ). 4096 * k) regions;
      levels_size = g.levels_size ∙ regions;
      top = g.top ∙ top;
      level_live = λ slot r m.
          (let low : slot < slots_of u = slot_within u (live slot) slot r w (omega arith) m in
          let there = subst (λ (x : Slot). Contains x.live_chain r) (f.slots slot (omega arith)) m in
          g.level_live slot r (live_was (condemns t what slot) (state_of t slot) r there) ∙ levels slot);
      level_old = λ slot r m.
          (let low : slot < slots_of u = slot_within u (stale slot) slot r w (omega arith) m in
          let there = subst (λ (x : Slot). Contains x.old_chain r) (f.slots slot (omega arith)) m in
          elim (old_was (condemns t what slot) (state_of t slot) r there) [
            | inl was ↦ g.level_live slot r was ∙ levels slot
            | inr was ↦ g.level_old slot r was ∙ levels slot
          ]);
      blank = λ at low free. g.blank at low (let e = ap (λ (x : Table). used_of x (at / 4096)) f.same in omega arith);
    }

pub named_condemned : (s : Store) (t u : Table) (what : Condemn) → IsTable t → ((region : ℕ) → IsOld t region → ⊥) → Condemns t u what → NamesNoFree s t → NamesNoFree s u
named_condemned s t u what v none f named = λ at to word got is free. named at to word got is (λ class m.
    elim (half_cases class) [
      | inl e ↦
          let slot = class / 2 in
          let r = to / 4096 in
          let low : slot < slots_of t = slot_within t class slot r v refl m in
          let in_live : Contains (chain t (live slot)) r = subst (λ (k : ℕ). Contains (chain t k) r) e m in
          let state = sym (f.slots slot low) in
          elim (live_stays (condemns t what slot) (state_of t slot) r in_live) [
            | inl there ↦ free (live slot) (subst (λ (x : Slot). Contains x.live_chain r) state there)
            | inr there ↦ free (stale slot) (subst (λ (x : Slot). Contains x.old_chain r) state there)
          ]
      | inr e ↦ none (to / 4096) (class / 2, subst (λ (k : ℕ). Contains (chain t k) (to / 4096)) e m)
    ])
