-- An old class is freed, and then all old classes.
use Rattle.std.proofs.Common.{◌≡◌, ◌≢◌, ℕ, suc, ◌+◌, ◌<◌, Some, None, List, [], length, slice_index, refl, sym, ◌∙◌, ap, subst, arith, inl, inr, get_or-set_same, get_or-set_other}
use Rattle.std.specs.Prelude.{Contains}
use Rattle.std.proofs.lemmas.Bool.{cases_eq}
use Rattle.index_lists.specs.Chains.{without, first_of}
use Rattle.area_space.proofs.RegionReleases.{chain_released, chain_released_other, first_split}
use Rattle.area_space.proofs.FlipSteps.{same_sizes}
use Rattle.area_space.specs.Accounts.{debt}
use Rattle.area_space.specs.Flips.{Slot, state_of}
use Rattle.area_space.specs.Frees.{emptied, forgiven, released, IsFreeing, IsReclaiming, Frees}
use Rattle.area_space.specs.Sound.{IsTable}
use Rattle.area_space.specs.Table.{Table, slots_of, used_of, chain, lists_of, live, stale}
use Rattle.index_lists.proofs.ListUpdates.{list_in, Contains-first, Contains-without, Contains-without_back}

pub freeing_start : (t u : Table) (slot : ℕ) → IsTable t → slot < slots_of t → u ≡ forgiven t slot → IsFreeing t u slot
freeing_start t u slot v low e =
    let c0 = stale slot in
    let f : Table = forgiven t slot in
    let s = v.charges_size in
    let h = v.husks_size in
    let a : slice_index f.charges c0 ≡ 0 = get_or-set_same t.charges c0 0 0 (omega arith) in
    let b : slice_index f.husks c0 ≡ 0 = get_or-set_same t.husks c0 0 0 (omega arith) in
    let c : (k : ℕ) → k ≢ c0 → slice_index f.charges k ≡ slice_index t.charges k = λ k ne. get_or-set_other t.charges c0 k 0 0 ne in
    let d : (k : ℕ) → k ≢ c0 → slice_index f.husks k ≡ slice_index t.husks k = λ k ne. get_or-set_other t.husks c0 k 0 0 ne in
    let whole : IsFreeing t f slot = record {
      same = refl;
      here = (let x = c (live slot) (λ q. omega arith) in let y = d (live slot) (λ q. omega arith) in cc);
      others = λ k ne. (let x = c (live k) (λ q. omega arith) in let y = d (live k) (λ q. omega arith) in let z = c (stale k) (λ q. ne (omega arith)) in let w = d (stale k) (λ q. ne (omega arith)) in cc);
      within = λ r m. m;
      gone = λ r m n. absurd (n m);
      kept = λ r n. (refl, refl);
    } in
    subst (λ (w : Table). IsFreeing t w slot) (sym e) whole

pub freeing_more : (t now next : Table) (slot r : ℕ) → IsFreeing t now slot → IsTable now → slot < slots_of now → first_of (chain now (stale slot)) ≡ Some r → next ≡ released now slot r → IsFreeing t next slot
freeing_more t now next slot r f v low first e =
    let c0 = stale slot in
    let u : Table = released now slot r in
    let held : Contains (chain now c0) r = Contains-first (chain now c0) r first in
    let inside = v.sound.within c0 r held in
    let s = v.used_size in
    let ms = v.marks_size in
    let here = chain_released now slot r v low in
    let whole : IsFreeing t u slot = record {
      same = ap (λ (x : Table). (let y : Table = record x { chains = u.chains; used = u.used; marks = u.marks } in y)) f.same;
      here = (
          let live_same : chain u (live slot) ≡ chain now (live slot) = chain_released_other now slot r (live slot) (λ q. omega arith) in
          let one : state_of u slot ≡ record (state_of now slot) { old_chain = chain u c0 } = cc in
          one ∙ ap (λ (x : Slot). (let y : Slot = record x { old_chain = chain u c0 } in y)) f.here);
      others = λ k ne.
          (let a : chain u (live k) ≡ chain now (live k) = chain_released_other now slot r (live k) (λ q. omega arith) in
          let b : chain u (stale k) ≡ chain now (stale k) = chain_released_other now slot r (stale k) (λ q. ne (omega arith)) in
          let one : state_of u k ≡ state_of now k = cc in
          one ∙ f.others k ne);
      within = λ q m. f.within q (Contains-without_back r q (chain now c0) (subst (λ (xs : List ℕ). Contains xs q) here m));
      gone = λ q m n.
          elim (cases_eq q r) [
            | inl is ↦ (ap (used_of u) is ∙ get_or-set_same now.used r 0 0 (omega arith), ap (slice_index u.marks) is ∙ get_or-set_same now.marks r 0 0 (omega arith))
            | inr ne ↦
                let before = f.gone q m (λ x. n (subst (λ (xs : List ℕ). Contains xs q) (sym here) (Contains-without r q (chain now c0) ne x))) in
                (get_or-set_other now.used r q 0 0 ne ∙ before.0, get_or-set_other now.marks r q 0 0 ne ∙ before.1)
          ];
      kept = λ q n.
          (let ne : q ≢ r = λ is. n (f.within q (subst (Contains (chain now c0)) (sym is) held)) in
          let before = f.kept q n in
          (get_or-set_other now.used r q 0 0 ne ∙ before.0, get_or-set_other now.marks r q 0 0 ne ∙ before.1));
    } in
    subst (λ (w : Table). IsFreeing t w slot) (sym e) whole

-- fewer regions remain to be released
pub freeing_less : (now next : Table) (slot r : ℕ) → IsTable now → slot < slots_of now → first_of (chain now (stale slot)) ≡ Some r → next ≡ released now slot r
    → length (chain next (stale slot)) < length (chain now (stale slot))
freeing_less now next slot r v low first e =
    let split = first_split (chain now (stale slot)) r first (v.sound.one_place (stale slot)) in
    let x : length (chain now (stale slot)) ≡ suc (length (without r (chain now (stale slot)))) = ap length split in
    let y : length (chain next (stale slot)) ≡ length (without r (chain now (stale slot))) = ap length (ap (λ (w : Table). chain w (stale slot)) e ∙ chain_released now slot r v low) in
    omega arith

pub forgiven_owes : (t now : Table) (slot : ℕ) → IsFreeing t now slot → debt now (stale slot) ≡ 0
forgiven_owes t now slot f =
    let a : slice_index now.charges (stale slot) ≡ 0 = ap (λ (s : Slot). s.old_charge) f.here in
    let b : slice_index now.husks (stale slot) ≡ 0 = ap (λ (s : Slot). s.old_husk) f.here in
    omega arith

pub reclaiming_start : (t : Table) → IsReclaiming t t 0
reclaiming_start t = record { same = refl; done = λ k l. absurd (omega arith); rest = λ k l. refl; gone = λ k r l m. absurd (omega arith); kept = λ r n. (refl, refl) }

pub reclaiming_more : (t now next : Table) (k : ℕ) → IsReclaiming t now k → IsFreeing now next k → chain next (stale k) ≡ [] → ((i j r : ℕ) → Contains (chain t (stale i)) r → Contains (chain t (stale j)) r → i ≡ j) → IsReclaiming t next (k + 1)
reclaiming_more t now next k f s empty one =
    let same_chain : chain now (stale k) ≡ chain t (stale k) = ap (λ (x : Slot). x.old_chain) (f.rest k (omega arith)) in
    let there : (r : ℕ) → Contains (chain t (stale k)) r → Contains (chain now (stale k)) r = λ r m. subst (λ (xs : List ℕ). Contains xs r) (sym same_chain) m in
    let back : (r : ℕ) → Contains (chain now (stale k)) r → Contains (chain t (stale k)) r = λ r m. subst (λ (xs : List ℕ). Contains xs r) same_chain m in
    record {
      same = s.same ∙ ap (λ (x : Table). (let y : Table = record x { chains = next.chains; charges = next.charges; husks = next.husks; used = next.used; marks = next.marks } in y)) f.same;
      done = λ m l.
          elim (cases_eq m k) [
            | inl e ↦
                let now_is : state_of next k ≡ emptied (state_of now k) = s.here ∙ ap (λ (xs : List ℕ). (let y : Slot = record (emptied (state_of now k)) { old_chain = xs } in y)) empty in
                let here : state_of next k ≡ emptied (state_of t k) = now_is ∙ ap emptied (f.rest k (omega arith)) in
                subst (λ (q : ℕ). state_of next q ≡ emptied (state_of t q)) (sym e) here
            | inr ne ↦ s.others m ne ∙ f.done m (omega arith)
          ];
      rest = λ m l. s.others m (λ e. omega arith) ∙ f.rest m (omega arith);
      gone = λ m r l has.
          elim (cases_eq m k) [
            | inl e ↦ s.gone r (there r (subst (λ (q : ℕ). Contains (chain t (stale q)) r) e has)) (λ x. absurd_in r (subst (λ (xs : List ℕ). Contains xs r) empty x))
            | inr ne ↦
                let before = f.gone m r (omega arith) has in
                let same = s.kept r (λ x. ne (one m k r has (back r x))) in
                (same.0 ∙ before.0, same.1 ∙ before.1)
          ];
      kept = λ r n.
          (let before = f.kept r (λ m l has. n m (omega arith) has) in
          let same = s.kept r (λ x. n k (omega arith) (back r x)) in
          (same.0 ∙ before.0, same.1 ∙ before.1));
    }
  where
    absurd_in : (r : ℕ) → Contains [] r → ⊥
    absurd_in r m = absurd (omega (arith, m.1))

pub reclaiming_end : (t mid new : Table) → IsTable t → IsTable new → IsReclaiming t mid (slots_of t) → new ≡ record mid { aim = None } → Frees t new
reclaiming_end t mid new v w f e =
    let end : record mid { aim = None } ≡ record t { chains = mid.chains; charges = mid.charges; husks = mid.husks; used = mid.used; marks = mid.marks; aim = None } = ap (λ (x : Table). (let y : Table = record x { aim = None } in y)) f.same in
    let below : (r slot : ℕ) → Contains (chain t (stale slot)) r → slot < slots_of t = λ r slot m. (let l = list_in (lists_of t) (stale slot) r m in let s = v.chains_size in omega arith) in
    let known : IsTable (record mid { aim = None }) = subst IsTable e w in
    let whole : Frees t (record mid { aim = None }) = record {
      same = end;
      sizes = same_sizes t (record mid { aim = None }) v known (ap (λ (x : Table). x.regions) end) (ap slots_of end);
      slots = f.done;
      gone = λ r old. f.gone old.0 r (below r old.0 old.1) old.1;
      kept = λ r not_old. f.kept r (λ slot l m. not_old (slot, m));
    } in
    subst (Frees t) (sym e) whole
