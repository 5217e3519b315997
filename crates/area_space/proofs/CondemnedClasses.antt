-- The classes of a slot become old.
use Rattle.std.proofs.Common.{◌≡◌, ◌≢◌, ℕ, ◌+◌, ◌*◌, ◌<◌, Bool, true, None, List, [], ◌++◌, length, slice_index, slice_index_or, slice_set, refl, sym, ◌∙◌, ap, subst, arith, inl, inr, length-set, get_or-set_same, get_or-set_other}
use Rattle.std.specs.Prelude.{Contains}
use Rattle.std.proofs.lemmas.Bool.{cases_eq}
use Rattle.lisp_graph.specs.declared.command.Condemn.{Condemn}
use Rattle.index_lists.specs.Chains.{IsFree, IsSound}
use Rattle.area_space.proofs.Sums.{block-cong}
use Rattle.area_space.specs.Accounts.{debt}
use Rattle.area_space.specs.Flips.{state_of, turned, after_flip, condemns, made_old, FlipsSlot}
use Rattle.area_space.specs.Room.{regions_of_class, IsPacked}
use Rattle.area_space.specs.Sound.{IsTable}
use Rattle.area_space.specs.Sums.{both}
use Rattle.area_space.specs.Table.{Table, levels_of, slots_of, chain, lists_of, live, stale}

-- two places of a list, one after the other
pub set_two : {X : Type 0} (xs : List X) (one two : ℕ) (x y d : X) → one < length xs → two < length xs → one ≢ two
    → (slice_index_or (slice_set (slice_set xs one x) two y) one d ≡ x) × (slice_index_or (slice_set (slice_set xs one x) two y) two d ≡ y) × ((k : ℕ) → k ≢ one → k ≢ two → slice_index_or (slice_set (slice_set xs one x) two y) k d ≡ slice_index_or xs k d)
set_two {X} xs one two x y d a b ne = (
  get_or-set_other (slice_set xs one x) two one y d ne ∙ get_or-set_same xs one x d a,
  get_or-set_same (slice_set xs one x) two y d (omega (arith, length-set xs one x)),
  λ k n m. get_or-set_other (slice_set xs one x) two k y d m ∙ get_or-set_other xs one k x d n,
)

pub record IsTurned (t : Table) (slot : ℕ) : Type 0 where
  pub live_chain : chain (made_old t slot) (live slot) ≡ []
  pub old_chain : chain (made_old t slot) (stale slot) ≡ chain t (live slot)
  pub chains : (c : ℕ) → c ≢ live slot → c ≢ stale slot → chain (made_old t slot) c ≡ chain t c
  pub live_charge : slice_index (made_old t slot).charges (live slot) ≡ 0
  pub old_charge : slice_index (made_old t slot).charges (stale slot) ≡ slice_index t.charges (live slot)
  pub charges : (c : ℕ) → c ≢ live slot → c ≢ stale slot → slice_index (made_old t slot).charges c ≡ slice_index t.charges c
  pub live_husk : slice_index (made_old t slot).husks (live slot) ≡ 0
  pub old_husk : slice_index (made_old t slot).husks (stale slot) ≡ slice_index t.husks (live slot)
  pub husks : (c : ℕ) → c ≢ live slot → c ≢ stale slot → slice_index (made_old t slot).husks c ≡ slice_index t.husks c

pub made_old_facts : (t : Table) (slot : ℕ) → IsTable t → slot < slots_of t → chain t (stale slot) ≡ [] → IsTurned t slot
made_old_facts t slot v low empty =
    let s = v.chains_size in
    let p = v.charges_size in
    let q = v.husks_size in
    let ne : live slot ≢ stale slot = λ e. omega arith in
    let ne2 : stale slot ≢ live slot = λ e. omega arith in
    let z = v.owing (stale slot) empty in
    let a = set_two t.chains (live slot) (stale slot) [] (chain t (stale slot) ++ chain t (live slot)) [] (omega arith) (omega arith) ne in
    let b = set_two t.charges (stale slot) (live slot) (slice_index t.charges (stale slot) + slice_index t.charges (live slot)) 0 0 (omega arith) (omega arith) ne2 in
    let c = set_two t.husks (stale slot) (live slot) (slice_index t.husks (stale slot) + slice_index t.husks (live slot)) 0 0 (omega arith) (omega arith) ne2 in
    record {
      live_chain = a.0;
      old_chain = a.1 ∙ ap (λ (xs : List ℕ). xs ++ chain t (live slot)) empty;
      chains = a.2;
      live_charge = b.1;
      old_charge = (let x = b.0 in omega arith);
      charges = λ k n m. b.2 k m n;
      live_husk = c.1;
      old_husk = (let x = c.0 in omega arith);
      husks = λ k n m. c.2 k m n;
    }

pub turned_is : (t : Table) (slot : ℕ) → IsTable t → slot < slots_of t → chain t (stale slot) ≡ [] → t.placed ≡ 0 → t.aim ≢ None → IsSound (lists_of (made_old t slot)) → IsTable (made_old t slot)
turned_is t slot v low empty none going sound =
    let u : Table = made_old t slot in
    let f = made_old_facts t slot v low empty in
    let z = v.owing (stale slot) empty in
    let at_live : debt u (live slot) ≡ 0 = (let x = f.live_charge in let y = f.live_husk in omega arith) in
    let at_stale : debt u (stale slot) ≡ debt t (live slot) = (let x = f.old_charge in let y = f.old_husk in omega arith) in
    let beside : (c : ℕ) → c ≢ live slot → c ≢ stale slot → debt u c ≡ debt t c = λ c n m. let x = f.charges c n m in let y = f.husks c n m in omega arith in
    let len_live : regions_of_class u (live slot) ≡ 0 = ap length f.live_chain in
    let len_stale : regions_of_class u (stale slot) ≡ regions_of_class t (live slot) = ap length f.old_chain in
    let len_was : regions_of_class t (stale slot) ≡ 0 = ap length empty in
    let lens : (k : ℕ) → both (regions_of_class u) k ≡ both (regions_of_class t) k = λ k.
    elim (cases_eq k slot) [
      | inl e ↦ subst (λ (m : ℕ). both (regions_of_class u) m ≡ both (regions_of_class t) m) (sym e) (omega arith)
      | inr ne ↦
          let x : regions_of_class u (2 * k) ≡ regions_of_class t (2 * k) = ap length (f.chains (2 * k) (λ e. ne (omega arith)) (λ e. omega arith)) in
          let y : regions_of_class u (2 * k + 1) ≡ regions_of_class t (2 * k + 1) = ap length (f.chains (2 * k + 1) (λ e. omega arith) (λ e. ne (omega arith))) in
          omega arith
    ] in
    let debts : (k : ℕ) → both (debt u) k ≡ both (debt t) k = λ k.
    elim (cases_eq k slot) [
      | inl e ↦ subst (λ (m : ℕ). both (debt u) m ≡ both (debt t) m) (sym e) (omega arith)
      | inr ne ↦
          let x = beside (2 * k) (λ e. ne (omega arith)) (λ e. omega arith) in
          let y = beside (2 * k + 1) (λ e. omega arith) (λ e. ne (omega arith)) in
          omega arith
    ] in
    let each : (P : ℕ → List ℕ → Type 0) → P (live slot) [] → P (stale slot) (chain t (live slot)) → ((c : ℕ) → c ≢ live slot → c ≢ stale slot → P c (chain t c)) → (c : ℕ) → P c (chain u c) = λ P one two other c.
    elim (cases_eq c (live slot)) [
      | inl e ↦ subst (λ (k : ℕ). P k (chain u k)) (sym e) (subst (P (live slot)) (sym f.live_chain) one)
      | inr n ↦
          elim (cases_eq c (stale slot)) [
            | inl e ↦ subst (λ (k : ℕ). P k (chain u k)) (sym e) (subst (P (stale slot)) (sym f.old_chain) two)
            | inr m ↦ subst (P c) (sym (f.chains c n m)) (other c n m)
          ]
    ] in
    let free_back : (r : ℕ) → IsFree (lists_of u) r → IsFree (lists_of t) r = λ r free c m.
    elim (cases_eq c (live slot)) [
      | inl e ↦ free (stale slot) (subst (λ (xs : List ℕ). Contains xs r) (sym f.old_chain) (subst (λ (k : ℕ). Contains (chain t k) r) e m))
      | inr n ↦
          elim (cases_eq c (stale slot)) [
            | inl e ↦ (let x = subst (λ (xs : List ℕ). Contains xs r) (ap (chain t) e ∙ empty) m in absurd (omega (arith, x.1)))
            | inr k ↦ free c (subst (λ (xs : List ℕ). Contains xs r) (sym (f.chains c n k)) m)
          ]
    ] in
    record {
      few_regions = v.few_regions;
      few_levels = v.few_levels;
      few_areas = v.few_areas;
      small = v.small;
      kinds_size = v.kinds_size;
      chains_size = length-set (slice_set t.chains (live slot) []) (stale slot) (chain t (stale slot) ++ chain t (live slot)) ∙ (length-set t.chains (live slot) [] ∙ v.chains_size);
      charges_size = length-set (slice_set t.charges (stale slot) (slice_index t.charges (stale slot) + slice_index t.charges (live slot))) (live slot) 0 ∙ (length-set t.charges (stale slot) (slice_index t.charges (stale slot) + slice_index t.charges (live slot)) ∙ v.charges_size);
      husks_size = length-set (slice_set t.husks (stale slot) (slice_index t.husks (stale slot) + slice_index t.husks (live slot))) (live slot) 0 ∙ (length-set t.husks (stale slot) (slice_index t.husks (stale slot) + slice_index t.husks (live slot)) ∙ v.husks_size);
      used_size = v.used_size;
      marks_size = v.marks_size;
      sound = sound;
      full = v.full;
      blank = λ r free. v.blank r (free_back r free);
      unmarked = λ r free. v.unmarked r (free_back r free);
      owing = each (λ c xs. xs ≡ [] → debt u c ≡ 0) (λ _. at_live) (λ e. at_stale ∙ v.owing (live slot) e) (λ c n m e. beside c n m ∙ v.owing c e);
      packed = each (λ c xs. IsPacked t.used xs) tt (v.packed (live slot)) (λ c n m. v.packed c);
      fitting = λ a inside. (let x = block-cong (both (regions_of_class u)) (both (regions_of_class t)) (levels_of t) a lens in let y = v.fitting a inside in omega arith);
      paid = λ a inside. (let x = block-cong (both (debt u)) (both (debt t)) (levels_of t) a debts in let y = v.paid a inside in omega arith);
      counted = omega arith;
      idle = λ e. absurd (going e);
    }

pub turned_here : (t : Table) (slot : ℕ) → IsTurned t slot → state_of (made_old t slot) slot ≡ turned (state_of t slot)
turned_here t slot f =
    same_slot (made_old t slot) slot [] (chain t (live slot)) 0 (slice_index t.charges (live slot)) 0 (slice_index t.husks (live slot)) f.live_chain f.old_chain f.live_charge f.old_charge f.live_husk f.old_husk
  where
    same_slot : (u : Table) (k : ℕ) (a b : List ℕ) (c d e f : ℕ) → chain u (live k) ≡ a → chain u (stale k) ≡ b → slice_index u.charges (live k) ≡ c → slice_index u.charges (stale k) ≡ d → slice_index u.husks (live k) ≡ e → slice_index u.husks (stale k) ≡ f
        → state_of u k ≡ record { live_chain = a; old_chain = b; live_charge = c; old_charge = d; live_husk = e; old_husk = f }
    same_slot u k a b c d e f p q r s x y = cc

pub turned_other : (t : Table) (slot k : ℕ) → IsTurned t slot → k ≢ slot → state_of (made_old t slot) k ≡ state_of t k
turned_other t slot k f ne =
    let a = f.chains (live k) (λ e. ne (omega arith)) (λ e. omega arith) in
    let b = f.chains (stale k) (λ e. omega arith) (λ e. ne (omega arith)) in
    let c = f.charges (live k) (λ e. ne (omega arith)) (λ e. omega arith) in
    let d = f.charges (stale k) (λ e. omega arith) (λ e. ne (omega arith)) in
    let x = f.husks (live k) (λ e. ne (omega arith)) (λ e. omega arith) in
    let y = f.husks (stale k) (λ e. omega arith) (λ e. ne (omega arith)) in
    cc

pub flips : (t u : Table) (what : Condemn) (slot : ℕ) → IsTable t → slot < slots_of t → chain t (stale slot) ≡ [] → condemns t what slot ≡ true → u ≡ made_old t slot → FlipsSlot t u what slot
flips t u what slot v low empty is e =
    let f = made_old_facts t slot v low empty in
    subst (λ (w : Table). FlipsSlot t w what slot) (sym e) (record {
      same = refl;
      here = turned_here t slot f ∙ ap (λ (b : Bool). after_flip b (state_of t slot)) (sym is);
      others = λ k ne. turned_other t slot k f ne;
    })
