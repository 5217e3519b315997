-- The registers that a command reads are settled before it acts.
use Rattle.std.proofs.Common.{◌≡◌, ℕ, ◌+◌, ◌<◌, ◌≤◌, sym, ◌∙◌, ap, subst, List, [], ◌∷◌, length, get_or, slice_index, arith}
use Rattle.std.specs.List.{All}
use Rattle.std.proofs.lemmas.List.{get_or_default}
use Rattle.std.proofs.lemmas.List.Elements.{All-head, All-tail}
use Rattle.store_word.specs.Words.{Parts, null_word}
use Rattle.mem_port.specs.Store.{Store}
use Rattle.area_space.specs.Accounts.{account_of}
use Rattle.area_space.specs.Table.{Table, areas_of, levels_of, quota_of}
use Rattle.block_store.specs.transporter.Settling.{RefersToOld}
use Rattle.block_store.specs.transporter.Marking.{MarksFollow}
use Rattle.block_store.specs.transporter.Preserving.{NoOldAddresses, PreservesScanned, RegistersPreserved}
use Rattle.heap_state.specs.Consistent.{RepresentsState}
use Rattle.heap_state.specs.RepresentsLater.{RepresentsSame}
use Rattle.heap_state.specs.Settled.{IsSettled, NoOldAddressesInRegisters}
use Rattle.heap_state.proofs.Allocations.{account_same}
use Rattle.heap_state.proofs.SettledRegister.{consistent_on}
use Rattle.heap_state.proofs.CommandEffects.{Leaves}

-- one register was settled, and has this word
pub record SettlesOne (m m1 : Store) (t t1 : Table) (registers registers1 : List Parts) (from : ℕ) (word : Parts) : Type 0 where
  pub leaves : Leaves m t registers m1 t1 registers1
  pub consistent : RepresentsState m1 t1 registers1
  pub inside : (i : ℕ) → i < length registers → i < length registers1
  pub read : word ≡ get_or registers1 from word
  pub settled : IsSettled t1 registers1 from

-- two were settled
pub record SettlesTwo (m m1 : Store) (t t1 : Table) (registers registers1 : List Parts) (left right : ℕ) : Type 0 where
  pub leaves : Leaves m t registers m1 t1 registers1
  pub consistent : RepresentsState m1 t1 registers1
  pub inside : (i : ℕ) → i < length registers → i < length registers1
  pub left_settled : IsSettled t1 registers1 left
  pub right_settled : IsSettled t1 registers1 right

-- all of a list were settled
pub record SettlesAll (m m1 : Store) (t t1 : Table) (registers registers1 : List Parts) (items : List ℕ) : Type 0 where
  pub leaves : Leaves m t registers m1 t1 registers1
  pub consistent : RepresentsState m1 t1 registers1
  pub inside : (i : ℕ) → i < length registers → i < length registers1
  pub settled : All (IsSettled t1 registers1) items

-- an object can be made in an area and at a level, and its charge fits the quota
pub record LeavesCharge (t : Table) (area level charge : ℕ) : Type 0 where
  pub area_in : area < areas_of t
  pub level_in : level < levels_of t
  pub fits : account_of t area + charge ≤ quota_of t area

module _ (m m1 : Store) (t t1 : Table) (registers registers1 : List Parts) (before : RepresentsState m t registers) (represented : RepresentsSame m t registers m1 t1 registers1) (preserves : PreservesScanned m t m1 t1) (others : RegistersPreserved t1 registers registers1)
    (stays_fresh : NoOldAddressesInRegisters t registers → NoOldAddresses m t → NoOldAddresses m1 t1) (marks : MarksFollow m t m1 t1) where
  pub settling_leaves : Leaves m t registers m1 t1 registers1
  settling_leaves = record { represented = represented; preserves = preserves; others = others; stays_fresh = stays_fresh; marks = marks }

  still_inside : (i : ℕ) → i < length registers → i < length registers1
  still_inside i low = let count = others.count in omega arith

  pub settles_one : (from : ℕ) (word : Parts) → from < length registers → get_or registers1 from null_word ≡ word → (RefersToOld t1 word → ⊥) → SettlesOne m m1 t t1 registers registers1 from word
  settles_one from word low is young = record {
    leaves = settling_leaves;
    consistent = consistent_on m m1 t t1 registers registers1 before represented;
    inside = still_inside;
    read = sym is ∙ get_or_default registers1 from null_word word (still_inside from low);
    settled = λ old. young (subst (RefersToOld t1) is old);
  }

  pub settles_two : (left right : ℕ) → All (λ item. IsSettled t1 registers1 item) (left ∷ right ∷ []) → SettlesTwo m m1 t t1 registers registers1 left right
  settles_two left right settled = record {
    leaves = settling_leaves;
    consistent = consistent_on m m1 t t1 registers registers1 before represented;
    inside = still_inside;
    left_settled = All-head (λ item. IsSettled t1 registers1 item) left (right ∷ []) settled;
    right_settled = All-head (λ item. IsSettled t1 registers1 item) right [] (All-tail (λ item. IsSettled t1 registers1 item) left (right ∷ []) settled);
  }

  pub settles_all : (items read : List ℕ) → read ≡ items → All (λ item. IsSettled t1 registers1 item) read → SettlesAll m m1 t t1 registers registers1 items
  settles_all items read is settled = record {
    leaves = settling_leaves;
    consistent = consistent_on m m1 t t1 registers registers1 before represented;
    inside = still_inside;
    settled = subst (λ (list : List ℕ). All (IsSettled t1 registers1) list) is settled;
  }

-- settling changes neither what is charged nor the quotas
pub still_allocates : (m m1 : Store) (t t1 : Table) (registers registers1 : List Parts) → RepresentsState m t registers → RepresentsSame m t registers m1 t1 registers1 → PreservesScanned m t m1 t1
    → (area level charge : ℕ) → area < areas_of t → level < levels_of t → account_of t area + charge ≤ quota_of t area → LeavesCharge t1 area level charge
still_allocates m m1 t t1 registers registers1 before represented preserves area level charge area_in level_in fits =
    let form = preserves.grows.form in
    let account = account_same m m1 t t1 registers registers1 area before represented in
    let quota = ap (λ (quotas : List ℕ). slice_index quotas area) form.quotas in
    let areas = ap (λ (quotas : List ℕ). length quotas) form.quotas in
    let top = form.top in
    record { area_in = omega arith; level_in = omega arith; fits = omega arith }

-- The registers of a list

pub few_items : (items read : List ℕ) → read ≡ items → length read ≤ 1024 → length items ≤ 1024
few_items items read is few = subst (λ (list : List ℕ). length list ≤ 1024) is few

pub all_inside : (registers registers1 : List Parts) → ((i : ℕ) → i < length registers → i < length registers1) → (items : List ℕ) → All (λ item. item < length registers) items → All (λ item. item < length registers1) items
all_inside registers registers1 inside items all = λ i default low. inside _ (all i default low)
