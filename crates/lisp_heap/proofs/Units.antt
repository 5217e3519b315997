-- Units that remain, and those that were scanned.
use Rattle.std.proofs.Common.{◌≡◌, ℕ, zero, suc, ◌+◌, ◌<◌, ◌≤◌, ◌⊎◌, inl, inr, Bool, true, false, if◌then◌else◌, List, length, refl, sym, ◌∙◌, ap, subst, arith}
use Rattle.std.proofs.lemmas.Bool.{cases_Bool}
use Rattle.store_word.specs.Words.{Parts}
use Rattle.mem_port.specs.Store.{Store}
use Rattle.area_space.specs.Table.{Table}
use Rattle.lisp_graph.specs.Totals.{total, if_true}
use Rattle.word_graph.specs.lisp_meaning.State.{Phase, Idle, Running, State}
use Rattle.word_graph.specs.lisp_meaning.State as M
use Rattle.word_graph.specs.lisp_meaning.Roles.{RoleMap}
use Rattle.lisp_graph.proofs.Totals.{total-suc, total-zero}
use Rattle.scavenger.specs.Scan.{Scan}
use Rattle.scavenger.specs.Left.{register_left, units_of, word_left}
use Rattle.scavenger.specs.Collecting.{ScanInvariant}
use Rattle.heap_state.specs.Scans.{Scans}
use Rattle.heap_state.proofs.RemainingUnits.{at_last, some_left}
use Rattle.heap_collect.specs.Amounts.{Amount}
use Rattle.heap_collect.specs.Silent.{flips_alone}
use Rattle.lisp_heap.specs.HeapView.{HeapView, store_of}
use Rattle.lisp_heap.specs.Costs.{ScansSome, done_at, left_at, left_in, placed_at}
use Rattle.lisp_heap.specs.Stands.{IsSound, Stands}
use Rattle.lisp_heap.specs.Units.{IsOwing, IsUnfinished}

-- No unit remains

none_counted : (f : ℕ → ℕ) (n : ℕ) → ((i : ℕ) → f i ≡ 0) → total f n ≡ 0
none_counted f zero none = total-zero f
none_counted f (suc n) none = let a = total-suc f n in let b = none_counted f n none in let c = none n in omega arith

uncounted : (b : Bool) → b ≡ false → if_true b 1 ≡ 0
uncounted true e = cc
uncounted false e = refl

nothing : (m : Store) (t : Table) (scan : Scan) (registers : List Parts) → scan.over ≡ true → units_of m scan t registers ≡ 0
nothing m t scan registers over =
    let a = none_counted (λ r. if_true (register_left scan r) 1) (length registers) (λ r. uncounted (register_left scan r) (done r)) in
    let b = none_counted (λ a. if_true (word_left scan t a) 1) (length m.words) (λ a. uncounted (word_left scan t a) (shut a)) in
    omega arith
  where
    done : (r : ℕ) → register_left scan r ≡ false
    done r = cc

    shut : (a : ℕ) → word_left scan t a ≡ false
    shut a = cc

pub nothing_left : (heap : HeapView) → IsSound heap → heap.scan.over ≡ true → left_in heap ≡ 0
nothing_left heap sound over = nothing (store_of heap.memory) heap.table heap.scan heap.registers over

-- A unit remains

module _ (m : Store) (t : Table) (scan : Scan) (registers : List Parts) (k : RoleMap) (s : M.Store) (going : scan.over ≡ false) where
  clean : (p : Phase) → Scans m t scan registers k s p 0 → ScanInvariant m t scan registers
  clean Idle x = absurd (let over : scan.over ≡ true = x.over in cc)
  clean (Running c) x = x.clean

  behind : (p : Phase) → Scans m t scan registers k s p 0 → IsOwing p
  behind Idle x = absurd (let over : scan.over ≡ true = x.over in cc)
  behind (Running c) x = at_last m t scan registers k s c x (sym x.over ∙ going)

module _ (heap : HeapView) (sound : IsSound heap) (going : heap.scan.over ≡ false) where
  abbrev found : (s : State) × Stands heap s
  found = sound.stands

  clean_here : ScanInvariant (store_of heap.memory) heap.table heap.scan heap.registers
  clean_here = clean (store_of heap.memory) heap.table heap.scan heap.registers found.1.map found.0.store going found.0.phase found.1.represents.scans

  pub unfinished : IsUnfinished heap
  unfinished = record {
    left = some_left (store_of heap.memory) heap.table heap.scan heap.registers clean_here going;
    owing = λ s st. behind (store_of heap.memory) heap.table heap.scan heap.registers st.map s.store going s.phase st.represents.scans;
  }

  counted : left_in heap + heap.scan.done ≡ heap.scan.begun + heap.table.placed
  counted = clean_here.counted going

-- What was scanned

module _ (old new : HeapView) (sound : IsSound old) (sound' : IsSound new) (begun : new.scan.begun ≡ old.scan.begun) (stays : old.scan.over ≡ true → new.scan.over ≡ true) where
  left_after : new.scan.over ≡ false → left_in new + (new.scan.done + old.table.placed) ≡ left_in old + (old.scan.done + new.table.placed)
  left_after going = elim (cases_Bool old.scan.over) [
    | inl over ↦ absurd (let a = stays over in cc)
    | inr going_before ↦
        let a = counted old sound going_before in
        let b = counted new sound' going in
        omega arith
  ]

  pub scanned_some : (limit : ℕ) → old.scan.done ≤ new.scan.done → Amount old.scan new.scan limit → ScansSome new (left_in old) old.scan.done old.table.placed limit
  scanned_some limit some amount = record { some = some; amount = all amount; left = left_after }
    where
      all : Amount old.scan new.scan limit → (new.scan.done ≡ old.scan.done + limit) ⊎ ((new.scan.done < old.scan.done + limit) × (left_in new ≡ 0))
      all (inl e) = inl e
      all (inr x) = inr (x.0, nothing_left new sound' x.1)

-- after the silent steps of an allocation
module _ (old new : HeapView) (sound : IsSound old) (sound' : IsSound new) (scan1 : Scan) (done_is : scan1.done ≡ done_at old) (still : flips_alone old.table old.scan old.space ≡ false → scan1 ≡ old.scan)
    (begun : new.scan.begun ≡ scan1.begun) (stays : scan1.over ≡ true → new.scan.over ≡ true) where
  left_then : (b : Bool) → flips_alone old.table old.scan old.space ≡ b → new.scan.over ≡ false
      → left_in new + (new.scan.done + (if b then 0 else old.table.placed)) ≡ (if b then new.scan.begun else left_in old) + ((if b then 0 else old.scan.done) + new.table.placed)
  left_then true comes going = let a = counted new sound' going in omega arith
  left_then false never going =
      let same = still never in
      left_after old new sound sound' (begun ∙ ap (λ (s : Scan). s.begun) same) (λ over. stays (ap (λ (s : Scan). s.over) same ∙ over)) going

  pub allocated_some : (limit : ℕ) → scan1.done ≤ new.scan.done → Amount scan1 new.scan limit → ScansSome new (left_at old new) (done_at old) (placed_at old) limit
  allocated_some limit some amount = record {
    some = subst (λ (n : ℕ). n ≤ new.scan.done) done_is some;
    amount = subst (λ (n : ℕ). (new.scan.done ≡ n + limit) ⊎ ((new.scan.done < n + limit) × (left_in new ≡ 0))) done_is (all amount);
    left = left_then (flips_alone old.table old.scan old.space) refl;
  }
    where
      all : Amount scan1 new.scan limit → (new.scan.done ≡ scan1.done + limit) ⊎ ((new.scan.done < scan1.done + limit) × (left_in new ≡ 0))
      all (inl e) = inl e
      all (inr x) = inr (x.0, nothing_left new sound' x.1)
