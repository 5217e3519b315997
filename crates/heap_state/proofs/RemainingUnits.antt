-- While a collection hasn't finished a unit remains, and less is paid than is owed.
use Rattle.std.proofs.Common.{◌≡◌, ℕ, zero, suc, ◌+◌, ◌<◌, ◌≤◌, ◌⊎◌, Bool, true, false, refl, sym, ◌∙◌, ap, List, length, nat_le, inl, inr, arith}
use Rattle.std.proofs.lemmas.Bool.{cases_Bool, cases_lt, cases_eq, leb-true}
use Rattle.store_word.specs.Words.{Parts}
use Rattle.lisp_graph.specs.Totals.{total, if_true}
use Rattle.lisp_graph.proofs.Totals.{total-suc}
use Rattle.mem_port.specs.Store.{Store}
use Rattle.area_space.specs.Table.{Table}
use Rattle.transporter.specs.lisp_meaning.State.{State, Running, Collection, is_over}
use Rattle.transporter.specs.lisp_meaning.Step.{IsOverAfter, is_paid}
use Rattle.transporter.specs.lisp_meaning.Units.{NothingLeft}
use Rattle.transporter.specs.lisp_ground.Image.{image_of}
use Rattle.scavenger.specs.Scan.{Scan}
use Rattle.scavenger.specs.Left.{rest_of, register_left, word_left, units_of}
use Rattle.scavenger.specs.Collecting.{ScanInvariant}
use Rattle.heap_state.specs.Laws.{AtLast}

one : (b : Bool) → if_true b 1 ≡ 0 → b ≡ false
one true e = cc
one false e = refl

-- a count of none
none_counted : (p : ℕ → Bool) (n : ℕ) → total (λ i. if_true (p i) 1) n ≡ 0 → (i : ℕ) → i < n → p i ≡ false
none_counted p zero e i l = absurd (omega arith)
none_counted p (suc n) e i l = go (cases_eq i n) (total-suc (λ i. if_true (p i) 1) n) (λ (rest : total (λ i. if_true (p i) 1) n ≡ 0) (low : i < n). none_counted p n rest i low)
  where
    go : (i ≡ n) ⊎ (i ≡ n → ⊥) → total (λ i. if_true (p i) 1) (suc n) ≡ if_true (p n) 1 + total (λ i. if_true (p i) 1) n
        → (total (λ i. if_true (p i) 1) n ≡ 0 → i < n → p i ≡ false) → p i ≡ false
    go (inl q) s r = ap p q ∙ one (p n) (omega arith)
    go (inr ne) s r = r (omega arith) (omega arith)

pub some_left : (m : Store) (t : Table) (scan : Scan) (registers : List Parts) → ScanInvariant m t scan registers → scan.over ≡ false → 0 < units_of m scan t registers
some_left m t scan registers clean going = go (cases_lt 0 (units_of m scan t registers))
  where
    go : (0 < units_of m scan t registers) ⊎ (units_of m scan t registers ≤ 0) → 0 < units_of m scan t registers
    go (inl l) = l
    go (inr h) =
        let none_r : total (λ r. if_true (register_left scan r) 1) (length registers) ≡ 0 = omega arith in
        let none_w : total (λ a. if_true (word_left scan t a) 1) (length m.words) ≡ 0 = omega arith in
        let nothing : NothingLeft (image_of m t (rest_of scan t registers)) =
        ((λ r low. none_counted (register_left scan) (length registers) none_r r low), (λ a low. none_counted (word_left scan t) (length m.words) none_w a low)) in
        let over : scan.over ≡ true = clean.scanned.unfinished nothing in
        absurd cc

pub at_last : AtLast
at_last m t scan registers k s c x going =
    let some = some_left m t scan registers x.clean (x.over ∙ going) in
    let work = x.work going in
    omega arith

-- a transition that scanned records correctly whether a scan has finished, if while units remain at least that number are owed and not paid
pub told_over : (m : Store) (t : Table) (scan : Scan) (registers : List Parts) (s after : State) (before counts : Collection) (scanned : Bool) → s.phase ≡ Running before → after.phase ≡ Running counts → scanned ≡ true → (before.over ≡ true → scan.over ≡ true) → ScanInvariant m t scan registers
    → (scan.over ≡ false → counts.paid + units_of m scan t registers ≤ counts.owed) → IsOverAfter s scanned after scan.over
told_over m t scan registers s after before counts scanned was runs scans stays clean work = record {
  stays = λ over. stays (sym (ap is_over was) ∙ over);
  only_by = λ no now. scans;
  at_last = λ paid. elim (cases_Bool scan.over) [
    | inl over ↦ over
    | inr going ↦
        let few : nat_le counts.owed counts.paid ≡ true = sym (ap is_paid runs) ∙ paid in
        let le = leb-true counts.owed counts.paid few in
        let left = work going in
        let some = some_left m t scan registers clean going in
        absurd (omega arith)
  ];
}
