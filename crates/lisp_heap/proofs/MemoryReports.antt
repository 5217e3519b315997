-- What commands report of the memory.
use Rattle.std.proofs.Common.{◌≡◌, ◌≢◌, ℕ, ◌+◌, ◌-◌, ◌*◌, ◌≤◌, inl, inr, refl, sym, ◌∙◌, ap, arith, Bool, true, false, List, [], ◌∷◌, filter, length, if◌then◌else◌}
use Rattle.std.specs.Prelude.{Result, Ok, Err, IfOk, OnErr, OnOk}
use Rattle.std.proofs.lemmas.Bool.{cases_Bool, cond-true, cond-false}
use Rattle.store_word.specs.Faults.{TellsFaults}
use Rattle.store_word.specs.declared.faults.SwapFault.{SwapFault}
use Rattle.store_word.specs.declared.space.Space.{Space}
use Rattle.lisp_graph.specs.declared.command.Command.{Command}
use Rattle.lisp_graph.specs.declared.command.Command.TheVariants as C
use Rattle.lisp_graph.specs.declared.reply.Reply.{Reply}
use Rattle.lisp_graph.specs.declared.reply.Reply.TheVariants as R
use Rattle.mem_port.specs.Store.{Store}
use Rattle.mem_port.specs.View.{MemoryView, AccountsForFaultsIf}
use Rattle.area_space.specs.Frees.{outside_old}
use Rattle.area_space.specs.Table.{Table}
use Rattle.word_graph.specs.lisp_meaning.Run.{allocates}
use Rattle.scavenger.specs.Scan.{Scan}
use Rattle.heap_state.specs.Reads.{is_fault, reply_of}
use Rattle.heap_collect.specs.Silent.{reclaims_alone, resident_from}
use Rattle.lisp_heap.specs.HeapView.{HeapView}
use Rattle.lisp_heap.specs.Costs.{Takes}
use Rattle.lisp_heap.specs.Stands.{Told, frees_pages, resident_before}
use Rattle.lisp_heap.specs.Words.{paged}

-- a heap's memory, as a call shows it
abbrev pub memory_of : Store → HeapView → MemoryView
memory_of store heap = record { store = store; faults = heap.faults; taken = heap.counts.taken; resident = length heap.resident }

-- a reply is `fault`, or its test says that it isn't
pub not_fault : (r : Reply) → r ≢ R.Fault → is_fault r ≡ false
not_fault R.Fault other = absurd (other refl)
not_fault r other = refl

-- Resident pages

filter_short : (f : ℕ → Bool) (xs : List ℕ) → length (filter f xs) ≤ length xs
filter_short f [] = omega arith
filter_short f (x ∷ xs) =
    let rest = filter_short f xs in
    elim (cases_Bool (f x)) [
      | inl on ↦ (let e = ap length (cond-true (f x) (x ∷ filter f xs) (filter f xs) on) in omega arith)
      | inr off ↦ (let e = ap length (cond-false (f x) (x ∷ filter f xs) (filter f xs) off) in omega arith)
    ]

either_short : (b : Bool) (xs ys : List ℕ) → length xs ≤ length ys → length (if b then xs else ys) ≤ length ys
either_short true xs ys short = short
either_short false xs ys short = omega arith

from_short : (t : Table) (scan : Scan) (space : Space) (pages : List ℕ) → length (resident_from t scan space pages) ≤ length pages
from_short t scan space pages = either_short (reclaims_alone t scan space) (outside_old t pages) pages (filter_short _ pages)

-- no page becomes resident by the silent steps
pub before_short : (c : Command) (heap : HeapView) → length (resident_before c heap) ≤ length heap.resident
before_short c heap = either_short (allocates c) (resident_from heap.table heap.scan heap.space heap.resident) heap.resident (from_short heap.table heap.scan heap.space heap.resident)

-- Reports

pub told_by : {store store' : Store} (old new : HeapView) (before after : ℕ) (c : Command) (r : Reply) → AccountsForFaultsIf (memory_of store old) (memory_of store' new) before after (is_fault r) → Told old new before after c r
told_by old new before after c r x = record {
  later = x.later;
  fault = λ e. x.failed (ap is_fault e);
  sure = λ other. x.quiet (not_fault r other);
  honest = x.honest;
  room = λ other frees. (let a = x.room (not_fault r other) in let b = before_short c old in omega arith);
  gone = λ frees. (let a = x.gone in let b = before_short c old in omega arith);
}

-- the memory wasn't used
pub nothing_asked : (v : MemoryView) (steps : ℕ) (faulted : Bool) → faulted ≡ false → AccountsForFaultsIf v v steps steps faulted
nothing_asked v steps faulted none = record {
  later = omega arith;
  failed = λ e. let bad : true ≡ false = sym e ∙ none in absurd (cc);
  quiet = λ _. refl;
  honest = refl;
  room = λ _. omega arith;
  gone = omega arith;
  sound = λ was. was;
}

-- the memory counted nothing
pub told_still : (old new : HeapView) (steps : ℕ) (c : Command) (r : Reply) → new.faults ≡ old.faults → new.counts.taken ≡ old.counts.taken → is_fault r ≡ false → (frees_pages c ≡ false → length new.resident ≡ length old.resident) → Told old new steps steps c r
told_still old new steps c r faults taken none resident = record {
  later = omega arith;
  fault = λ e. let bad : true ≡ false = sym (ap is_fault e) ∙ none in absurd (cc);
  sure = λ _. faults;
  honest = omega arith;
  room = λ other frees. (let a = resident frees in let b = before_short c old in omega arith);
  gone = λ frees. (let a = resident frees in let b = before_short c old in omega arith);
}

-- pages were evicted
pub told_paged : (old new : HeapView) (count : ℕ) (evicted : Result ℕ SwapFault) → TellsFaults old.faults new.faults evicted → new.counts.taken ≡ old.counts.taken → Told old new 0 0 (C.PageOut count) (paged evicted)
told_paged old new count (Ok n) x taken = record {
  later = x.later;
  fault = λ e. absurd (cc);
  sure = λ _. x.quiet;
  honest = omega arith;
  room = λ other frees. absurd (cc);
  gone = λ frees. absurd (cc);
}
told_paged old new count (Err fault) x taken = record {
  later = x.later;
  fault = λ e. x.failed;
  sure = λ other. absurd (other refl);
  honest = omega arith;
  room = λ other frees. absurd (other refl);
  gone = λ frees. absurd (cc);
}

-- one call after another, the first of which met no swap error
pub tells_then : {v v1 v2 : MemoryView} {before mid after : ℕ} {faulted : Bool} → AccountsForFaultsIf v v1 before mid false → AccountsForFaultsIf v1 v2 mid after faulted → AccountsForFaultsIf v v2 before after faulted
tells_then x y =
    let same = x.quiet refl in
    let more = x.room refl in
    record {
      later = (let a = y.later in omega arith);
      failed = λ e. (let a = y.failed e in omega arith);
      quiet = λ e. y.quiet e ∙ same;
      honest = (let a = x.honest in let b = y.honest in omega arith);
      room = λ e. (let a = y.room e in omega arith);
      gone = (let a = y.gone in omega arith);
      sound = λ was. y.sound (x.sound was);
    }

-- an allocation, after its silent steps
pub told_behind : {store' : Store} (old new : HeapView) (v : MemoryView) (before after : ℕ) (c : Command) (r : Reply) → allocates c ≡ true → v.faults ≡ old.faults → v.taken ≡ old.counts.taken → v.resident ≡ length (resident_from old.table old.scan old.space old.resident)
    → AccountsForFaultsIf v (memory_of store' new) before after (is_fault r) → Told old new before after c r
told_behind old new v before after c r all faults taken resident x =
    let ready : length (resident_before c old) ≡ v.resident = ap length (cond-true (allocates c) (resident_from old.table old.scan old.space old.resident) old.resident all) ∙ sym resident in
    record {
      later = (let a = x.later in omega arith);
      fault = λ e. (let a = x.failed (ap is_fault e) in omega arith);
      sure = λ other. x.quiet (not_fault r other) ∙ faults;
      honest = (let a = x.honest in omega arith);
      room = λ other frees. (let a = x.room (not_fault r other) in omega arith);
      gone = λ frees. (let a = x.gone in omega arith);
    }

-- the memory accesses of a command, if it returned a reply
pub cost_of : {A : Type 0} (answer : Result Reply SwapFault) → OnOk answer A → reply_of answer ≢ R.Fault → A
cost_of (Ok reply) cost other = cost
cost_of (Err fault) cost other = absurd (other refl)

pub takes_by : {old new : HeapView} {before after words steps : ℕ} (answer : Result Reply SwapFault) (r : Reply) → r ≡ reply_of answer → new.table.placed ≤ old.table.placed + words → OnOk answer (after ≤ before + 4 * (new.table.placed - old.table.placed) + steps)
    → Takes old new before after words steps r
takes_by answer r is few cost = record { few = few; cost = λ other. cost_of answer cost (λ e. other (is ∙ e)) }

-- the reply to one that makes something is `ok`, if the swap didn't fail
pub made_sure : (answer : Result Reply SwapFault) → reply_of answer ≡ R.Fine → reply_of answer ≢ R.Fault
made_sure answer fine fault = let bad : R.Fine ≡ R.Fault = sym fine ∙ fault in absurd (cc)

pub made_fine : (answer : Result Reply SwapFault) → IfOk answer (λ reply. reply ≡ R.Fine) → reply_of answer ≢ R.Fault → reply_of answer ≡ R.Fine
made_fine (Ok reply) fine other = fine
made_fine (Err fault) fine other = absurd (other refl)

-- the reply to an eviction is `fault` only if it met a swap error
pub paged_fault : {A : Type 0} (evicted : Result ℕ SwapFault) → OnErr evicted A → paged evicted ≡ R.Fault → A
paged_fault (Ok count) stops fault = absurd (cc)
paged_fault (Err error) stops fault = stops
