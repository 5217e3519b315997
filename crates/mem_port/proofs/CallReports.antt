-- What consecutive calls report of swap errors, of memory accesses and of resident pages.
use Rattle.std.proofs.Common.{◌≡◌, ℕ, Bool, true, false, Result, Ok, Err, OnOk, OnErr, length, refl, sym, ◌∙◌, ap, arith}
use Rattle.std.proofs.lemmas.Bool.{false≢true}
use Rattle.std.proofs.lemmas.List.{length-set}
use Rattle.store_word.specs.Words.{Parts}
use Rattle.mem_port.specs.Store.{Store, Stores, StoresNothing}
use Rattle.mem_port.specs.View.{MemoryView, WithoutFault, AccountsForFaults, AccountsForFaultsIf}

-- A call that met no swap error

pub answered : {T E : Type 0} {v v' : MemoryView} {n n' : ℕ} (x : T) → AccountsForFaults {T = T} {E = E} v v' n n' (Ok x) → WithoutFault v v' n n'
answered x tells = record { faults = tells.cause.quiet; honest = tells.honest; room = tells.room.answered; sound = tells.sound }

pub answered-if : {v v' : MemoryView} {n n' : ℕ} → AccountsForFaultsIf v v' n n' false → WithoutFault v v' n n'
answered-if tells = record { faults = tells.quiet refl; honest = tells.honest; room = tells.room refl; sound = tells.sound }

pub answers : {v v' : MemoryView} {n n' : ℕ} → WithoutFault v v' n n' → AccountsForFaultsIf v v' n n' false
answers q = record {
  later = (let f = q.faults in omega arith);
  failed = λ e. absurd (false≢true e);
  quiet = λ _. q.faults;
  honest = q.honest;
  room = λ _. q.room;
  gone = (let r = q.room in omega arith);
  sound = q.sound;
}

-- two such calls
pub quiet-twice : {v v' v'' : MemoryView} {n n' n'' : ℕ} → WithoutFault v v' n n' → WithoutFault v' v'' n' n'' → WithoutFault v v'' n n''
quiet-twice p q = record {
  faults = q.faults ∙ p.faults;
  honest = (let a = p.honest in let b = q.honest in omega arith);
  room = (let a = p.room in let b = q.room in omega arith);
  sound = λ before. q.sound (p.sound before);
}

-- and one that met a swap error after them
pub quiet-then_fault : {T E : Type 0} {v v' v'' : MemoryView} {n n' n'' : ℕ} (e : E) → WithoutFault v v' n n' → AccountsForFaults {T = T} {E = E} v' v'' n' n'' (Err e) → (faulted : Bool) → faulted ≡ true → AccountsForFaultsIf v v'' n n'' faulted
quiet-then_fault e q tells faulted is = record {
  later = (let a = q.faults in let b = tells.cause.later in omega arith);
  failed = λ _. (let a = q.faults in let b = tells.cause.failed in omega arith);
  quiet = λ not. absurd (false≢true (sym not ∙ is));
  honest = (let a = q.honest in let b = tells.honest in omega arith);
  room = λ not. absurd (false≢true (sym not ∙ is));
  gone = (let a = q.room in let b = tells.room.failed in omega arith);
  sound = λ before. tells.sound (q.sound before);
}

-- and one whose error is returned
pub quiet-then_err : {T T' E : Type 0} {v v' v'' : MemoryView} {n n' n'' : ℕ} (e : E) (r : Result T' E) → r ≡ Err e → WithoutFault v v' n n' → AccountsForFaults {T = T} {E = E} v' v'' n' n'' (Err e) → AccountsForFaults {T = T'} {E = E} v v'' n n'' r
quiet-then_err e r is q tells = rw is (record {
  cause = record { later = (let a = q.faults in let b = tells.cause.later in omega arith); failed = (let a = q.faults in let b = tells.cause.failed in omega arith); quiet = tt };
  honest = (let a = q.honest in let b = tells.honest in omega arith);
  room = record { answered = tt; failed = (let a = q.room in let b = tells.room.failed in omega arith) };
  sound = λ before. tells.sound (q.sound before);
})

-- A read or a write, whatever it returns

-- what follows from either result
pub on-either : {T E P Q N : Type 0} (r : Result T E) → OnOk r P → OnErr r Q → (P → N) → (Q → N) → N
on-either (Ok x) ok err f g = f ok
on-either (Err e) ok err f g = g err

-- a write doesn't change the size
pub size-kept : {T E : Type 0} (m m' : Store) (at : ℕ) (w : Parts) (r : Result T E) → OnOk r (Stores m m' at w) → OnErr r (StoresNothing m m') → length m'.words ≡ length m.words
size-kept m m' at w (Ok x) stored none = ap length stored.words ∙ length-set m.words at w
size-kept m m' at w (Err e) stored none = ap length none.words
