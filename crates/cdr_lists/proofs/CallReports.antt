-- What a call reports that reads or writes a word after others.
use Rattle.std.proofs.Common.{◌≡◌, ℕ, Bool, true, ◌+◌, ◌≤◌, Result, Ok, Err, arith}
use Rattle.store_word.specs.Faults.{TellsFaults}
use Rattle.mem_port.specs.Frames.{LeavesRoom}
use Rattle.mem_port.specs.Store.{IsMemory}
use Rattle.mem_port.specs.View.{MemoryView, WithoutFault, AccountsForFaults, AccountsForFaultsIf}
use Rattle.mem_port.proofs.CallReports.{answered, quiet-then_err, quiet-then_fault, quiet-twice}

-- it met no swap error
pub asked-then : {v v' v'' : MemoryView} {n n' n'' : ℕ} → WithoutFault v v' n n' → v''.faults ≡ v'.faults → v''.taken ≡ v'.taken + 1 → n'' ≡ n' + 1 → v'.resident ≤ v''.resident → IsMemory v''.store → WithoutFault v v'' n n''
asked-then before same taken cost room sound = quiet-twice before (record { faults = same; honest = omega arith; room = room; sound = λ _. sound })

-- it met one
pub asked-then_fault : {T E : Type 0} {v v' v'' : MemoryView} {n n' n'' : ℕ} (e : E) → WithoutFault v v' n n' → TellsFaults {T = T} {E = E} v'.faults v''.faults (Err e) → v''.taken ≡ v'.taken + 1 → n'' ≡ n' + 1
    → LeavesRoom {T = T} {E = E} v'.resident v''.resident (Err e) → IsMemory v''.store → (faulted : Bool) → faulted ≡ true → AccountsForFaultsIf v v'' n n'' faulted
asked-then_fault e before cause taken cost room sound faulted is = quiet-then_fault e before (record { cause = cause; honest = omega arith; room = room; sound = λ _. sound }) faulted is

-- A call after a place was looked for, which counts nothing

-- what calls that met no swap error report together, if the result is returned
quiet_tells : {T E : Type 0} {v v' : MemoryView} {n n' : ℕ} (x : T) → WithoutFault v v' n n' → AccountsForFaults {T = T} {E = E} v v' n n' (Ok x)
quiet_tells x q = record {
  cause = record { later = (let a = q.faults in omega arith); failed = tt; quiet = q.faults };
  honest = q.honest;
  room = record { answered = q.room; failed = tt };
  sound = q.sound;
}

placed : {v v' : MemoryView} (n : ℕ) → v'.faults ≡ v.faults → v'.taken ≡ v.taken → v'.resident ≡ v.resident → IsMemory v'.store → WithoutFault v v' n n
placed n faults taken resident sound = record { faults = faults; honest = omega arith; room = omega arith; sound = λ _. sound }

module _ {T E : Type 0} {v v' v'' : MemoryView} {n n' : ℕ} (faults : v'.faults ≡ v.faults) (taken : v'.taken ≡ v.taken) (resident : v'.resident ≡ v.resident) (sound : IsMemory v'.store) where
  pub placed-then : {T' : Type 0} (x : T) (y : T') → AccountsForFaults {T = T} {E = E} v' v'' n n' (Ok x) → AccountsForFaults {T = T'} {E = E} v v'' n n' (Ok y)
  placed-then x y tells = quiet_tells y (quiet-twice (placed n faults taken resident sound) (answered x tells))

  pub placed-then_fault : {T' : Type 0} (e : E) (r : Result T' E) → r ≡ Err e → AccountsForFaults {T = T} {E = E} v' v'' n n' (Err e) → AccountsForFaults {T = T'} {E = E} v v'' n n' r
  placed-then_fault e r is tells = quiet-then_err e r is (placed n faults taken resident sound) tells
