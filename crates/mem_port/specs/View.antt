-- What a memory shows.
use Rattle.std.specs.Prelude.{◌≡◌, ◌<◌, ◌≤◌, ℕ, ◌+◌, Bool, true, false, length, Result}
use Rattle.store_word.specs.Faults.{TellsFaults}
use Rattle.mem_port.specs.Frames.{LeavesRoom}
use Rattle.mem_port.specs.Store.{Store, IsMemory}
use Rattle.mem_port.specs.declared.memory.Memory.{Ghosts}

-- its words and marks, the number of swap errors and of memory accesses, and how many of its pages are resident
pub record MemoryView : Type 0 where
  pub store : Store
  pub faults : ℕ
  pub taken : ℕ
  pub resident : ℕ

module _ {M : Type 0} (g : Ghosts M) where
  abbrev pub shown : M → MemoryView
  shown it = record { store = g.seen it; faults = g.faults it; taken = g.taken it; resident = length (g.resident it) }

-- a call reports each swap error, counts each of its memory accesses, evicts no page except for another one, and keeps what always holds of a memory. (Seven parameters: a result with its two types, and the memory and the count of accesses, each before and after, which are two arguments of a call.)
pub record AccountsForFaults {T E : Type 0} (old new : MemoryView) (steps steps' : ℕ) (result : Result T E) : Type 0 where
  pub cause : TellsFaults old.faults new.faults result
  pub honest : new.taken + steps ≡ old.taken + steps'
  pub room : LeavesRoom old.resident new.resident result
  pub sound : IsMemory old.store → IsMemory new.store

-- the same for a call whose result says in its own way whether it met a swap error
pub record AccountsForFaultsIf (old new : MemoryView) (steps steps' : ℕ) (faulted : Bool) : Type 0 where
  pub later : old.faults ≤ new.faults
  pub failed : faulted ≡ true → old.faults < new.faults
  pub quiet : faulted ≡ false → new.faults ≡ old.faults
  pub honest : new.taken + steps ≡ old.taken + steps'
  pub room : faulted ≡ false → old.resident ≤ new.resident
  pub gone : old.resident ≤ new.resident + 1
  pub sound : IsMemory old.store → IsMemory new.store

-- what calls that met no swap error leave: the same count of swap errors, the memory accesses counted, no fewer resident pages, and what always holds of a memory
pub record WithoutFault (old new : MemoryView) (steps steps' : ℕ) : Type 0 where
  pub faults : new.faults ≡ old.faults
  pub honest : new.taken + steps ≡ old.taken + steps'
  pub room : old.resident ≤ new.resident
  pub sound : IsMemory old.store → IsMemory new.store
