-- Which results are swap errors, and that they are counted.
use Rattle.std.specs.Prelude.{Bool, ℕ, true, false, Result, Ok, Err}
use Rattle.mem_port.specs.View.{AccountsForFaultsIf, MemoryView}
use Rattle.cdr_lists.specs.declared.fault.ListFault.{ListFault}
use Rattle.cdr_lists.specs.declared.fault.ListFault.TheVariants.{NotACons, Swap}

-- a page call failed
abbrev pub is_fault : {T : Type 0} → Result T ListFault → Bool
is_fault (Ok x) = false
is_fault (Err NotACons) = false
is_fault (Err (Swap fault)) = true

-- each swap error is reported and counted, and only a swap error is. (Six parameters: a result with its type, and the memory and the count of accesses, each before and after.)
abbrev pub AccountsForRefusals : {T : Type 0} → MemoryView → MemoryView → ℕ → ℕ → Result T ListFault → Type 0
AccountsForRefusals old new steps steps' result = AccountsForFaultsIf old new steps steps' (is_fault result)
