-- Which results are swap errors.
use Rattle.std.specs.Prelude.{Bool, true, false, Result, Ok, Err}
use Rattle.heap_load.specs.declared.fault.LoadFault.{LoadFault}
use Rattle.heap_load.specs.declared.fault.LoadFault.TheVariants.{NoMemory, Swap}

-- a page call failed
abbrev pub is_fault : {T : Type 0} → Result T LoadFault → Bool
is_fault (Ok x) = false
is_fault (Err NoMemory) = false
is_fault (Err (Swap fault)) = true
