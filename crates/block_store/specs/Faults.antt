-- Which results are swap errors.
use Rattle.std.specs.Prelude.{Bool, true, false, Result, Ok, Err}
use Rattle.block_store.specs.declared.fault.BlockFault.{BlockFault}
use Rattle.block_store.specs.declared.fault.BlockFault.TheVariants.{NotABlock, NoField, Swap}

-- a page call failed
abbrev pub is_fault : {T : Type 0} → Result T BlockFault → Bool
is_fault (Ok x) = false
is_fault (Err NotABlock) = false
is_fault (Err (NoField length)) = false
is_fault (Err (Swap fault)) = true
