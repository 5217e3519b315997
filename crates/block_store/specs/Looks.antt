-- A header is read, and nothing else is done.
use Rattle.std.specs.Prelude.{◌≡◌, ◌≢◌, ◌↔◌, ℕ, ◌+◌, ◌≤◌, Result, Err}
use Rattle.store_word.specs.Words.{Parts, tag_of}
use Rattle.store_word.specs.declared.word.Tag.TheVariants.{Struct as StructTag}
use Rattle.mem_port.specs.Store.{StoresNothing}
use Rattle.mem_port.specs.View.{AccountsForFaultsIf}
use Rattle.area_space.specs.View.{GroundView}
use Rattle.transporter.specs.Views.{NoOldAddresses, PreservesScanned}
use Rattle.block_store.specs.Faults.{is_fault}
use Rattle.block_store.specs.declared.fault.BlockFault.{BlockFault}
use Rattle.block_store.specs.declared.fault.BlockFault.TheVariants.{NotABlock, NoField}

-- A word is refused if and only if it isn't tagged STRUCT. The ground is unchanged, a swap error is counted, and it takes at most 13 memory accesses. (Seven parameters: a result with its type, the ground and the count of accesses, each before and after, and the word.)
pub record LooksAtBlock {T : Type 0} (v v' : GroundView) (of : Parts) (result : Result T BlockFault) (steps steps' : ℕ) : Type 0 where
  pub not_a_block : (result ≡ Err NotABlock) ↔ (tag_of of.content ≢ StructTag)
  pub every_field : (count : ℕ) → result ≢ Err (NoField count)
  pub stays : StoresNothing v.mem.store v'.mem.store
  pub table : v'.table ≡ v.table
  pub preserves : PreservesScanned v v'
  pub stays_fresh : NoOldAddresses v → NoOldAddresses v'
  pub tells : AccountsForFaultsIf v.mem v'.mem steps steps' (is_fault result)
  pub cost : steps' ≤ steps + 13
