-- What is read of a header is returned, or refused.
use Rattle.std.proofs.Common.{◌≡◌, ◌≢◌, ◌↔◌, ℕ, ◌+◌, ◌≤◌, false, Result, Ok, Err, refl}
use Rattle.store_word.specs.Words.{Parts, tag_of}
use Rattle.store_word.specs.declared.word.Tag.TheVariants.{Struct as StructTag}
use Rattle.mem_port.specs.Store.{StoresNothing}
use Rattle.mem_port.specs.View.{MemoryView, AccountsForFaultsIf}
use Rattle.area_space.specs.Table.{Table}
use Rattle.transporter.proofs.ScannedWords.{read-stays_fresh, read-preserves}
use Rattle.block_store.specs.Faults.{is_fault}
use Rattle.block_store.specs.Looks.{LooksAtBlock}
use Rattle.block_store.specs.declared.fault.BlockFault.{BlockFault}
use Rattle.block_store.specs.declared.fault.BlockFault.TheVariants.{NotABlock, NoField}

-- nothing is stored
pub looks : {T : Type 0} (m m' : MemoryView) (t : Table) (of : Parts) (result : Result T BlockFault) (steps steps' : ℕ) → StoresNothing m.store m'.store → ((result ≡ Err NotABlock) ↔ (tag_of of.content ≢ StructTag)) → ((count : ℕ) → result ≢ Err (NoField count)) → AccountsForFaultsIf m m' steps steps' (is_fault result) → steps' ≤ steps + 13
    → LooksAtBlock (record { mem = m; table = t }) (record { mem = m'; table = t }) of result steps steps'
looks m m' t of result steps steps' stays not_a_block every_field tells cost =
    record { not_a_block = not_a_block; every_field = every_field; stays = stays; table = refl; preserves = read-preserves t stays; stays_fresh = read-stays_fresh t stays; tells = tells; cost = cost }

-- a block was found, and something about it is returned
pub told : {T : Type 0} (m m' : MemoryView) (t : Table) (of : Parts) (it : T) (steps steps' : ℕ) → StoresNothing m.store m'.store → ((tag_of of.content ≢ StructTag) → ⊥) → AccountsForFaultsIf m m' steps steps' false → steps' ≤ steps + 13
    → LooksAtBlock (record { mem = m; table = t }) (record { mem = m'; table = t }) of (Ok it) steps steps'
told m m' t of it steps steps' stays block tells cost = looks m m' t of (Ok it) steps steps' stays ((λ e. absurd cc), (λ other. absurd (block other))) (λ count e. cc) tells cost
