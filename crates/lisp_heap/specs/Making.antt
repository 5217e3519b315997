-- In which order an allocation scans and makes its object.
use Rattle.std.specs.Prelude.{◌≡◌, ◌≢◌, ℕ, ◌+◌, ◌*◌, ◌≤◌, true, false, List, None, IfSome}
use Rattle.store_word.specs.Words.{Parts}
use Rattle.store_word.specs.declared.sizes.TheConstants.{MAX_OBJECT_WORDS}
use Rattle.lisp_graph.specs.declared.command.Condemn.TheVariants.{Chosen}
use Rattle.area_space.specs.Table.{Table}
use Rattle.heap_state.specs.transporter.LiveWordsUnchanged.{OnlyGrows}
use Rattle.heap_state.specs.transporter.Preserving.{RegistersPreserved}
use Rattle.scavenger.specs.Scan.{Scan}
use Rattle.scavenger.specs.Starting.{Begins}
use Rattle.heap_collect.specs.Silent.{flips_alone, full_levels_on, reclaims_alone}
use Rattle.lisp_heap.specs.HeapView.{HeapView, MemoryLists, store_of}
use Rattle.lisp_heap.specs.Units.{FollowsOrder}

-- the parts of a heap at a moment within a command: its memory, the table of its regions, what remains to be scanned, and the words of its registers
pub record Moment : Type 0 where
  pub memory : MemoryLists
  pub table : Table
  pub scan : Scan
  pub registers : List Parts

-- The moment after the silent steps. The registers are unchanged. Without a silent reclaim the memory is unchanged, without a silent flip the scan, and without either everything. After a silent flip its scan has begun.
pub record IsReady (old : HeapView) (ready : Moment) : Type 0 where
  pub registers : ready.registers ≡ old.registers
  pub memory : reclaims_alone old.table old.scan old.space ≡ false → ready.memory ≡ old.memory
  pub scan : flips_alone old.table old.scan old.space ≡ false → ready.scan ≡ old.scan
  pub table : reclaims_alone old.table old.scan old.space ≡ false → flips_alone old.table old.scan old.space ≡ false → ready.table ≡ old.table
  pub begins : flips_alone old.table old.scan old.space ≡ true → IfSome (full_levels_on old.table old.space) (λ levels. Begins (store_of ready.memory) ready.table (Chosen levels) old.scan ready.scan)

-- From a moment on units were scanned in their order: `limit` of them, or all that remained, or none if no collection runs. Then no more were scanned, `words` words were made, and at most 2,048 words were copied for each of `read` registers.
pub record ScansThenMakes (from : Moment) (new : HeapView) (limit words read : ℕ) : Type 0 where
  pub scanned : Moment
  pub order : from.table.aim ≢ None → FollowsOrder (store_of from.memory) from.table from.scan from.registers (store_of scanned.memory) scanned.table scanned.scan scanned.registers limit
  pub idle : from.table.aim ≡ None → scanned ≡ from
  pub still : new.scan ≡ scanned.scan
  pub grows : scanned.table.placed ≤ new.table.placed
  pub few : new.table.placed ≤ scanned.table.placed + words + MAX_OBJECT_WORDS * read

-- An allocation with this charge scans first, and then makes its object. After the silent steps `old.space.rate * charge` units were scanned, or all that remained.
pub record ScansFirst (old new : HeapView) (charge words read : ℕ) : Type 0 where
  pub ready : Moment
  pub silent : IsReady old ready
  pub makes : ScansThenMakes ready new (old.space.rate * charge) words read

-- Between two moments nothing was scanned, each register is unchanged or was settled, and at most 2,048 words were copied.
pub record Looks (from next : Moment) : Type 0 where
  pub scan : next.scan ≡ from.scan
  pub registers : RegistersPreserved next.table from.registers next.registers
  pub table : OnlyGrows from.table next.table
  pub few : next.table.placed ≤ from.table.placed + MAX_OBJECT_WORDS

-- A block that grows with this charge is looked at after the silent steps. Then units are scanned, as for any allocation, and then its wider words are made.
pub record ScansBeforeGrowth (old new : HeapView) (charge : ℕ) : Type 0 where
  pub ready : Moment
  pub found : Moment
  pub silent : IsReady old ready
  pub looks : Looks ready found
  pub makes : ScansThenMakes found new (old.space.rate * charge) charge 0
