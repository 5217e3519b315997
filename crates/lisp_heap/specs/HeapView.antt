-- What contracts see of a heap.
use Rattle.std.specs.Prelude.{◌≡◌, ℕ, ◌*◌, List, length, map, slice_index}
use Rattle.std.specs.List.{range_with_len}
use Rattle.store_word.specs.Words.{Parts}
use Rattle.store_word.specs.declared.space.Space.{Space}
use Rattle.store_word.specs.declared.sizes.TheConstants.{REGION_PAGES}
use Rattle.mem_port.specs.Store.{Store}
use Rattle.mem_port.specs.Swaps.{Swaps}
use Rattle.mem_port.specs.declared.memory.Memory.{Ghosts}
use Rattle.area_space.specs.Table.{Table}
use Rattle.area_space.specs.declared.ground.Ground.{Ground}
use Rattle.scavenger.specs.Scan.{Scan}

-- a memory in lists: its words, the level of each region, the marks of each page, and the greatest level
pub record MemoryLists : Type 0 where
  pub words : List Parts
  pub levels : List ℕ
  pub marks : List ℕ
  pub top : ℕ

-- the marks of all pages, 16 of each region
abbrev pub lists_of : Store → MemoryLists
lists_of s = record { words = s.words; levels = s.levels; marks = map s.marks (range_with_len 0 (REGION_PAGES * length s.levels)); top = s.top }

abbrev pub store_of : MemoryLists → Store
store_of lists = record { words = lists.words; levels = lists.levels; marks = λ page. slice_index lists.marks page; top = lists.top }

-- the counts of a memory: the pages on its swap device with the page calls, and the number of memory accesses
pub record Counts : Type 0 where
  pub swaps : Swaps
  pub taken : ℕ

module _ {M : Type 0} (g : Ghosts M) where
  abbrev pub counted : M → Counts
  counted it = record { swaps = g.swaps it; taken = g.taken it }

-- its memory, the table of its regions and what remains to be scanned, the words of its registers, the sizes of its world, how often its swap failed, the resident pages, the least recently used first, and the counts of its memory
pub record HeapView : Type 0 where
  pub memory : MemoryLists
  pub table : Table
  pub scan : Scan
  pub registers : List Parts
  pub space : Space
  pub faults : ℕ
  pub resident : List ℕ
  pub counts : Counts

-- the contents of a heap with this memory, and of one with this ground
abbrev pub contents_of : Store → Table → Scan → List Parts → Space → ℕ → List ℕ → Counts → HeapView
contents_of memory table scan registers space faults resident counts =
    record { memory = lists_of memory; table = table; scan = scan; registers = registers; space = space; faults = faults; resident = resident; counts = counts }

module _ {M : Type 0} {g : Ghosts M} where
  abbrev pub contents_at : Ground M g → Scan → List Parts → Space → HeapView
  contents_at at scan registers space = contents_of (g.seen at.mem) at.table scan registers space (g.faults at.mem) (g.resident at.mem) (counted g at.mem)

-- the world is the same: as many registers, the same sizes and the same areas
pub record SameWorld (old new : HeapView) : Type 0 where
  pub registers : length new.registers ≡ length old.registers
  pub space : new.space ≡ old.space
  pub kinds : new.table.kinds ≡ old.table.kinds
