-- Words that are placed, committed and written.
use Rattle.std.specs.Prelude.{◌≡◌, ℕ, ◌<◌, Some, slice_get}
use Rattle.area_space.specs.store_word.Words.{Parts}
use Rattle.area_space.specs.mem_port.Store.{Store}
use Rattle.area_space.specs.Table.{Table, areas_of, levels_of, slot_of}
use Rattle.area_space.specs.Sound.{IsTable}
use Rattle.area_space.specs.Places.{IsEnd}
use Rattle.lisp_ground.specs.GroundInvariant.{NamesUsed}
use Rattle.lisp_ground.specs.Writes.{Within, WritesWithin}

-- `count` words were written from b on, the used end of a live class, and none of them has an address in a free region. `new_table` is the table after their commit; the words may be written before it or after it
pub record Lays (old : Store) (table : Table) (new : Store) (new_table : Table) (b count area level : ℕ) : Type 0 where
  pub area_in : area < areas_of table
  pub level_in : level < levels_of table
  pub end : IsEnd table (slot_of table area level) b count
  pub writes : WritesWithin old new b count
  pub safe : (a : ℕ) (word : Parts) → Within b count a → slice_get new.words a ≡ Some word → NamesUsed table word.content
  pub sound : IsTable new_table
