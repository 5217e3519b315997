-- What a place for words changes.
use Rattle.std.specs.Prelude.{◌≡◌, ℕ, ◌<◌, Option, IfSome, IfNone}
use Rattle.area_space.specs.mem_port.Store.{Store}
use Rattle.area_space.specs.Table.{Table, slot_of, live, IsUnclassed}
use Rattle.area_space.specs.Sound.{IsTable}
use Rattle.area_space.specs.Places.{opened}
use Rattle.area_space.specs.Ground.{IsGround, NamesNoFree, with_level}

-- nothing has changed, or the free region with the lowest number was opened for the live class of an area and a level. (Seven parameters: memory and table, each before and after, and the region, the area and the level, which vary independently.)
pub record Opens (old : Store) (table : Table) (new : Store) (new_table : Table) (region : Option ℕ) (area level : ℕ) : Type 0 where
  pub same : IfNone region (new_table ≡ table)
  pub behind : IfNone region (new ≡ old)
  pub chain : IfSome region (λ r. new_table ≡ opened table (live (slot_of table area level)) r)
  pub region_level : IfSome region (λ r. new ≡ with_level old r level)
  pub free : IfSome region (IsUnclassed table)
  pub lowest : IfSome region (λ r. (other : ℕ) → other < r → IsUnclassed table other → ⊥)
  pub ground : IsGround new new_table
  pub named : NamesNoFree new new_table
  pub sound : IsTable new_table
