-- A place of a ground, as what is opened for it and when.
use Rattle.std.specs.Prelude.{◌≡◌, ℕ, ◌+◌, ◌<◌, Option, Some, IfSome, IfNone}
use Rattle.area_space.specs.index_lists.Chains.{last_of}
use Rattle.mem_port.specs.Store.{Store}
use Rattle.area_space.specs.Table.{Table, slot_of, live, chain, used_of, IsUnclassed}
use Rattle.area_space.specs.Places.{IsEnd, opened}
use Rattle.area_space.specs.Sound.{IsTable}
use Rattle.area_space.specs.Ground.{IsGround, NamesNoFree, with_level}
use Rattle.transporter.specs.lisp_ground.Placing.{Opens}
use Rattle.transporter.specs.Relocations.{OpensIfFull}

pub record IsPlace (m : Store) (t : Table) (m1 : Store) (t1 : Table) (area level words at : ℕ) (region : Option ℕ) : Type 0 where
  pub opens : Opens m t m1 t1 region area level
  pub end : IsEnd t1 (slot_of t area level) at words
  pub needed : OpensIfFull t (slot_of t area level) words region

-- what `place` promises makes a place
pub is_place : (m : Store) (t : Table) (area level words : ℕ) (region : Option ℕ) {m1 : Store} {t1 : Table} {at : ℕ}
    → IsEnd t1 (slot_of t area level) at words
    → IfNone region (t1 ≡ t) → IfNone region (m1 ≡ m)
    → IfSome region (λ r. t1 ≡ opened t (live (slot_of t area level)) r)
    → IfSome region (λ r. m1 ≡ with_level m r level)
    → IfSome region (λ r. (last : ℕ) → last_of (chain t (live (slot_of t area level))) ≡ Some last → 4096 < used_of t last + words)
    → IfSome region (λ r. IsUnclassed t r)
    → IfSome region (λ r. (other : ℕ) → other < r → IsUnclassed t other → ⊥)
    → IsTable t1 → IsGround m1 t1 → NamesNoFree m1 t1 → IsPlace m t m1 t1 area level words at region
is_place m t area level words region end same behind table region_level full free lowest sound ground named = record {
  opens = record { same = same; behind = behind; chain = table; region_level = region_level; free = free; lowest = lowest; ground = ground; named = named; sound = sound };
  end = end;
  needed = record { full = full; lowest = lowest };
}
