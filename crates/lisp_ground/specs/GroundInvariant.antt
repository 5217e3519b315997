-- What always holds of a ground that represents objects.
use Rattle.std.specs.Prelude.{◌≡◌, ℕ, ◌/◌, List, Some}
use Rattle.area_space.specs.store_word.declared.sizes.TheConstants.{REGION_WORDS}
use Rattle.area_space.specs.store_word.Words.{address_of}
use Rattle.area_space.specs.store_word.declared.word.Content.{Content}
use Rattle.area_space.specs.lisp_graph.declared.world.AreaRule.{AreaRule}
use Rattle.area_space.specs.mem_port.Store.{Store}
use Rattle.area_space.specs.Table.{Table, IsUnclassed}
use Rattle.area_space.specs.Sound.{IsTable}
use Rattle.area_space.specs.Room.{RoomRule}
use Rattle.area_space.specs.Fresh.{kinds_in, quotas_in}
use Rattle.area_space.specs.Ground.{IsGround, NamesNoFree}
use Rattle.lisp_meaning.specs.Invariant.{MemoryInvariant}
use Rattle.lisp_meaning.specs.Interpretation.{Interpretation}
use Rattle.lisp_ground.specs.Image.{ground_image}

-- the table is one of these areas, with levels up to the greatest
pub record Agrees (t : Table) (top : ℕ) (areas : List AreaRule) : Type 0 where
  pub levels : t.top ≡ top
  pub quotas : t.quotas ≡ quotas_in areas
  pub kinds : t.kinds ≡ kinds_in areas

-- the sizes and the areas are the same
pub record SameForm (old new : Table) : Type 0 where
  pub regions : new.regions ≡ old.regions
  pub top : new.top ≡ old.top
  pub quotas : new.quotas ≡ old.quotas
  pub kinds : new.kinds ≡ old.kinds

-- the ground represents the objects, by a role map; the memory and the table fit each other and have room
pub record GroundInvariant (memory : Store) (t : Table) (it : Interpretation) : Type 0 where
  pub kept : MemoryInvariant (ground_image memory t) it
  pub ground : IsGround memory t
  pub named : NamesNoFree memory t
  pub table : IsTable t
  pub room : RoomRule t
  pub agrees : Agrees t it.top it.areas

-- a word has no address in a free region
abbrev pub NamesUsed : Table → Content → Type 0
NamesUsed t content = (to : ℕ) → address_of content ≡ Some to → IsUnclassed t (to / REGION_WORDS) → ⊥
