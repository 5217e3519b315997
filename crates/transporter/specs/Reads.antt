-- A word of a ground is read, and settled at its place.
use Rattle.std.specs.Prelude.{◌≡◌, ℕ, ◌+◌, ◌-◌, ◌*◌, ◌≤◌, Bool, false}
use Rattle.store_word.specs.declared.sizes.TheConstants.{MAX_OBJECT_WORDS}
use Rattle.area_space.specs.View.{GroundView}
use Rattle.mem_port.specs.Store.{StoresNothing}
use Rattle.transporter.specs.Growth.{Grows}
use Rattle.transporter.specs.Views.{NoOldAddresses, MarksFollow, MovesAtMost, PreservesScanned}

-- nothing was stored, in the same table
abbrev pub StaysWhole : GroundView → GroundView → Type 0
StaysWhole v v' = StoresNothing v.mem.store v'.mem.store × (v'.table ≡ v.table)

-- what holds of the ground after a read, which moves at most one object
pub record KeepsGround (v v' : GroundView) : Type 0 where
  pub table : Grows v.table v'.table
  pub moves : MovesAtMost v v' 1
  pub preserves : PreservesScanned v v'
  pub stays_fresh : NoOldAddresses v → NoOldAddresses v'
  pub marks : MarksFollow v v'

-- What a read costs: at most 2,048 words are placed. It takes `least` memory accesses at most, and 4 for each word placed, and after a swap error at most 1,024 more. (Six parameters: the ground and the count of accesses, each before and after, whether a swap error occurred, and the bound, which each function has of its own.)
pub record ReadCosts (v v' : GroundView) (steps steps' : ℕ) (faulted : Bool) (least : ℕ) : Type 0 where
  pub few : v'.table.placed ≤ v.table.placed + MAX_OBJECT_WORDS
  pub cost : faulted ≡ false → steps' ≤ steps + 4 * (v'.table.placed - v.table.placed) + least
  pub most : steps' ≤ steps + 4 * (v'.table.placed - v.table.placed) + (least + 1024)
