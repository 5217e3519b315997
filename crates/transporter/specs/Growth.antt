-- How a table changes by a transport.
use Rattle.std.specs.Prelude.{◌≡◌, ◌⊎◌, ℕ, ◌<◌, ◌≤◌}
use Rattle.store_word.specs.declared.sizes.TheConstants.{MAX_OBJECT_WORDS}
use Rattle.area_space.specs.Table.{Table, areas_of, levels_of, slot_of, live, IsUnclassed}
use Rattle.area_space.specs.Places.{IsEnd, opened}
use Rattle.transporter.specs.Relocations.{Commits}

-- the free region with the lowest number is opened for a live class
pub record OpensRegion (t t' : Table) : Type 0 where
  pub area : ℕ
  pub level : ℕ
  pub area_in : area < areas_of t
  pub level_in : level < levels_of t
  pub region : ℕ
  pub free : IsUnclassed t region
  pub lowest : (other : ℕ) → other < region → IsUnclassed t other → ⊥
  pub table : t' ≡ opened t (live (slot_of t area level)) region

abbrev pub OpensOrStays : Table → Table → Type 0
OpensOrStays t t' = (t' ≡ t) ⊎ OpensRegion t t'

-- words are placed at the used end of a live class, and are to be scanned
pub record PlacesWords (t t' : Table) : Type 0 where
  pub room : Table
  pub opens : OpensOrStays t room
  pub area : ℕ
  pub from : ℕ
  pub level : ℕ
  pub to : ℕ
  pub words : ℕ
  pub charge : ℕ
  pub some : 1 ≤ words
  pub few : words ≤ MAX_OBJECT_WORDS
  pub end : IsEnd room (slot_of room area level) to words
  pub commits : Commits room t' area from level to words charge

-- one transport at most
abbrev pub Grows : Table → Table → Type 0
Grows t t' = OpensOrStays t t' ⊎ PlacesWords t t'
