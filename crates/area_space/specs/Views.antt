-- The definitions of this crate on grounds, restated on their views.
use Rattle.area_space.specs.View.{GroundView}
use Rattle.area_space.specs.Ground as ground

abbrev pub IsGround : GroundView → Type 0
IsGround v = ground.IsGround v.mem.store v.table

abbrev pub NamesNoFree : GroundView → Type 0
NamesNoFree v = ground.NamesNoFree v.mem.store v.table

abbrev pub NamesNoOld : GroundView → Type 0
NamesNoOld v = ground.NamesNoOld v.mem.store v.table

-- the words of all old regions are NULL, and their pages have no marks; every other word is unchanged
abbrev pub ClearsOld : GroundView → GroundView → Type 0
ClearsOld v v' = ground.ClearsOld v.mem.store v'.mem.store v.table v.table.regions
