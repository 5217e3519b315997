-- The definitions of this crate on grounds, restated on their views.
use Rattle.std.specs.Prelude.{Option, ℕ}
use Rattle.area_space.specs.View.{GroundView}
use Rattle.lisp_ground.specs.Placing as placing

abbrev pub Opens : GroundView → GroundView → Option ℕ → ℕ → ℕ → Type 0
Opens v v' = placing.Opens v.mem.store v.table v'.mem.store v'.table
