-- The definitions of this crate on grounds, stated for their views.
use Rattle.std.specs.Prelude.{ℕ}
use Rattle.area_space.specs.View.{GroundView}
use Rattle.area_space.specs.declared.classes.Origin.{Origin}
use Rattle.store_word.specs.Words.{Parts}
use Rattle.test_ground.specs.Trials as trials
use Rattle.test_ground.specs.Written as written

abbrev pub IsOpen : GroundView → Parts → Parts → Type 0
IsOpen v = trials.IsOpen v.mem.store v.table

abbrev pub IsRunning : GroundView → Parts → Parts → Type 0
IsRunning v = trials.IsRunning v.mem.store v.table

abbrev pub Reserves : GroundView → GroundView → ℕ → ℕ → ℕ → Origin → Type 0
Reserves v v' = written.Reserves v.mem.store v.table v'.mem.store v'.table
