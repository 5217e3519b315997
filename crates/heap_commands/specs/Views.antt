-- What this crate's contracts state about grounds, in terms of their views.
use Rattle.std.specs.Prelude.{List, ℕ}
use Rattle.area_space.specs.Table.{Table}
use Rattle.area_space.specs.View.{GroundView}
use Rattle.heap_commands.specs.declared.blocks.growing.Growing.{Growing}
use Rattle.store_word.specs.Words.{Parts}
use Rattle.heap_commands.specs.Growth as growth
use Rattle.heap_commands.specs.Moves as moves
use Rattle.heap_commands.specs.NewMarks as marks

abbrev pub CanGrowIn : GroundView → List Parts → ℕ → ℕ → Type 0
CanGrowIn v = growth.CanGrowIn v.mem.store v.table

abbrev pub Finds : GroundView → List Parts → GroundView → List Parts → ℕ → ℕ → Growing → Type 0
Finds v a0 v' = growth.Finds v.mem.store v.table a0 v'.mem.store v'.table

abbrev pub MarksGrowth : GroundView → List Parts → GroundView → ℕ → ℕ → Type 0
MarksGrowth v a v' = marks.MarksGrowth v.mem.store v.table a v'.mem.store v'.table

abbrev pub MarksMade : GroundView → GroundView → Parts → ℕ → Type 0
MarksMade v v' = marks.MarksMade v.mem.store v.table v'.mem.store v'.table

abbrev pub MovesOrLays : GroundView → GroundView → Parts → Parts → Type 0
MovesOrLays v v' = moves.MovesOrLays v.mem.store v.table v'.mem.store v'.table

abbrev pub PlacesGrowth : GroundView → List Parts → Table → ℕ → ℕ → Type 0
PlacesGrowth v = growth.PlacesGrowth v.mem.store v.table

abbrev pub WantsGrowth : GroundView → List Parts → ℕ → ℕ → ℕ → ℕ → Type 0
WantsGrowth v = growth.WantsGrowth v.mem.store v.table
