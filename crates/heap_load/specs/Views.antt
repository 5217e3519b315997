-- What this crate's contracts state about grounds, in terms of their views.
use Rattle.std.specs.Prelude.{List, ℕ}
use Rattle.area_space.specs.View.{GroundView}
use Rattle.heap_load.specs.Places.{PlaceView}
use Rattle.lisp_graph.specs.declared.object.Value.{Value}
use Rattle.lisp_graph.specs.declared.world.World.{World}
use Rattle.store_word.specs.Words.{Parts}
use Rattle.heap_load.specs.Loading as loading

abbrev pub RepresentsGroups : GroundView → List Parts → World → Type 0
RepresentsGroups v = loading.RepresentsGroups v.mem.store v.table

abbrev pub RepresentsSome : GroundView → List Parts → World → Type 0
RepresentsSome v = loading.RepresentsSome v.mem.store v.table

abbrev pub RepresentsWorld : GroundView → List Parts → World → Type 0
RepresentsWorld v = loading.RepresentsWorld v.mem.store v.table

abbrev pub Drafted : GroundView → World → List PlaceView → ℕ → Type 0
Drafted v = loading.Drafted v.mem.store v.table

abbrev pub Filled : GroundView → World → List PlaceView → ℕ → Type 0
Filled v = loading.Filled v.mem.store v.table

abbrev pub CarFilled : GroundView → World → List PlaceView → ℕ → Value → Value → Type 0
CarFilled v = loading.CarFilled v.mem.store v.table

abbrev pub HoldsSome : GroundView → World → Type 0
HoldsSome v = loading.HoldsSome v.mem.store v.table
