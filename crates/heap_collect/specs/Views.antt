-- What this crate's contracts state about grounds, in terms of their views.
use Rattle.std.specs.Prelude.{List}
use Rattle.area_space.specs.View.{GroundView}
use Rattle.heap_state.specs.lisp_meaning.State.{State}
use Rattle.scavenger.specs.Scan.{Scan}
use Rattle.store_word.specs.Words.{Parts}
use Rattle.store_word.specs.declared.space.Space.{Space}
use Rattle.heap_collect.specs.Freeing as freeing
use Rattle.heap_collect.specs.Moments as moments
use Rattle.heap_collect.specs.Silent as silent

abbrev pub FreesAtMost : GroundView → GroundView → Type 0
FreesAtMost v v' = freeing.FreesAtMost v.mem.store v.table v'.mem.store v'.table

abbrev pub HasSettled : GroundView → Scan → List Parts → State → Type 0
HasSettled v = moments.HasSettled v.mem.store v.table

abbrev pub IsDone : GroundView → Type 0
IsDone v = moments.IsDone v.mem.store v.table

abbrev pub IsIdle : GroundView → Scan → Type 0
IsIdle v = moments.IsIdle v.mem.store v.table

abbrev pub RepresentsMachineState : GroundView → Scan → List Parts → Type 0
RepresentsMachineState v = moments.RepresentsMachineState v.mem.store v.table

abbrev pub PreparesTo : GroundView → Scan → List Parts → State → Type 0
PreparesTo v = silent.PreparesTo v.mem.store v.table

abbrev pub StandsForSome : GroundView → Scan → Type 0
StandsForSome v = moments.StandsForSome v.mem.store v.table

abbrev pub StandsIn : GroundView → Scan → Space → Type 0
StandsIn v = silent.StandsIn v.mem.store v.table
