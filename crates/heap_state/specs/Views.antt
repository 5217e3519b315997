-- What this crate's contracts state about grounds, in terms of their views.
use Rattle.std.specs.Prelude.{List, ℕ}
use Rattle.area_space.specs.View.{GroundView}
use Rattle.lisp_graph.specs.declared.command.Command.{Command}
use Rattle.lisp_graph.specs.declared.reply.Reply.{Reply}
use Rattle.scavenger.specs.Scan.{Scan}
use Rattle.store_word.specs.Words.{Parts}
use Rattle.transporter.specs.lisp_meaning.Roles.{RoleMap}
use Rattle.transporter.specs.lisp_meaning.State.{State}
use Rattle.heap_state.specs.HasScannedAhead as ahead
use Rattle.heap_state.specs.Consistent as consistent
use Rattle.heap_state.specs.RepresentsAll as represents_all
use Rattle.heap_state.specs.RepresentsLater as represented
use Rattle.heap_state.specs.Performs as performs
use Rattle.heap_state.specs.StepsTo as steps_to

abbrev pub HasScannedAhead : GroundView → GroundView → Scan → List Parts → RoleMap → State → ℕ → Type 0
HasScannedAhead v v' = ahead.HasScannedAhead v.mem.store v.table v'.mem.store v'.table

abbrev pub RepresentsAll : GroundView → Scan → List Parts → RoleMap → State → Type 0
RepresentsAll v = represents_all.RepresentsAll v.mem.store v.table

abbrev pub RepresentsSame : GroundView → List Parts → GroundView → List Parts → Type 0
RepresentsSame v a0 v' = represented.RepresentsSame v.mem.store v.table a0 v'.mem.store v'.table

abbrev pub RepresentsState : GroundView → List Parts → Type 0
RepresentsState v = consistent.RepresentsState v.mem.store v.table

abbrev pub Performs : GroundView → List Parts → GroundView → List Parts → Command → Reply → Type 0
Performs v registers v' = performs.Performs v.mem.store v.table registers v'.mem.store v'.table

abbrev pub PerformsAt : GroundView → List Parts → GroundView → List Parts → Command → Reply → ℕ → ℕ → Type 0
PerformsAt v a0 v' = performs.PerformsAt v.mem.store v.table a0 v'.mem.store v'.table

abbrev pub StepsTo : GroundView → Scan → List Parts → State → Command → Reply → Type 0
StepsTo v = steps_to.StepsTo v.mem.store v.table
