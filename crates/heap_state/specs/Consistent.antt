-- What a caller must ensure of a ground and its registers.
use Rattle.std.specs.Prelude.{◌<◌, List, length}
use Rattle.store_word.specs.Words.{Parts}
use Rattle.mem_port.specs.Store.{Store}
use Rattle.area_space.specs.Table.{Table}
use Rattle.transporter.specs.lisp_meaning.State.{State}
use Rattle.transporter.specs.lisp_meaning.Roles.{RoleMap}
use Rattle.transporter.specs.lisp_meaning.Sound.{Reach}
use Rattle.heap_state.specs.Represents.{Represents}

-- they represent some state, in which a collection keeps what the registers lead to, and which has an area
pub record RepresentsState (m : Store) (t : Table) (registers : List Parts) : Type 0 where
  pub map : RoleMap
  pub state : State
  pub represents : Represents m t registers map state
  pub reach : Reach state state.phase
  pub some : 0 < length state.areas
