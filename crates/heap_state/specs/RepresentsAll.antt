-- What a machine represents between two commands.
use Rattle.std.specs.Prelude.{List}
use Rattle.store_word.specs.Words.{Parts}
use Rattle.mem_port.specs.Store.{Store, MarksHold}
use Rattle.area_space.specs.Table.{Table}
use Rattle.transporter.specs.lisp_meaning.State.{State}
use Rattle.transporter.specs.lisp_meaning.Roles.{RoleMap}
use Rattle.transporter.specs.lisp_meaning.Sound.{Reach}
use Rattle.scavenger.specs.Scan.{Scan}
use Rattle.heap_state.specs.Represents.{Represents}
use Rattle.heap_state.specs.Scans.{Scans}

-- the ground and the registers represent the state, by a map, and so does the scan; a collection keeps what the registers lead to, and the pages have their marks. (Six parameters: memory, table, scan and registers, of which many commands change only some, and the map and the state that they represent.)
pub record RepresentsAll (m : Store) (t : Table) (scan : Scan) (registers : List Parts) (k : RoleMap) (s : State) : Type 0 where
  pub represents : Represents m t registers k s
  pub scans : Scans m t scan registers k s.store s.phase 0
  pub reach : Reach s s.phase
  pub marks : MarksHold m
