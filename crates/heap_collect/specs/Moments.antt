-- When a machine flips, and when it reclaims.
use Rattle.std.specs.Prelude.{◌≡◌, true, List}
use Rattle.store_word.specs.Words.{Parts}
use Rattle.mem_port.specs.Store.{Store}
use Rattle.area_space.specs.Table.{Table}
use Rattle.heap_state.specs.lisp_meaning.State.{Collection, Idle, Running, State}
use Rattle.heap_state.specs.lisp_meaning.Flip.{Settles}
use Rattle.heap_state.specs.lisp_meaning.Roles.{RoleMap}
use Rattle.scavenger.specs.Scan.{Scan}
use Rattle.heap_state.specs.RepresentsAll.{RepresentsAll}

-- the ground and the scan represent some state, with some register words
pub record StandsForSome (m : Store) (t : Table) (scan : Scan) : Type 0 where
  pub registers : List Parts
  pub map : RoleMap
  pub state : State
  pub represents : RepresentsAll m t scan registers map state

-- the machine represents some state in which no collection runs
pub record IsIdle (m : Store) (t : Table) (scan : Scan) : Type 0 where
  pub registers : List Parts
  pub map : RoleMap
  pub state : State
  pub represents : RepresentsAll m t scan registers map state
  pub idle : state.phase ≡ Idle

-- the machine represents some state in which a collection has finished
pub record IsDone (m : Store) (t : Table) : Type 0 where
  pub scan : Scan
  pub registers : List Parts
  pub map : RoleMap
  pub state : State
  pub collection : Collection
  pub represents : RepresentsAll m t scan registers map state
  pub running : state.phase ≡ Running collection
  pub over : collection.over ≡ true

-- a collection ran, and the machine represents a state that follows its reclaim
pub record HasSettled (m : Store) (t : Table) (scan : Scan) (registers : List Parts) (s : State) : Type 0 where
  pub collection : Collection
  pub running : s.phase ≡ Running collection
  pub next : State
  pub settles : Settles s collection.aim next
  pub map : RoleMap
  pub represents : RepresentsAll m t scan registers map next

-- the machine represents some state
pub record RepresentsMachineState (m : Store) (t : Table) (scan : Scan) (registers : List Parts) : Type 0 where
  pub map : RoleMap
  pub state : State
  pub represents : RepresentsAll m t scan registers map state
