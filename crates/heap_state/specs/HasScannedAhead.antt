-- A scan before an allocation.
use Rattle.std.specs.Prelude.{◌≡◌, ℕ, ◌+◌, ◌≤◌, true, false, List}
use Rattle.store_word.specs.Words.{Parts}
use Rattle.mem_port.specs.Store.{Store}
use Rattle.area_space.specs.Table.{Table}
use Rattle.transporter.specs.lisp_meaning.State.{Phase, Idle, Running, Collection, State}
use Rattle.transporter.specs.lisp_meaning.State as M
use Rattle.transporter.specs.lisp_meaning.Roles.{RoleMap}
use Rattle.transporter.specs.lisp_ground.After.{old_on}
use Rattle.scavenger.specs.Scan.{Scan}
use Rattle.scavenger.specs.Left.{units_of}
use Rattle.scavenger.specs.Collecting.{ScanInvariant}
use Rattle.heap_state.specs.RepresentsLater.{RepresentsLater}
use Rattle.heap_state.specs.Scans.{IsScanless}

-- a collection's scan, of which `ahead` more units were scanned than are paid, or all that remained
pub record SweepsAhead (m : Store) (t : Table) (scan : Scan) (registers : List Parts) (k : RoleMap) (s : M.Store) (c : Collection) (ahead : ℕ) : Type 0 where
  pub clean : ScanInvariant m t scan registers
  pub over : c.over ≡ true → scan.over ≡ true
  pub work : scan.over ≡ false → c.paid + ahead + (units_of m scan t registers + old_on m t s c.aim k.at) ≤ c.owed

-- no collection runs and no unit remains, or one runs and is swept so far
abbrev pub ScansAhead : Store → Table → Scan → List Parts → RoleMap → M.Store → Phase → ℕ → Type 0
ScansAhead m t scan registers k s Idle ahead = IsScanless t scan registers
ScansAhead m t scan registers k s (Running c) ahead = SweepsAhead m t scan registers k s c ahead

-- the same state is represented, and `ahead` more units were scanned than are paid
pub record HasScannedAhead (m : Store) (t : Table) (m' : Store) (t' : Table) (scan' : Scan) (registers' : List Parts) (k : RoleMap) (s : State) (ahead : ℕ) : Type 0 where
  pub represented : RepresentsLater m t m' t' registers' k s s 0
  pub scans : ScansAhead m' t' scan' registers' represented.map s.store s.phase ahead
