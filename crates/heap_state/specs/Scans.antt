-- How a scan set agrees with the state.
use Rattle.std.specs.Prelude.{◌≡◌, ℕ, ◌+◌, ◌*◌, ◌≤◌, true, false, List, length}
use Rattle.store_word.specs.Words.{Parts}
use Rattle.store_word.specs.declared.sizes.TheConstants.{REGION_PAGES}
use Rattle.mem_port.specs.Store.{Store}
use Rattle.area_space.specs.Table.{Table}
use Rattle.transporter.specs.lisp_meaning.State.{Phase, Idle, Running, Collection}
use Rattle.transporter.specs.lisp_meaning.State as M
use Rattle.transporter.specs.lisp_meaning.Roles.{RoleMap}
use Rattle.transporter.specs.lisp_ground.After.{old_on}
use Rattle.scavenger.specs.Scan.{Scan}
use Rattle.scavenger.specs.Left.{units_of}
use Rattle.scavenger.specs.Collecting.{ScanInvariant}

-- no unit remains to be scanned, and the scan set has the machine's sizes
pub record IsScanless (t : Table) (scan : Scan) (registers : List Parts) : Type 0 where
  pub over : scan.over ≡ true
  pub count : length registers ≡ scan.registers
  pub pages : length scan.pages ≡ REGION_PAGES * t.regions

-- a collection's scan, of which `ahead` more units were scanned than are paid
pub record Sweeps (m : Store) (t : Table) (scan : Scan) (registers : List Parts) (k : RoleMap) (s : M.Store) (c : Collection) (ahead : ℕ) : Type 0 where
  pub clean : ScanInvariant m t scan registers
  pub over : scan.over ≡ c.over
  pub work : c.over ≡ false → c.paid + ahead + (units_of m scan t registers + old_on m t s c.aim k.at) ≤ c.owed

-- no collection runs and no unit remains, or one runs and is swept
abbrev pub Scans : Store → Table → Scan → List Parts → RoleMap → M.Store → Phase → ℕ → Type 0
Scans m t scan registers k s Idle ahead = IsScanless t scan registers
Scans m t scan registers k s (Running c) ahead = Sweeps m t scan registers k s c ahead
