-- What this crate's contracts state about grounds, in terms of their views.
use Rattle.std.specs.Prelude.{◌≡◌, ◌*◌, Bool, List, Option, length, ℕ}
use Rattle.area_space.specs.View.{GroundView}
use Rattle.lisp_graph.specs.declared.command.Condemn.{Condemn}
use Rattle.scavenger.specs.Scan.{Scan}
use Rattle.scavenger.specs.declared.scan_set.Progress.{Progress}
use Rattle.scavenger.specs.declared.scan_set.Unit.{Unit as ScanUnit}
use Rattle.store_word.specs.Words.{Parts}
use Rattle.store_word.specs.declared.sizes.TheConstants.{REGION_WORDS}
use Rattle.scavenger.specs.Collecting as collecting
use Rattle.scavenger.specs.Left as left
use Rattle.scavenger.specs.Moves as moves
use Rattle.scavenger.specs.Scanning as scanning
use Rattle.scavenger.specs.Starting as starting
use Rattle.scavenger.specs.Sweeping as sweeping

abbrev pub Begins : GroundView → Condemn → Scan → Scan → Type 0
Begins v = starting.Begins v.mem.store v.table

abbrev pub ScanInvariant : GroundView → Scan → List Parts → Type 0
ScanInvariant v = collecting.ScanInvariant v.mem.store v.table

abbrev pub EndsPage : GroundView → Scan → GroundView → ℕ → Type 0
EndsPage v scan v' = scanning.EndsPage v.mem.store v.table scan v'.mem.store v'.table

abbrev pub IsCollecting : GroundView → Scan → List Parts → Type 0
IsCollecting v = collecting.IsCollecting v.mem.store v.table

-- the memory has the words of the table's regions
abbrev pub IsSized : GroundView → Type 0
IsSized v = length v.mem.store.words ≡ REGION_WORDS * v.table.regions

abbrev pub Remains : GroundView → Scan → List Parts → GroundView → Scan → List Parts → Type 0
Remains v scan registers v' = scanning.Remains v.mem.store v.table scan registers v'.mem.store v'.table

abbrev pub ScanPreserves : GroundView → GroundView → Type 0
ScanPreserves v v' = scanning.ScanPreserves v.mem.store v.table v'.mem.store v'.table

abbrev pub Scans : GroundView → Scan → List Parts → GroundView → Scan → List Parts → Progress → Type 0
Scans v scan registers v' = scanning.Scans v.mem.store v.table scan registers v'.mem.store v'.table

abbrev pub ScansRegister : GroundView → Scan → List Parts → GroundView → Scan → List Parts → ℕ → Type 0
ScansRegister v scan registers v' = scanning.ScansRegister v.mem.store v.table scan registers v'.mem.store v'.table

abbrev pub ScansToFault : GroundView → Scan → List Parts → GroundView → Scan → List Parts → ℕ → Type 0
ScansToFault v scan registers v' = sweeping.ScansToFault v.mem.store v.table scan registers v'.mem.store v'.table

abbrev pub ScansUpTo : GroundView → Scan → List Parts → GroundView → Scan → List Parts → ℕ → Type 0
ScansUpTo v scan registers v' = sweeping.ScansUpTo v.mem.store v.table scan registers v'.mem.store v'.table

abbrev pub ScansWord : GroundView → Scan → List Parts → GroundView → Scan → List Parts → ℕ → Type 0
ScansWord v scan registers v' = scanning.ScansWord v.mem.store v.table scan registers v'.mem.store v'.table

abbrev pub StillCollects : GroundView → Scan → List Parts → GroundView → Scan → List Parts → ℕ → Type 0
StillCollects v a0 a1 v' = scanning.StillCollects v.mem.store v.table a0 a1 v'.mem.store v'.table

abbrev pub UnitMoves : GroundView → Scan → List Parts → GroundView → List Parts → Option ScanUnit → Type 0
UnitMoves v scan registers v' = moves.UnitMoves v.mem.store v.table scan registers v'.mem.store v'.table

abbrev pub WordMoves : GroundView → Scan → GroundView → ℕ → Type 0
WordMoves v scan v' = moves.WordMoves v.mem.store v.table scan v'.mem.store v'.table

abbrev pub base_pages : GroundView → Condemn → ℕ
base_pages v = starting.base_pages v.mem.store v.table

abbrev pub is_base : GroundView → Condemn → ℕ → Bool
is_base v = starting.is_base v.mem.store v.table

abbrev pub units_of : GroundView → Scan → List Parts → ℕ
units_of v scan = left.units_of v.mem.store scan v.table
