-- What holds of all scans.
use Rattle.std.specs.Prelude.{◌≡◌, ℕ, ◌+◌, ◌*◌, ◌/◌, ◌%◌, ◌<◌, ◌≤◌, true, false, List, length, slice_index, Option, Some, None}
use Rattle.store_word.specs.Words.{Parts}
use Rattle.store_word.specs.declared.sizes.TheConstants.{PAGE_WORDS, REGION_PAGES}
use Rattle.mem_port.specs.Store.{Store}
use Rattle.area_space.specs.Table.{Table}
use Rattle.area_space.specs.Sound.{IsTable}
use Rattle.area_space.specs.Ground.{IsGround}
use Rattle.transporter.specs.lisp_meaning.Units.{ScanUnit, InRegister, InWord, next_unit}
use Rattle.transporter.specs.lisp_ground.Image.{image_of}
use Rattle.transporter.specs.Preserving.{NoOldAddresses, PreservesScanned, RegistersPreserved}
use Rattle.scavenger.specs.declared.scan_set.Unit.{Unit as Left}
use Rattle.scavenger.specs.declared.scan_set.Unit.TheVariants.{Register, Word}
use Rattle.scavenger.specs.declared.scan_set.Progress.TheVariants.{Scanned}
use Rattle.scavenger.specs.Scan.{Scan}
use Rattle.scavenger.specs.Left.{next_of, rest_of, units_of}
use Rattle.scavenger.specs.Collecting.{ScanInvariant}
use Rattle.scavenger.specs.Scanning.{Scans}
use Rattle.scavenger.specs.Sweeping.{ScansMany}

-- a scan stays clean over a call that preserves the ground, if no register and no scanned word gets an old address
abbrev pub CleanStays : Type 0
CleanStays = (m m' : Store) (t t' : Table) (scan : Scan) (registers registers' : List Parts)
    → IsTable t → IsGround m t → IsTable t' → IsGround m' t' → ScanInvariant m t scan registers → PreservesScanned m t m' t' → RegistersPreserved t' registers registers'
    → (scan.over ≡ true → NoOldAddresses m' t') → ScanInvariant m' t' scan registers'

-- the number of units that remain grows by at most the number of words placed
abbrev pub UnitsStay : Type 0
UnitsStay = (m m' : Store) (t t' : Table) (scan : Scan) (registers registers' : List Parts)
    → IsTable t → IsGround m t → IsTable t' → IsGround m' t' → ScanInvariant m t scan registers → PreservesScanned m t m' t' → length registers' ≡ length registers
    → units_of m' scan t' registers' + t.placed ≤ units_of m scan t registers + t'.placed

-- and while the scan hasn't finished, by that number
abbrev pub UnitsCome : Type 0
UnitsCome = (m m' : Store) (t t' : Table) (scan : Scan) (registers registers' : List Parts)
    → IsTable t → IsGround m t → IsTable t' → IsGround m' t' → ScanInvariant m t scan registers → PreservesScanned m t m' t' → length registers' ≡ length registers
    → scan.over ≡ false → units_of m' scan t' registers' + t.placed ≡ units_of m scan t registers + t'.placed

-- The next unit

-- a unit as the definition of collections has it
abbrev pub meant : Option Left → Option ScanUnit
meant None = None
meant (Some (Register r)) = Some (InRegister r)
meant (Some (Word a)) = Some (InWord a)

-- the next unit is that of the definition of collections
abbrev pub NextIsDefined : Type 0
NextIsDefined = (m : Store) (t : Table) (scan : Scan) (registers : List Parts) → IsGround m t → ScanInvariant m t scan registers
    → meant (next_of scan t) ≡ next_unit (image_of m t (rest_of scan t registers))

-- Each unit once

-- the scan is past the unit: the register is scanned, or the word is one of the first of its page that are scanned or aren't units
abbrev pub IsPast : Scan → Left → Type 0
IsPast s (Register r) = r < s.scanned
IsPast s (Word a) = a % PAGE_WORDS < slice_index s.pages (a / PAGE_WORDS)

-- a scan isn't past the unit that it scans, then it is; and it stays past a unit when others are scanned
pub record ScansOnce : Type 0 where
  pub scanned : (m m' : Store) (t t' : Table) (scan scan' : Scan) (registers registers' : List Parts) → length scan.pages ≡ REGION_PAGES * t.regions → Scans m t scan registers m' t' scan' registers' Scanned
      → (unit : Left) × (next_of scan t ≡ Some unit) × (IsPast scan unit → ⊥) × IsPast scan' unit
  pub past : (m m' : Store) (t t' : Table) (scan scan' : Scan) (registers registers' : List Parts) (count : ℕ) (unit : Left) → ScansMany m t scan registers m' t' scan' registers' count → IsPast scan unit → IsPast scan' unit
