-- Which words move by a scan.
use Rattle.std.specs.Prelude.{◌≡◌, ℕ, zero, suc, ◌/◌, List, get_or, Option, Some, None}
use Rattle.store_word.specs.Words.{Parts, null_word}
use Rattle.store_word.specs.declared.sizes.TheConstants.{PAGE_WORDS}
use Rattle.mem_port.specs.Store.{Store}
use Rattle.area_space.specs.Table.{Table}
use Rattle.transporter.specs.Moving.{MovesFor, FetchMoves}
use Rattle.scavenger.specs.declared.scan_set.Unit.{Unit as ScanUnit}
use Rattle.scavenger.specs.declared.scan_set.Unit.TheVariants.{Register, Word}
use Rattle.scavenger.specs.declared.scan_set.Progress.TheVariants.{Scanned}
use Rattle.scavenger.specs.Scan.{Scan}
use Rattle.scavenger.specs.Left.{next_of}
use Rattle.scavenger.specs.Scanning.{EndsPage, word_done, Scans}

-- the word at an address is fetched, and then its page ends, if no word of it remains
pub record WordMoves (m : Store) (t : Table) (scan : Scan) (m' : Store) (t' : Table) (a : ℕ) : Type 0 where
  pub memory : Store
  pub table : Table
  pub fetched : FetchMoves m t memory table a
  pub ends : EndsPage memory table (word_done scan a) m' t' (a / PAGE_WORDS)

-- the words that the scan of a unit moves: those that the settling of its own word moves, and none if that has no old address. (Eight parameters: memory, table and registers, each before and after, the scan, and the unit, by whose cases this is defined.)
abbrev pub UnitMoves : Store → Table → Scan → List Parts → Store → Table → List Parts → Option ScanUnit → Type 0
UnitMoves m t scan registers m' t' registers' (Some (Register r)) = MovesFor m t m' t' (get_or registers r null_word) (get_or registers' r null_word)
UnitMoves m t scan registers m' t' registers' (Some (Word a)) = WordMoves m t scan m' t' a
UnitMoves m t scan registers m' t' registers' None = (m' ≡ m) × (t' ≡ t)

-- this number of units was scanned one after another, and for each of them the words of that unit moved
pub data MovesEach (m : Store) (t : Table) (scan : Scan) (registers : List Parts) : Store → Table → Scan → List Parts → ℕ → Type 0 where
  none_moved : MovesEach m t scan registers m t scan registers zero
  one_moved : (m1 m' : Store) (t1 t' : Table) (s1 s' : Scan) (r1 r' : List Parts) (n : ℕ)
      → MovesEach m t scan registers m1 t1 s1 r1 n → Scans m1 t1 s1 r1 m' t' s' r' Scanned → UnitMoves m1 t1 s1 r1 m' t' r' (next_of s1 t1) → MovesEach m t scan registers m' t' s' r' (suc n)
