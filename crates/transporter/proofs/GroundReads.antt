-- What holds of a ground after a read, and what the read costs.
use Rattle.std.proofs.Common.{ℕ, ◌≡◌, ◌+◌, ◌-◌, ◌*◌, ◌≤◌, Bool, false, inl, refl, arith}
use Rattle.area_space.specs.Table.{Table}
use Rattle.area_space.specs.View.{GroundView}
use Rattle.mem_port.specs.Store.{Store, StoresNothing}
use Rattle.mem_port.specs.View.{MemoryView}
use Rattle.transporter.specs.Growth.{Grows}
use Rattle.transporter.specs.Reads.{KeepsGround, ReadCosts}
use Rattle.transporter.specs.Marking as marking
use Rattle.transporter.specs.Moving as moving
use Rattle.transporter.specs.Preserving as preserving
use Rattle.transporter.proofs.PageMarks.{marks-read, marks-then}
use Rattle.transporter.proofs.TransportSequences.{moves-after_read, read-once}
use Rattle.transporter.proofs.ScannedWords.{preserves-then, read-preserves, read-stays_fresh}

-- nothing is stored
pub read-keeps : (m m' : MemoryView) (t : Table) → StoresNothing m.store m'.store → KeepsGround (record { mem = m; table = t }) (record { mem = m'; table = t })
read-keeps m m' t stays =
    record { table = inl (inl refl); moves = read-once t stays; preserves = read-preserves t stays; stays_fresh = read-stays_fresh t stays; marks = marks-read t stays }

-- words are read, and then one is fetched
pub fetched-keeps : (m m' : MemoryView) {mid : Store} (t t' : Table) → StoresNothing m.store mid → Grows t t' → moving.MovesAtMost mid t m'.store t' 1 → preserving.PreservesScanned mid t m'.store t' → marking.MarksFollow mid t m'.store t'
    → (preserving.NoOldAddresses m.store t → preserving.NoOldAddresses m'.store t') → KeepsGround (record { mem = m; table = t }) (record { mem = m'; table = t' })
fetched-keeps m m' t t' stays grows moves preserves marks fresh =
    record { table = grows; moves = moves-after_read stays moves; preserves = preserves-then (read-preserves t stays) preserves; stays_fresh = fresh; marks = marks-then (marks-read t stays) marks }

-- so few steps cost no more
pub read-costs : (v v' : GroundView) (steps steps' : ℕ) (faulted : Bool) (least : ℕ) → v'.table.placed ≡ v.table.placed → steps' ≤ steps + least → ReadCosts v v' steps steps' faulted least
read-costs v v' steps steps' faulted least same few = record { few = omega arith; cost = λ calm. omega arith; most = omega arith }

-- a word is fetched after so few
pub fetched-costs : (v v' : GroundView) (steps mid steps' : ℕ) (faulted : Bool) (least : ℕ) → mid + 47 ≤ steps + least → v'.table.placed ≤ v.table.placed + 2048
    → (faulted ≡ false → steps' ≤ mid + 4 * (v'.table.placed - v.table.placed) + 45) → steps' ≤ mid + 4 * (v'.table.placed - v.table.placed) + 1071 → ReadCosts v v' steps steps' faulted least
fetched-costs v v' steps mid steps' faulted least before few calm most = record { few = few; cost = λ is. (let x = calm is in omega arith); most = omega arith }
