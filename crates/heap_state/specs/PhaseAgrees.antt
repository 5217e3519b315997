-- What the table records of the collection that runs.
use Rattle.std.specs.Prelude.{◌≡◌, ℕ, Some, None}
use Rattle.area_space.specs.Table.{Table, IsOld}
use Rattle.transporter.specs.lisp_meaning.State.{Phase, Idle, Running}

-- no collection runs and no region is old, or the table's collection is the state's
abbrev pub PhaseAgrees : Table → Phase → Type 0
PhaseAgrees t Idle = (t.aim ≡ None) × ((region : ℕ) → IsOld t region → ⊥)
PhaseAgrees t (Running c) = t.aim ≡ Some c.aim.what
