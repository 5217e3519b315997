-- What holds after a change of the memory.
use Rattle.std.specs.Prelude.{◌≡◌, ℕ, ◌+◌, ◌<◌, Some}
use Rattle.lisp_meaning.specs.machine.State.{Store}
use Rattle.lisp_meaning.specs.reading.Image.{Image}
use Rattle.lisp_meaning.specs.invariants.Roles.{Kind, names_as, RoleMap, Refines}
use Rattle.lisp_meaning.specs.reading.Stands.{standing_old}
use Rattle.lisp_meaning.specs.invariants.Invariant.{MemoryInvariant}
use Rattle.lisp_meaning.specs.invariants.Interpretation.{Interpretation}

-- The invariant, by a later map: each reference still has its meaning; references of this kind to the `count` words from b on mean these names; and the charge in old regions has fallen by `moved`.
pub record After (g g' : Image) (it : Interpretation) (s' : Store) (moved : ℕ) (kind : Kind) (b count : ℕ) (name : ℕ → ℕ) : Type 0 where
  pub map : RoleMap
  pub kept : MemoryInvariant g' (record it { map = map; store = s' })
  pub refines : Refines it.map.role map.role
  pub there : (i : ℕ) → i < count → names_as kind (map.role (b + i)) ≡ Some (name i)
  pub old : standing_old g' s' it.aim map.at + moved ≡ standing_old g it.store it.aim it.map.at

-- the same by the same map, if no object was moved
pub record AfterWord (g g' : Image) (it : Interpretation) (s' : Store) : Type 0 where
  pub kept : MemoryInvariant g' (record it { store = s' })
  pub old : standing_old g' s' it.aim it.map.at ≡ standing_old g it.store it.aim it.map.at
