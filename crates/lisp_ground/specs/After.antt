-- What holds after a change of a ground.
use Rattle.std.specs.Prelude.{◌≡◌, ℕ, ◌+◌, ◌<◌, Some}
use Rattle.area_space.specs.mem_port.Store.{Store}
use Rattle.area_space.specs.Table.{Table}
use Rattle.lisp_meaning.specs.State.{Condemned}
use Rattle.lisp_meaning.specs.State as M
use Rattle.lisp_meaning.specs.Roles.{Kind, names_as, RoleMap, Refines}
use Rattle.lisp_meaning.specs.Stands.{standing_old}
use Rattle.lisp_ground.specs.Image.{ground_image}
use Rattle.lisp_ground.specs.GroundInvariant.{GroundInvariant}
use Rattle.lisp_meaning.specs.Interpretation.{Interpretation}

-- the charges of the condemned objects in old regions, on a ground
abbrev pub old_on : Store → Table → M.Store → Condemned → (ℕ → ℕ) → ℕ
old_on memory t s aim at = standing_old (ground_image memory t) s aim at

-- The ground represents these objects by a later map: each reference still has its meaning; references of this kind to the `count` words from b on mean these names; and the charge in old regions has fallen by `moved`.
pub record AfterOn (m : Store) (t : Table) (m' : Store) (t' : Table) (it : Interpretation) (s' : M.Store) (moved : ℕ) (kind : Kind) (b count : ℕ) (name : ℕ → ℕ) : Type 0 where
  pub map : RoleMap
  pub kept : GroundInvariant m' t' (record it { map = map; store = s' })
  pub refines : Refines it.map.role map.role
  pub there : (i : ℕ) → i < count → names_as kind (map.role (b + i)) ≡ Some (name i)
  pub old : old_on m' t' s' it.aim map.at + moved ≡ old_on m t it.store it.aim it.map.at

-- the same by the same map, if no object was moved
pub record AfterStore (m : Store) (t : Table) (m' : Store) (it : Interpretation) (s' : M.Store) : Type 0 where
  pub kept : GroundInvariant m' t (record it { store = s' })
  pub old : old_on m' t s' it.aim it.map.at ≡ old_on m t it.store it.aim it.map.at
