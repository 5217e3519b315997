-- Later maps: what a change of the memory guarantees to the layers above.
use Rattle.std.specs.Prelude.{◌≡◌, ℕ, ◌+◌, ◌≤◌, Some}
use Rattle.lisp_meaning.specs.machine.State.{Store}
use Rattle.lisp_meaning.specs.reading.Image.{Image}
use Rattle.lisp_meaning.specs.reading.Classes.{classes, in_old}
use Rattle.lisp_meaning.specs.invariants.Roles.{AsCons, names_as, RoleMap, Refines}
use Rattle.lisp_meaning.specs.invariants.ChargesIn.{charges_in}
use Rattle.lisp_meaning.specs.invariants.Invariant.{MemoryInvariant}
use Rattle.lisp_meaning.specs.invariants.Interpretation.{Interpretation, by_map}

-- the charge in old regions has fallen by this much
pub record LessOld (g g' : Image) (k k' : RoleMap) (s : Store) (charge : ℕ) : Type 0 where
  pub less : charges_in s k'.at (classes g') in_old + charge ≡ charges_in s k.at (classes g) in_old

-- after the transport of a compact run: a later map, by which its names are at consecutive addresses
pub record RunLater (g g' : Image) (it : Interpretation) (charge to left : ℕ) (name : ℕ → ℕ) : Type 0 where
  pub map : RoleMap
  pub kept : MemoryInvariant g' (by_map it map)
  pub refines : Refines it.map.role map.role
  pub there : (i : ℕ) → i ≤ left → names_as AsCons (map.role (to + i)) ≡ Some (name i)
  pub less_old : LessOld g g' it.map map it.store charge
