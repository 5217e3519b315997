-- The objects that a ground represents before and after a transport.
use Rattle.std.specs.Prelude.{◌≡◌, ℕ, ◌+◌, ◌/◌, ◌≤◌, List, Some}
use Rattle.store_word.specs.declared.sizes.TheConstants.{REGION_WORDS}
use Rattle.area_space.specs.lisp_graph.declared.object.Value.{Value}
use Rattle.mem_port.specs.Store.{Store, StoresNothing}
use Rattle.area_space.specs.Table.{Table, IsLive, IsOld}
use Rattle.obj_layout.specs.Forwards.{Final, IsFinal}
use Rattle.lisp_ground.specs.lisp_meaning.Roles.{Kind, RoleMap, Refines, names_as}
use Rattle.lisp_ground.specs.lisp_meaning.Transport.{Survives}
use Rattle.lisp_ground.specs.GroundInvariant.{GroundInvariant}
use Rattle.lisp_ground.specs.lisp_meaning.Interpretation.{Interpretation, by_map}
use Rattle.lisp_ground.specs.After.{old_on}
use Rattle.transporter.specs.declared.parcel.Parcel.{Parcel}
use Rattle.transporter.specs.Parcels.{IsParcel}
use Rattle.transporter.specs.Relocations.{Relocates}

-- a reference to an address is one to an object that the running collection keeps. (Seven parameters: memory and table with what they represent, the values of the registers, and a reference with its object.)
pub record CanTransport (m : Store) (t : Table) (it : Interpretation) (registers : List Value) (kind : Kind) (at n : ℕ) : Type 0 where
  pub kept : GroundInvariant m t it
  pub survives : Survives it registers kind at n
  pub running : t.aim ≡ Some it.aim.what

-- by some map, for some objects
pub record IsTransportable (m : Store) (t : Table) (at : ℕ) : Type 0 where
  pub it : Interpretation
  pub registers : List Value
  pub kind : Kind
  pub name : ℕ
  pub can : CanTransport m t it registers kind at name

-- The ground represents the same objects by a later map: each reference still has its meaning. The charge of condemned objects in old regions has fallen by at least the number of words placed.
pub record RepresentedByLaterMap (m : Store) (t : Table) (m' : Store) (t' : Table) (it : Interpretation) : Type 0 where
  pub map : RoleMap
  pub kept : GroundInvariant m' t' (by_map it map)
  pub refines : Refines it.map.role map.role
  pub work : t'.placed + old_on m' t' it.store it.aim map.at ≤ t.placed + old_on m t it.store it.aim it.map.at

-- the same, and a reference to an address means an object, which is there, live. (Eight parameters: memory and table, each before and after, what they represent, and a reference with its object.)
pub record ReachesOn (m : Store) (t : Table) (m' : Store) (t' : Table) (it : Interpretation) (kind : Kind) (to n : ℕ) : Type 0 where
  pub later : RepresentedByLaterMap m t m' t' it
  pub named : names_as kind (later.map.role to) ≡ Some n
  pub live : IsLive t' (to / REGION_WORDS)
  pub final : IsFinal m'.words to

-- whatever objects the ground represented: if a reference to the first address means one that the running collection keeps, a reference to the second address now means it. (Six parameters: memory, table and address, each before and after.)
abbrev pub ReachesAlways : Store → Table → Store → Table → ℕ → ℕ → Type 0
ReachesAlways m t m' t' at to = (it : Interpretation) (registers : List Value) (kind : Kind) (n : ℕ) → CanTransport m t it registers kind at n → ReachesOn m t m' t' it kind to n

-- The words of a transport: it returns a final address that isn't old, or moves the parcel at an old one. (Six parameters: memory, table and address, each before and after.)
pub data MovesFrom (m : Store) (t : Table) (m' : Store) (t' : Table) (at to : ℕ) : Type 0 where
  there : Final m.words at to → (IsOld t (to / REGION_WORDS) → ⊥) → StoresNothing m m' → t' ≡ t → MovesFrom m t m' t' at to
  moved : (here : ℕ) (p : Parcel) (read : Store) → Final m.words at here → IsOld t (here / REGION_WORDS) → IsParcel m.words here p → StoresNothing m read → Relocates read t m' t' p to → MovesFrom m t m' t' at to

-- No word changes, and the ground represents whatever it did
pub record WordsUnchanged (m : Store) (t : Table) (m' : Store) (t' : Table) : Type 0 where
  pub words : m'.words ≡ m.words
  pub placed : t'.placed ≡ t.placed
  pub kept : (it : Interpretation) → GroundInvariant m t it → GroundInvariant m' t' it
  pub old : (it : Interpretation) → GroundInvariant m t it → old_on m' t' it.store it.aim it.map.at ≡ old_on m t it.store it.aim it.map.at
