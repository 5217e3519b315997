-- Flips and reclaims on a ground.
use Rattle.std.specs.Prelude.{◌≡◌, ℕ, ◌+◌, ◌*◌, ◌≤◌, true, false}
use Rattle.area_space.specs.store_word.declared.sizes.TheConstants.{PAGE_WORDS}
use Rattle.area_space.specs.lisp_graph.declared.command.Condemn.{Condemn}
use Rattle.area_space.specs.mem_port.Store.{Store, MarksHold}
use Rattle.area_space.specs.Table.{Table}
use Rattle.area_space.specs.Flips.{Condemns}
use Rattle.area_space.specs.Frees.{Frees}
use Rattle.area_space.specs.Sound.{IsTable}
use Rattle.area_space.specs.Ground.{IsGround, NamesNoFree, NamesNoOld, ClearsOld}
use Rattle.lisp_meaning.specs.State.{Collection, Idle, Running, State}
use Rattle.lisp_meaning.specs.Flip.{flipped, Settles}
use Rattle.lisp_meaning.specs.Roles.{RoleMap}
use Rattle.lisp_meaning.specs.Units.{units_left}
use Rattle.lisp_meaning.specs.Stands.{IsScanned}
use Rattle.lisp_meaning.specs.Invariant.{MachineInvariant}
use Rattle.lisp_ground.specs.Image.{Rest, image_of}
use Rattle.lisp_ground.specs.GroundInvariant.{GroundInvariant}
use Rattle.lisp_meaning.specs.Interpretation.{interpretation}

-- a machine with this memory, this table and this rest represents the state, and its ground the state's objects
pub record StandsOn (m : Store) (t : Table) (rest : Rest) (k : RoleMap) (s : State) : Type 0 where
  pub strong : MachineInvariant (image_of m t rest) k s
  pub ground : GroundInvariant m t (interpretation k s)

-- a memory and a table that fit each other
pub record FitsOn (m : Store) (t : Table) : Type 0 where
  pub ground : IsGround m t
  pub named : NamesNoFree m t
  pub table : IsTable t
  pub marks : MarksHold m

-- a flip of the table; all that may have a condemned address remains to be scanned
pub record FlipsOn (m : Store) (t u : Table) (rest rest' : Rest) (s : State) (what : Condemn) (pages : ℕ) : Type 0 where
  pub condemned : Condemns t u what
  pub fits : FitsOn m u
  pub registers : rest'.registers ≡ rest.registers
  pub scanned : IsScanned (image_of m u rest') false
  pub units : units_left (image_of m u rest') ≤ s.space.registers + PAGE_WORDS * pages

-- a reclaim of the table
pub record ReclaimsOn (m : Store) (t : Table) (m' : Store) (u : Table) (rest rest' : Rest) : Type 0 where
  pub freed : Frees t u
  pub cleared : ClearsOld m m' t t.regions
  pub fits : FitsOn m' u
  pub registers : rest'.registers ≡ rest.registers

-- a flip leads to the flipped state
abbrev pub FlippedOn : Type 0
FlippedOn =
    (m : Store) (t u : Table) (rest rest' : Rest) (k : RoleMap) (s : State) (what : Condemn) (pages : ℕ)
    → StandsOn m t rest k s → s.phase ≡ Idle → FlipsOn m t u rest rest' s what pages → StandsOn m u rest' k (flipped s what pages)

-- a reclaim after the scan leads to a state in which the collection has ended
abbrev pub ReclaimedOn : Type 0
ReclaimedOn =
    (m m' : Store) (t u : Table) (rest rest' : Rest) (k : RoleMap) (s : State) (c : Collection)
    → StandsOn m t rest k s → s.phase ≡ Running c → c.over ≡ true → ReclaimsOn m t m' u rest rest'
    → (map : RoleMap) × (new : State) × StandsOn m' u rest' map new × Settles s c.aim new

-- before it no word outside old regions has an address in one
abbrev pub ScannedNamesNoOld : Type 0
ScannedNamesNoOld = (m : Store) (t : Table) (rest : Rest) → IsTable t → IsGround m t → IsScanned (image_of m t rest) true → NamesNoOld m t

-- A machine represents the flipped state after a flip, and a state in which the collection has ended after a reclaim; before the reclaim no word outside old regions has an address in one.
pub record CollectionsKeepMachines : Type 0 where
  pub flip : FlippedOn
  pub reclaim : ReclaimedOn
  pub scanned : ScannedNamesNoOld
