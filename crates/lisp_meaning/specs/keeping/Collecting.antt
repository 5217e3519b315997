-- Flips and reclaims keep the invariant.
use Rattle.std.specs.Prelude.{◌≡◌, ℕ, ◌+◌, ◌*◌, ◌<◌, ◌≤◌, true, false, Some, None}
use Rattle.lisp_graph.specs.store_word.declared.sizes.TheConstants.{PAGE_WORDS}
use Rattle.lisp_graph.specs.declared.command.Condemn.{Condemn}
use Rattle.lisp_meaning.specs.machine.State.{Collection, Idle, Running, State}
use Rattle.lisp_meaning.specs.machine.Flip.{flipped, Settles}
use Rattle.lisp_meaning.specs.machine.Sound.{IsSound}
use Rattle.lisp_meaning.specs.reading.Image.{Image}
use Rattle.lisp_meaning.specs.invariants.Roles.{RoleMap}
use Rattle.lisp_meaning.specs.reading.Units.{units_left}
use Rattle.lisp_meaning.specs.reading.Stands.{IsScanned}
use Rattle.lisp_meaning.specs.keeping.TableChanges.{condemned_classes, TableFlipped, TableFreed}
use Rattle.lisp_meaning.specs.invariants.Invariant.{MachineInvariant}

-- the state is sound, so each command has an answer
abbrev pub InvariantIsSound : Type 0
InvariantIsSound = (g : Image) (k : RoleMap) (s : State) → MachineInvariant g k s → 0 < s.space.registers → IsSound s

-- if no collection ran, and all that may have a condemned address remains to be scanned, the machine represents the flipped state
abbrev pub Flipped : Type 0
Flipped =
    (g g' : Image) (k : RoleMap) (s : State) (what : Condemn) (pages : ℕ)
    → MachineInvariant g k s → s.phase ≡ Idle → TableFlipped g g' s.space.levels (condemned_classes s.areas what)
    → g'.registers ≡ g.registers → g'.collection ≡ Some what → IsScanned g' false → units_left g' ≤ s.space.registers + PAGE_WORDS * pages
    → MachineInvariant g' k (flipped s what pages)

-- if a collection's scan is finished and the old regions were freed, the machine represents a state in which the collection has ended
abbrev pub Reclaimed : Type 0
Reclaimed =
    (g g' : Image) (k : RoleMap) (s : State) (c : Collection)
    → MachineInvariant g k s → s.phase ≡ Running c → c.over ≡ true → TableFreed g g' → g'.registers ≡ g.registers → g'.collection ≡ None
    → (map : RoleMap) × (new : State) × MachineInvariant g' map new × Settles s c.aim new

-- A flip and a reclaim keep the invariant, and a state for which it holds is sound.
pub record CollectionsKeep : Type 0 where
  pub flip : Flipped
  pub reclaim : Reclaimed
  pub sound : InvariantIsSound
