-- What a scan does: how many units it scans, how many words it places, and how many transports it makes.
use Rattle.std.specs.Prelude.{◌≡◌, ◌≢◌, ℕ, ◌+◌, ◌-◌, ◌*◌, ◌<◌, ◌≤◌, ◌⊎◌, true, None}
use Rattle.store_word.specs.declared.sizes.TheConstants.{MAX_OBJECT_WORDS}
use Rattle.lisp_graph.specs.Totals.{total}
use Rattle.area_space.specs.Table.{Table, used_of}
use Rattle.heap_state.specs.Views.{HasScannedAhead, RepresentsAll}
use Rattle.heap_state.specs.lisp_meaning.Roles.{RoleMap}
use Rattle.heap_state.specs.lisp_meaning.State.{State}
use Rattle.heap_state.specs.transporter.LiveWordsUnchanged.{OnlyGrows}
use Rattle.heap_state.specs.transporter.Preserving.{RegistersPreserved}
use Rattle.heap_state.specs.transporter.Views.{MarksFollow, MovesAtMost}
use Rattle.scavenger.specs.Scan.{Scan}
use Rattle.scavenger.specs.Views.{ScansUpTo, units_of}
use Rattle.heap_collect.specs.MachineView.{MachineView}
use Rattle.scavenger.specs.declared.accesses.TheConstants.{STEP_ACCESSES}

-- `limit` more units were scanned, or all that remained
abbrev pub Amount : Scan → Scan → ℕ → Type 0
Amount old new limit = (new.done ≡ old.done + limit) ⊎ ((new.done < old.done + limit) × (new.over ≡ true))

-- the number of used words grew by the number of words placed
abbrev pub CountsPlaced : Table → Table → Type 0
CountsPlaced old new = total (used_of new) new.regions + old.placed ≡ total (used_of old) old.regions + new.placed

-- each state that the machine represented it represents, with `ahead` units scanned ahead of what is paid
abbrev pub RepresentsAhead : MachineView → MachineView → ℕ → Type 0
RepresentsAhead old new ahead = (k : RoleMap) (s : State) → RepresentsAll old.ground old.scan old.registers k s → HasScannedAhead old.ground new.ground new.scan new.registers k s ahead

-- what a scan leaves, whether or not a swap error stopped it
pub record ScansOn (old new : MachineView) : Type 0 where
  -- no scan is undone, and one that had finished still has
  pub some : old.scan.done ≤ new.scan.done
  pub over : old.scan.over ≡ true → new.scan.over ≡ true
  -- the units scanned and those that remain are those that remained before and the words placed
  pub units : (new.scan.done - old.scan.done) + units_of new.ground new.scan new.registers ≡ units_of old.ground old.scan old.registers + (new.ground.table.placed - old.ground.table.placed)
  -- each word placed is a used one
  pub placed : CountsPlaced old.ground.table new.ground.table
  -- at most one more transport was made than units were scanned
  pub moves : MovesAtMost old.ground new.ground (new.scan.done - old.scan.done + 1)
  -- pages got marks only from what was moved or settled
  pub marks : MarksFollow old.ground new.ground
  -- each register is unchanged or was settled
  pub registers : RegistersPreserved new.ground.table old.registers new.registers
  -- the regions are the same ones, of the same classes except for some that were free
  pub table : OnlyGrows old.ground.table new.ground.table

-- a scan of `limit` units that no swap error stopped, with these counts of memory accesses before and after it
pub record ScansUnits (old new : MachineView) (limit before after : ℕ) : Type 0 where
  -- each state is represented, with these units ahead
  pub ahead : RepresentsAhead old new limit
  -- if a collection runs, the units were scanned in their order
  pub order : old.ground.table.aim ≢ None → ScansUpTo old.ground old.scan old.registers new.ground new.scan new.registers limit
  -- `limit` units were scanned, or all that remained
  pub count : Amount old.scan new.scan limit
  -- it is the same collection
  pub begun : new.scan.begun ≡ old.scan.begun
  -- at most 2,048 words were placed for each unit
  pub at_most : new.ground.table.placed ≤ old.ground.table.placed + MAX_OBJECT_WORDS * (new.scan.done - old.scan.done)
  -- at most 48 memory accesses for each unit, and 4 for each word placed
  pub cost : after ≤ before + 4 * (new.ground.table.placed - old.ground.table.placed) + STEP_ACCESSES * (new.scan.done - old.scan.done)
