-- What the silent steps do.
use Rattle.std.specs.Prelude.{◌≡◌, ℕ, ◌<◌, List, None, false, true, length, IfSome}
use Rattle.store_word.specs.Words.{Parts}
use Rattle.store_word.specs.declared.space.Space.{Space}
use Rattle.lisp_graph.specs.declared.command.Condemn.TheVariants.{Chosen}
use Rattle.area_space.specs.Accounts.{level_total}
use Rattle.area_space.specs.Table.{levels_of, used_of, IsUnclassed}
use Rattle.area_space.specs.View.{GroundView}
use Rattle.heap_state.specs.Views.{RepresentsAll}
use Rattle.heap_state.specs.lisp_meaning.Roles.{RoleMap}
use Rattle.heap_state.specs.lisp_meaning.Run.{SilentFlip, SilentReclaim}
use Rattle.heap_state.specs.lisp_meaning.State.{State}
use Rattle.scavenger.specs.Scan.{Scan}
use Rattle.scavenger.specs.Views.{Begins}
use Rattle.heap_collect.specs.Silent.{done_from, flips_alone, flips_idle, full_levels_on, placed_from}
use Rattle.heap_collect.specs.Views.{FreesAtMost, PreparesTo}

-- a machine reclaims without a command, if the scan of a collection has finished
pub record ReclaimsAlone (old new : GroundView) (scan : Scan) : Type 0 where
  -- the state after it is represented, and its world is the same
  pub step : (registers : List Parts) (k : RoleMap) (s : State) → RepresentsAll old scan registers k s
      → (map : RoleMap) × (mid : State) × RepresentsAll new scan registers map mid × SilentReclaim s s.phase mid × (mid.space ≡ s.space)
  -- at most old regions were freed
  pub frees : FreesAtMost old new
  -- no collection runs any longer, unless units remain
  pub idle : scan.over ≡ true → new.table.aim ≡ None
  pub going : scan.over ≡ false → new.table.aim ≡ old.table.aim
  -- the totals of levels are the same
  pub levels : levels_of new.table ≡ levels_of old.table
  pub count : (level : ℕ) → level < levels_of old.table → level_total new.table level ≡ level_total old.table level

-- a machine flips without a command, if no collection runs and some level is full
pub record FlipsAlone (old new : GroundView) (scan scan' : Scan) (space : Space) : Type 0 where
  -- the state after it is represented
  pub step : (registers : List Parts) (k : RoleMap) (s : State) → RepresentsAll old scan registers k s → s.space ≡ space → length registers ≡ space.registers
      → (next : State) × RepresentsAll new scan' registers k next × SilentFlip s next
  -- the used ends and the free regions are the same
  pub used : (region : ℕ) → used_of new.table region ≡ used_of old.table region
  pub free : (region : ℕ) → IsUnclassed old.table region → IsUnclassed new.table region
  pub regions : new.table.regions ≡ old.table.regions
  -- if it occurs, its scan has begun, and nothing was scanned or placed
  pub begins : flips_idle old.table space ≡ true → IfSome (full_levels_on old.table space) (λ levels. Begins new (Chosen levels) scan scan')
  pub done : flips_idle old.table space ≡ true → scan'.done ≡ 0
  pub placed : flips_idle old.table space ≡ true → new.table.placed ≡ 0

-- the silent steps before an allocation: a reclaim and a flip, each if it is due
pub record SilentSteps (old new : GroundView) (scan scan' : Scan) (space : Space) : Type 0 where
  -- the state after them is represented
  pub step : (registers : List Parts) (k : RoleMap) (s : State) → RepresentsAll old scan registers k s → s.space ≡ space → length registers ≡ space.registers → PreparesTo new scan' registers s
  -- at most old regions were freed
  pub frees : FreesAtMost old new
  pub regions : new.table.regions ≡ old.table.regions
  -- the units scanned, and the words placed, of the collection that runs
  pub done : scan'.done ≡ done_from old.table scan space
  pub placed : new.table.placed ≡ placed_from old.table scan space
  -- without a flip the scan is unchanged, and after one its scan has begun
  pub unchanged : flips_alone old.table scan space ≡ false → scan' ≡ scan
  pub begins : flips_alone old.table scan space ≡ true → IfSome (full_levels_on old.table space) (λ levels. Begins new (Chosen levels) scan scan')
  -- no word is accessed, and no swap error occurs
  pub faults : new.mem.faults ≡ old.mem.faults
  pub taken : new.mem.taken ≡ old.mem.taken
