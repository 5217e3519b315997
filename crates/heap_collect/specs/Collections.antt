-- What flips and reclaims do.
use Rattle.std.specs.Prelude.{◌≡◌, ◌*◌, ◌≤◌, List, [], None, false, true, length}
use Rattle.store_word.specs.Words.{Parts}
use Rattle.store_word.specs.declared.sizes.TheConstants.{REGION_PAGES}
use Rattle.lisp_graph.specs.declared.command.Condemn.{Condemn}
use Rattle.area_space.specs.Flips.{Condemns}
use Rattle.area_space.specs.Frees.{Frees}
use Rattle.area_space.specs.View.{GroundView}
use Rattle.heap_state.specs.Views.{RepresentsAll}
use Rattle.heap_state.specs.lisp_meaning.Flip.{flipped}
use Rattle.heap_state.specs.lisp_meaning.Roles.{RoleMap}
use Rattle.heap_state.specs.lisp_meaning.State.{Collection, Running, State}
use Rattle.scavenger.specs.Scan.{Scan}
use Rattle.scavenger.specs.Views.{Begins, base_pages}
use Rattle.heap_collect.specs.Views.{HasSettled}

-- a collection begins
pub record BeginsCollection (old new : GroundView) (scan scan' : Scan) (what : Condemn) : Type 0 where
  -- the flipped state is represented
  pub flips : (registers : List Parts) (k : RoleMap) (s : State) → RepresentsAll old scan registers k s → length registers ≡ s.space.registers
      → RepresentsAll new scan' registers k (flipped s what (base_pages new what))
  -- what is condemned is old
  pub table : Condemns old.table (record new.table { pages = [] }) what
  -- the registers and the base pages, at most 16 for each region, remain to be scanned
  pub begins : Begins new what scan scan'
  pub at_most : base_pages new what ≤ REGION_PAGES * old.table.regions
  pub going : scan'.over ≡ false
  -- nothing was scanned or placed
  pub done : scan'.done ≡ 0
  pub placed : new.table.placed ≡ 0

-- a collection whose scan has finished ends
pub record EndsCollection (old new : GroundView) : Type 0 where
  -- a state in which it has ended is represented
  pub settles : (scan : Scan) (registers : List Parts) (k : RoleMap) (s : State) (c : Collection) → RepresentsAll old scan registers k s → s.phase ≡ Running c → c.over ≡ true → HasSettled new scan registers s
  -- the old regions are free, and no collection runs
  pub free : Frees old.table new.table
  pub end : new.table.aim ≡ None

-- a reclaim ends a collection: by this scan it has finished
pub record Reclaims (old new : GroundView) (scan : Scan) : Type 0 where
  pub settles : (registers : List Parts) (k : RoleMap) (s : State) → RepresentsAll old scan registers k s → HasSettled new scan registers s
  pub ends : EndsCollection old new

-- What a reclaim leaves unchanged. It accesses no word and can't fail.
pub record CountsUnchanged (old new : GroundView) : Type 0 where
  pub regions : new.table.regions ≡ old.table.regions
  pub placed : new.table.placed ≡ old.table.placed
  pub faults : new.mem.faults ≡ old.mem.faults
  pub taken : new.mem.taken ≡ old.mem.taken
