-- A block that grows on a ground: it is looked at, units are scanned, and its wider words are made.
use Rattle.std.specs.Prelude.{◌≡◌, ◌≢◌, ℕ, ◌+◌, ◌≤◌, List, None}
use Rattle.store_word.specs.Words.{Parts}
use Rattle.store_word.specs.declared.sizes.TheConstants.{MAX_OBJECT_WORDS}
use Rattle.area_space.specs.View.{GroundView}
use Rattle.scavenger.specs.Scan.{Scan}
use Rattle.scavenger.specs.Views.{ScansUpTo}
use Rattle.heap_state.specs.transporter.LiveWordsUnchanged.{OnlyGrows}
use Rattle.heap_state.specs.transporter.Preserving.{RegistersPreserved}

-- units were scanned, and then `charge` words were made
pub record ScansAndWidens (v v' : GroundView) (scan scan' : Scan) (registers registers' : List Parts) (charge limit : ℕ) : Type 0 where
  pub ground : GroundView
  pub scans : v.table.aim ≢ None → ScansUpTo v scan registers ground scan' registers' limit
  pub idle : v.table.aim ≡ None → (ground ≡ v) × (scan' ≡ scan) × (registers' ≡ registers)
  pub placed : v'.table.placed ≡ ground.table.placed + charge

-- the register that refers to the block was settled before
pub record LooksAndWidens (v v' : GroundView) (scan scan' : Scan) (registers registers' : List Parts) (charge limit : ℕ) : Type 0 where
  pub ground : GroundView
  pub words : List Parts
  pub others : RegistersPreserved ground.table registers words
  pub table : OnlyGrows v.table ground.table
  pub few : ground.table.placed ≤ v.table.placed + MAX_OBJECT_WORDS
  pub widens : ScansAndWidens ground v' scan scan' words registers' charge limit
