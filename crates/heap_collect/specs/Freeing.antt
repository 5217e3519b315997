-- What the silent steps free.
use Rattle.std.specs.Prelude.{◌≡◌, ◌⊎◌, ℕ, ◌/◌}
use Rattle.store_word.specs.Words.{null_word}
use Rattle.store_word.specs.declared.sizes.TheConstants.{REGION_WORDS}
use Rattle.mem_port.specs.Store.{Store}
use Rattle.area_space.specs.Table.{Table, used_of, IsOld, IsUnclassed}
use Rattle.heap_state.specs.transporter.obj_layout.Forwards.{word_at}

-- a region was old, and is free
pub record IsFreed (t t' : Table) (region : ℕ) : Type 0 where
  pub old : IsOld t region
  pub free : IsUnclassed t' region

-- No page without marks has got any, and no word or used end has changed except those of regions that were old and are free: their words are NULL
pub record FreesAtMost (m : Store) (t : Table) (m' : Store) (t' : Table) : Type 0 where
  pub unmarked : (page : ℕ) → m.marks page ≡ 0 → m'.marks page ≡ 0
  pub words : (a : ℕ) → (word_at m'.words a ≡ word_at m.words a) ⊎ (IsFreed t t' (a / REGION_WORDS) × (word_at m'.words a ≡ null_word))
  pub used : (region : ℕ) → (used_of t' region ≡ used_of t region) ⊎ IsFreed t t' region
