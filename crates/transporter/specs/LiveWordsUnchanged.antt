-- What transports leave unchanged.
use Rattle.std.specs.Prelude.{◌≡◌, ◌≢◌, ℕ, ◌/◌, ◌%◌, ◌<◌, ◌≤◌, Contains}
use Rattle.store_word.specs.declared.sizes.TheConstants.{REGION_WORDS}
use Rattle.mem_port.specs.Store.{Store}
use Rattle.area_space.specs.Table.{Table, live, stale, chain, used_of, IsLive, IsOld}
use Rattle.obj_layout.specs.Forwards.{word_at}
use Rattle.lisp_ground.specs.GroundInvariant.{SameForm}

-- The sizes, the regions of each class except for some that were free, the flip marks and the condemned levels are the same; used ends and the number of words placed only grow
pub record OnlyGrows (t t' : Table) : Type 0 where
  pub form : SameForm t t'
  pub aim : t'.aim ≡ t.aim
  pub live_chains : (slot region : ℕ) → Contains (chain t (live slot)) region → Contains (chain t' (live slot)) region
  pub old_chains : (slot : ℕ) → chain t' (stale slot) ≡ chain t (stale slot)
  pub used : (region : ℕ) → used_of t region ≤ used_of t' region
  pub flip_marks : t'.marks ≡ t.marks
  pub placed : t.placed ≤ t'.placed

-- a used word of a live region
pub record IsLiveWord (t : Table) (a : ℕ) : Type 0 where
  pub live : IsLive t (a / REGION_WORDS)
  pub used : a % REGION_WORDS < used_of t (a / REGION_WORDS)

-- no used word of a live region changes
pub record LiveWordsUnchanged (m : Store) (t : Table) (m' : Store) (t' : Table) : Type 0 where
  pub table : OnlyGrows t t'
  pub words : (a : ℕ) → IsLiveWord t a → word_at m'.words a ≡ word_at m.words a

-- no used word of a live region changes, except one
pub record LiveWordsUnchangedExcept (m : Store) (t : Table) (m' : Store) (t' : Table) (at : ℕ) : Type 0 where
  pub table : OnlyGrows t t'
  pub words : (a : ℕ) → a ≢ at → IsLiveWord t a → word_at m'.words a ≡ word_at m.words a

-- the collection is the same, and no region has become old
pub record SameAim (t t' : Table) : Type 0 where
  pub aim : t'.aim ≡ t.aim
  pub old : (region : ℕ) → IsOld t' region → IsOld t region
