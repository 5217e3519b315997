-- Changes of a memory in a range of words.
use Rattle.std.specs.Prelude.{◌≡◌, ℕ, ◌+◌, ◌<◌, ◌≤◌, length, slice_get}
use Rattle.area_space.specs.mem_port.Store.{Store}

-- the address is one of `count` from b on
abbrev pub Within : ℕ → ℕ → ℕ → Type 0
Within b count a = (b ≤ a) × (a < b + count)

-- no word except these may have changed, and no level
pub record WritesWithin (old new : Store) (b count : ℕ) : Type 0 where
  pub size : length new.words ≡ length old.words
  pub others : (a : ℕ) → (Within b count a → ⊥) → slice_get new.words a ≡ slice_get old.words a
  pub levels : new.levels ≡ old.levels
  pub top : new.top ≡ old.top
