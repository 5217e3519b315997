-- The relation of a memory and a table.
use Rattle.std.specs.Prelude.{◌≡◌, ℕ, ◌*◌, ◌/◌, ◌%◌, ◌<◌, ◌≤◌, Some, length, slice_get, slice_index, slice_set, Contains}
use Rattle.store_word.specs.Words.{Parts, address_of, null_word}
use Rattle.store_word.specs.declared.sizes.TheConstants.{REGION_PAGES, REGION_WORDS}
use Rattle.mem_port.specs.Store.{Store}
use Rattle.area_space.specs.Table.{Table, levels_of, live, stale, chain, used_of, IsUnclassed, IsOld}

-- sizes and levels agree, and every word from a used end on is NULL
pub record IsGround (s : Store) (t : Table) : Type 0 where
  pub size : length s.words ≡ REGION_WORDS * t.regions
  pub levels_size : length s.levels ≡ t.regions
  pub top : s.top ≡ t.top
  pub level_live : (slot region : ℕ) → Contains (chain t (live slot)) region → slice_index s.levels region ≡ slot % levels_of t
  pub level_old : (slot region : ℕ) → Contains (chain t (stale slot)) region → slice_index s.levels region ≡ slot % levels_of t
  pub blank : (at : ℕ) → at < length s.words → used_of t (at / REGION_WORDS) ≤ at % REGION_WORDS → slice_get s.words at ≡ Some null_word

-- no word has an address in a free region
abbrev pub NamesNoFree : Store → Table → Type 0
NamesNoFree s t = (at to : ℕ) (word : Parts) → slice_get s.words at ≡ Some word → address_of word.content ≡ Some to → IsUnclassed t (to / REGION_WORDS) → ⊥

-- no word outside old regions has an address in an old region
abbrev pub NamesNoOld : Store → Table → Type 0
NamesNoOld s t = (at to : ℕ) (word : Parts) → (IsOld t (at / REGION_WORDS) → ⊥) → slice_get s.words at ≡ Some word → address_of word.content ≡ Some to → IsOld t (to / REGION_WORDS) → ⊥

-- one region has another level
abbrev pub with_level : Store → ℕ → ℕ → Store
with_level s region level = record s { levels = slice_set s.levels region level }

-- the words of the old regions below a number are NULL, and their pages have no marks; all else is unchanged
pub record ClearsOld (old new : Store) (t : Table) (below : ℕ) : Type 0 where
  pub size : length new.words ≡ length old.words
  pub null : (at : ℕ) → IsOld t (at / REGION_WORDS) → at / REGION_WORDS < below → at < length old.words → slice_get new.words at ≡ Some null_word
  pub others : (at : ℕ) → (at / REGION_WORDS < below → IsOld t (at / REGION_WORDS) → ⊥) → slice_get new.words at ≡ slice_get old.words at
  pub levels : new.levels ≡ old.levels
  pub top : new.top ≡ old.top
  pub unmarked : (page : ℕ) → IsOld t (page / REGION_PAGES) → page / REGION_PAGES < below → new.marks page ≡ 0
  pub marks : (page : ℕ) → (page / REGION_PAGES < below → IsOld t (page / REGION_PAGES) → ⊥) → new.marks page ≡ old.marks page
