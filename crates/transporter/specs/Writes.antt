-- Words that follow one another are written.
use Rattle.std.specs.Prelude.{◌≡◌, ℕ, zero, suc, ◌+◌, ◌/◌, ◌<◌, ◌≤◌, length}
use Rattle.store_word.specs.Words.{Parts}
use Rattle.store_word.specs.declared.word.CdrCode.TheVariants.{Next, Normal}
use Rattle.store_word.specs.declared.word.Content.TheVariants.{List as ListAt, GcForward}
use Rattle.store_word.specs.declared.sizes.TheConstants.{PAGE_WORDS}
use Rattle.mem_port.specs.Store.{Store, level_of_word}
use Rattle.obj_layout.specs.Forwards.{word_at}

-- the `count` words from an address on are these; no other word changes, and no level; a page without marks gets only those of these words, by an address of level 1 or more
pub record Writes (old new : Store) (at count : ℕ) (word : ℕ → Parts) : Type 0 where
  pub size : length new.words ≡ length old.words
  pub there : (i : ℕ) → i < count → word_at new.words (at + i) ≡ word i
  pub others : (a : ℕ) → ((at ≤ a) × (a < at + count) → ⊥) → word_at new.words a ≡ word_at old.words a
  pub levels : new.levels ≡ old.levels
  pub top : new.top ≡ old.top
  pub unmarked : (page : ℕ) → old.marks page ≡ 0 → ((i : ℕ) → i < count → (at + i) / PAGE_WORDS ≡ page → level_of_word old.levels (word i) ≡ 0) → new.marks page ≡ 0

-- the forward that a transported object leaves: a GC-FORWARD to its copy
abbrev pub forward_to : ℕ → Parts
forward_to at = record { cdr = Next; content = GcForward at }

-- the words of a pair of charge 3, with the car of a cell and the list at an address as its cdr
abbrev pub pair_word : Parts → ℕ → ℕ → Parts
pair_word cell rest zero = record { cdr = Normal; content = cell.content }
pair_word cell rest (suc i) = record { cdr = Next; content = ListAt rest }

-- the words of a pair
abbrev pub two_words : Parts → Parts → ℕ → Parts
two_words first second zero = first
two_words first second (suc i) = second
