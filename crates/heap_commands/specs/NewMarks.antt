-- Which pages get marks by a command that makes an object.
use Rattle.std.specs.Prelude.{◌≡◌, ◌⊎◌, ℕ, ◌+◌, ◌/◌, ◌<◌, ◌≤◌, List, Some, get_or}
use Rattle.store_word.specs.Words.{Parts, null_word}
use Rattle.store_word.specs.declared.sizes.TheConstants.{PAGE_WORDS}
use Rattle.mem_port.specs.Store.{Store, level_of_word}
use Rattle.area_space.specs.Table.{Table}
use Rattle.block_store.specs.lisp_meaning.Roles.{RoleMap}
use Rattle.block_store.specs.lisp_meaning.State.{State}
use Rattle.block_store.specs.obj_layout.Forwards.{word_at, Final}
use Rattle.block_store.specs.transporter.Marking.{IsPlaced, MayMark}
use Rattle.block_store.specs.transporter.Settling.{reference_of}
use Rattle.heap_state.specs.Represents.{Represents}
use Rattle.heap_commands.specs.Growth.{IsGrowing}

-- a word may give marks to its page; one of the new object's `count` words from an address on, only if it has an address of level 1 or more
pub record GivesMarks (m : Store) (t : Table) (m' : Store) (t' : Table) (at count a : ℕ) : Type 0 where
  pub may : MayMark m t m' t' a
  pub young : at ≤ a → a < at + count → 0 < level_of_word m'.levels (word_at m'.words a)

-- A word refers to an object that was made, of `count` words at its final address. They were placed, and a page without marks gets some only from a word that gives them. (Six parameters: memory and table, each before and after, the word, and the number of words of its object.)
pub record MarksMade (m : Store) (t : Table) (m' : Store) (t' : Table) (word : Parts) (count : ℕ) : Type 0 where
  pub address : ℕ
  pub refers : reference_of word.content ≡ Some address
  pub at : ℕ
  pub final : Final m'.words address at
  pub placed : (a : ℕ) → at ≤ a → a < at + count → IsPlaced t t' a
  pub unmarked : (page : ℕ) → m.marks page ≡ 0 → (m'.marks page ≡ 0) ⊎ ((a : ℕ) × (a / PAGE_WORDS ≡ page) × GivesMarks m t m' t' at count a)

-- for a block that grows, the object is the wider block, whose words are its charge in each state that was represented. (Seven parameters: memory and table, each before and after, the registers before, and the two arguments of the command.)
abbrev pub MarksGrowth : Store → Table → List Parts → Store → Table → ℕ → ℕ → Type 0
MarksGrowth m t registers m' t' target wanted =
    (k : RoleMap) (s : State) (area charge : ℕ) → Represents m t registers k s → IsGrowing s target wanted area charge → MarksMade m t m' t' (get_or registers target null_word) charge
