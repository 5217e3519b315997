-- Which pages a command may have marked.
use Rattle.std.specs.Prelude.{◌≡◌, ◌≢◌, ◌⊎◌, ℕ, ◌/◌, ◌%◌, ◌<◌, ◌≤◌, true, List}
use Rattle.store_word.specs.Words.{Parts}
use Rattle.store_word.specs.declared.sizes.TheConstants.{PAGE_WORDS, REGION_WORDS}
use Rattle.lisp_graph.specs.declared.command.Command.{Command}
use Rattle.lisp_graph.specs.declared.reply.Reply.{Reply}
use Rattle.lisp_graph.specs.declared.reply.Reply.TheVariants as R
use Rattle.mem_port.specs.Store.{Store, level_of_word}
use Rattle.area_space.specs.Table.{Table, used_of, IsOld}
use Rattle.heap_state.specs.Marks.{stores}
use Rattle.heap_state.specs.transporter.Marking.{IsForward}
use Rattle.heap_state.specs.transporter.Settling.{RefersToOld}
use Rattle.heap_state.specs.transporter.obj_layout.Forwards.{word_at}

-- a region was old and isn't any more: what was in it is gone
pub record IsGone (t t' : Table) (region : ℕ) : Type 0 where
  pub old : IsOld t region
  pub now : IsOld t' region → ⊥

-- the word at an address was placed: past the used end of its region, or anywhere in one that was old
pub record WasPlaced (t t' : Table) (a : ℕ) : Type 0 where
  pub past : (used_of t (a / REGION_WORDS) ≤ a % REGION_WORDS) ⊎ IsGone t t' (a / REGION_WORDS)
  pub used : a % REGION_WORDS < used_of t' (a / REGION_WORDS)

-- a word may have given marks to its page: it was placed, it became a forward, or it lost an old address; or it has an address of level 1 or more, if a command that stores into an object met no swap error
pub data HasMarked (c : Command) (r : Reply) (at : ℕ) (words : List Parts) (t : Table) (words' : List Parts) (levels' : List ℕ) (t' : Table) (a : ℕ) : Type 0 where
  by_place : WasPlaced t t' a → HasMarked c r at words t words' levels' t' a
  by_forward : (IsForward (word_at words a) → IsGone t t' (a / REGION_WORDS)) → IsForward (word_at words' a) → HasMarked c r at words t words' levels' t' a
  by_settling : RefersToOld t' (word_at words a) → (RefersToOld t' (word_at words' a) → ⊥) → HasMarked c r at words t words' levels' t' a
  by_storing : stores c ≡ true → a ≡ at → (r ≢ R.Fault → 0 < level_of_word levels' (word_at words' a)) → HasMarked c r at words t words' levels' t' a

-- A page without marks got some only from such a word of it; at most one word was stored into an object
pub record MarksPages (c : Command) (r : Reply) (m : Store) (t : Table) (m' : Store) (t' : Table) : Type 0 where
  pub at : ℕ
  pub unmarked : (page : ℕ) → m.marks page ≡ 0 → (m'.marks page ≡ 0) ⊎ ((a : ℕ) × (a / PAGE_WORDS ≡ page) × HasMarked c r at m.words t m'.words m'.levels t' a)
