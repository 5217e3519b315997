-- Which pages a command may have marked that made an object.
use Rattle.std.specs.Prelude.{◌≡◌, ◌⊎◌, ℕ, ◌+◌, ◌/◌, ◌<◌, ◌≤◌, Some}
use Rattle.store_word.specs.Words.{Parts}
use Rattle.store_word.specs.declared.sizes.TheConstants.{PAGE_WORDS}
use Rattle.lisp_graph.specs.declared.command.Command.{Command}
use Rattle.lisp_graph.specs.declared.reply.Reply.TheVariants as R
use Rattle.mem_port.specs.Store.{level_of_word}
use Rattle.heap_state.specs.transporter.Settling.{reference_of}
use Rattle.heap_state.specs.transporter.obj_layout.Forwards.{word_at, Final}
use Rattle.lisp_heap.specs.HeapView.{HeapView, store_of}
use Rattle.lisp_heap.specs.Marked.{HasMarked, WasPlaced}

-- a word may have given marks to its page; one of the new object's `count` words from an address on, only if it has an address of level 1 or more
pub record GaveMarks (c : Command) (old new : HeapView) (at count a : ℕ) : Type 0 where
  pub may : HasMarked c R.Fine at old.memory.words old.table new.memory.words new.memory.levels new.table a
  pub young : at ≤ a → a < at + count → 0 < level_of_word new.memory.levels (word_at new.memory.words a)

-- A word refers to an object that the command made, of `count` words at its final address. They were placed; and a page without marks got some only from a word that may have given them.
pub record MarksMade (c : Command) (old new : HeapView) (word : Parts) (count : ℕ) : Type 0 where
  pub address : ℕ
  pub refers : reference_of word.content ≡ Some address
  pub at : ℕ
  pub final : Final new.memory.words address at
  pub placed : (a : ℕ) → at ≤ a → a < at + count → WasPlaced old.table new.table a
  pub unmarked : (page : ℕ) → (store_of old.memory).marks page ≡ 0 → ((store_of new.memory).marks page ≡ 0) ⊎ ((a : ℕ) × (a / PAGE_WORDS ≡ page) × GaveMarks c old new at count a)
