-- Which pages get marks by the words of a block that grows.
use Rattle.std.specs.Prelude.{◌≡◌, ℕ, ◌+◌, ◌/◌, ◌<◌}
use Rattle.store_word.specs.declared.word.Content.{Content}
use Rattle.store_word.specs.declared.word.Content.TheVariants.{Header}
use Rattle.store_word.specs.declared.sizes.TheConstants.{PAGE_WORDS}
use Rattle.area_space.specs.lisp_graph.Effect.{grown_length}
use Rattle.mem_port.specs.Store.{Store, level_of_word}
use Rattle.area_space.specs.Table.{Table}
use Rattle.obj_layout.specs.Forwards.{word_at}
use Rattle.block_store.specs.Headers.{TellsLength}

-- a page without marks gets some only if a word of the wider block, or the first word of its husk, is on it and has an address of level 1 or more. (Seven parameters: the memory before and after, the table, the block, its address before and after, and the number of fields that is wanted.)
pub record MarksGrown (old : Store) (t : Table) (new : Store) (content : Content) (here at wanted : ℕ) : Type 0 where
  pub code : ℕ
  pub count : ℕ
  pub header : (word_at old.words here).content ≡ Header code count
  pub length_is : TellsLength old t content count
  pub unmarked : (page : ℕ) → old.marks page ≡ 0 → (here / PAGE_WORDS ≡ page → level_of_word new.levels (word_at new.words here) ≡ 0)
      → ((i : ℕ) → i < grown_length count wanted + 1 → (at + i) / PAGE_WORDS ≡ page → level_of_word new.levels (word_at new.words (at + i)) ≡ 0) → new.marks page ≡ 0
