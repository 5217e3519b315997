-- Which pages get marks by words that are written.
use Rattle.std.specs.Prelude.{◌≡◌, ℕ, ◌+◌, ◌/◌, ◌<◌}
use Rattle.store_word.specs.declared.sizes.TheConstants.{PAGE_WORDS}
use Rattle.mem_port.specs.Store.{Store, level_of_word}
use Rattle.obj_layout.specs.Forwards.{word_at}

-- a page without marks gets some only if one of these `count` words is on it and has an address of level 1 or more
abbrev pub MarksByWords : Store → Store → ℕ → ℕ → Type 0
MarksByWords old new at count =
    (page : ℕ) → old.marks page ≡ 0 → ((i : ℕ) → i < count → (at + i) / PAGE_WORDS ≡ page → level_of_word new.levels (word_at new.words (at + i)) ≡ 0) → new.marks page ≡ 0
