-- Which regions are opened.
use Rattle.std.specs.Prelude.{◌≡◌, ℕ, ◌+◌, ◌/◌, Some, Contains}
use Rattle.store_word.specs.declared.word.Content.{Content}
use Rattle.store_word.specs.declared.word.Content.TheVariants.{Struct as StructAt, Header}
use Rattle.store_word.specs.declared.sizes.TheConstants.{REGION_WORDS}
use Rattle.area_space.specs.lisp_graph.Effect.{grown_length}
use Rattle.mem_port.specs.Store as Memory
use Rattle.area_space.specs.Table.{Table, IsUnclassed, chain, live}
use Rattle.obj_layout.specs.Forwards.{word_at, Final}
use Rattle.transporter.specs.Relocations.{OpensIfFull}

-- a region that was free and isn't any more was opened because this number of words didn't fit at the end of the live class of a slot, and it was the free one with the lowest number
abbrev pub OpensAsNeeded : Table → Table → ℕ → ℕ → Type 0
OpensAsNeeded t t' slot words = (region : ℕ) → IsUnclassed t region → (IsUnclassed t' region → ⊥) → OpensIfFull t slot words (Some region)

-- for a block that grows these are the words of the wider one, and the class is that of the block
abbrev pub OpensForGrown : Memory.Store → Table → Table → Content → ℕ → Type 0
OpensForGrown m t t' content wanted =
    (reference here slot code count : ℕ) → content ≡ StructAt reference → Final m.words reference here → (word_at m.words here).content ≡ Header code count → Contains (chain t (live slot)) (here / REGION_WORDS)
    → OpensAsNeeded t t' slot (grown_length count wanted + 1)
