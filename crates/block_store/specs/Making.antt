-- A new block on a ground.
use Rattle.std.specs.Prelude.{ℕ, zero, suc, [], ◌∷◌}
use Rattle.store_word.specs.Words.{Parts}
use Rattle.store_word.specs.declared.word.CdrCode.TheVariants.{Next}
use Rattle.store_word.specs.declared.word.Content.TheVariants.{Nil as NilWord, Header}
use Rattle.area_space.specs.lisp_graph.Effect.{block_of}
use Rattle.mem_port.specs.Store as Memory
use Rattle.area_space.specs.Table.{Table}
use Rattle.transporter.specs.lisp_meaning.Changes.{with_made}
use Rattle.transporter.specs.lisp_meaning.Roles.{AsBlock}
use Rattle.transporter.specs.lisp_ground.GroundInvariant.{GroundInvariant}
use Rattle.transporter.specs.lisp_meaning.Interpretation.{Interpretation}
use Rattle.transporter.specs.Making.{HasQuota, MadeOn}

-- a block of `count` fields can be made: the ground represents some objects, for which there is quota
pub record CanMake (m : Memory.Store) (t : Table) (area level count : ℕ) : Type 0 where
  pub it : Interpretation
  pub kept : GroundInvariant m t it
  pub quota : HasQuota it area level (suc count)

-- a block was made at an address: whatever objects the ground represented, it represents them and a new block whose fields are nil. (Nine parameters: memory and table, each before and after, and the area, the level, the code, the number of fields and the address of the block, which vary independently.)
abbrev pub MakesBlock : Memory.Store → Table → Memory.Store → Table → ℕ → ℕ → ℕ → ℕ → ℕ → Type 0
MakesBlock m t m' t' area level code count at =
    (it : Interpretation)
    → GroundInvariant m t it → HasQuota it area level (suc count)
    → MadeOn m t m' t' it (with_made it.store (block_of area code count ∷ []) level) AsBlock at

-- the words of such a block, one by one: a header, and NIL in each field
abbrev pub block_word : ℕ → ℕ → ℕ → Parts
block_word code count zero = record { cdr = Next; content = Header code count }
block_word code count (suc i) = record { cdr = Next; content = NilWord }
