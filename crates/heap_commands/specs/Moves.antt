-- What `rplacd` moves, and which cell it makes a pair.
use Rattle.std.specs.Prelude.{◌≢◌, ◌⊎◌, ℕ}
use Rattle.store_word.specs.Words.{Parts}
use Rattle.store_word.specs.declared.word.CdrCode.TheVariants.{Normal}
use Rattle.mem_port.specs.Store.{Store}
use Rattle.area_space.specs.Table.{Table}
use Rattle.block_store.specs.obj_layout.Forwards.{word_at}
use Rattle.block_store.specs.transporter.Moving.{MovesAtMost}
use Rattle.cdr_lists.specs.Parts.{LaysPair}
use Rattle.cdr_lists.specs.Reading.{IsConsPlace}

-- The two registers were settled. The place of the cons to which this word then refers held a cell. The object that its car refers to was transported, if it was old, and the cell was relocated as a pair with this cdr.
pub record LaysCell (m : Store) (t : Table) (m' : Store) (t' : Table) (target cdr : Parts) : Type 0 where
  pub ready : Store
  pub table : Table
  pub settled : MovesAtMost m t ready table 2
  pub cell : ℕ
  pub place : IsConsPlace ready.words target.content cell
  pub no_pair : (word_at ready.words cell).cdr ≢ Normal
  pub between : Store
  pub room : Table
  pub car : MovesAtMost ready table between room 1
  pub lays : LaysPair between room m' t' cell (word_at between.words cell) cdr

-- whatever was placed was placed by at most three transports; or that cell was relocated after them. (Six parameters: memory and table, each before and after, and the two words that the command settled.)
abbrev pub MovesOrLays : Store → Table → Store → Table → Parts → Parts → Type 0
MovesOrLays m t m' t' target cdr = MovesAtMost m t m' t' 3 ⊎ LaysCell m t m' t' target cdr
