-- A word that was read and settled at its place.
use Rattle.std.specs.Prelude.{◌≡◌, ℕ, Some}
use Rattle.store_word.specs.Words.{Parts}
use Rattle.store_word.specs.declared.word.Content.{Content}
use Rattle.area_space.specs.lisp_graph.declared.object.Value.{Value}
use Rattle.mem_port.specs.Store as Memory
use Rattle.area_space.specs.Table.{Table}
use Rattle.obj_layout.specs.Forwards.{word_at}
use Rattle.lisp_ground.specs.lisp_meaning.Roles.{value_of}
use Rattle.lisp_ground.specs.lisp_meaning.Interpretation.{Interpretation}
use Rattle.transporter.specs.LiveWordsUnchanged.{LiveWordsUnchangedExcept}
use Rattle.transporter.specs.Transports.{RepresentedByLaterMap}

-- the ground represents the same objects by a later map, by which the word has this value
pub record MeansOn (m : Memory.Store) (t : Table) (m' : Memory.Store) (t' : Table) (it : Interpretation) (word : Parts) (value : Value) : Type 0 where
  pub later : RepresentedByLaterMap m t m' t' it
  pub value_is : value_of later.map.role word.content ≡ Some value

-- The word at an address has this content and the cdr code that it had. No other used word of a live region has changed. (Six parameters: memory and table, each before and after, an address, and its new content.)
pub record SettlesAt (m : Memory.Store) (t : Table) (m' : Memory.Store) (t' : Table) (a : ℕ) (content : Content) : Type 0 where
  pub code : (word_at m'.words a).cdr ≡ (word_at m.words a).cdr
  pub settled : (word_at m'.words a).content ≡ content
  pub others : LiveWordsUnchangedExcept m t m' t' a
