-- Fields of a block are written and read.
use Rattle.std.specs.Prelude.{◌≡◌, ℕ, suc, ◌+◌, ◌<◌, ◌≤◌, List, slice_set, Some}
use Rattle.store_word.specs.Words.{Parts}
use Rattle.store_word.specs.declared.word.Content.{Content}
use Rattle.store_word.specs.declared.word.Content.TheVariants.{Struct as StructAt}
use Rattle.area_space.specs.lisp_graph.declared.object.Value.{Value}
use Rattle.area_space.specs.lisp_graph.declared.object.Value.TheVariants as V
use Rattle.area_space.specs.lisp_graph.declared.object.Body.TheVariants.{Block}
use Rattle.area_space.specs.lisp_graph.Graph.{value_at}
use Rattle.mem_port.specs.Store as Memory
use Rattle.area_space.specs.Table.{Table}
use Rattle.obj_layout.specs.Forwards.{word_at, Final}
use Rattle.transporter.specs.lisp_meaning.State.{object}
use Rattle.transporter.specs.lisp_meaning.Changes.{put_body}
use Rattle.transporter.specs.lisp_meaning.Roles.{value_of}
use Rattle.transporter.specs.lisp_ground.GroundInvariant.{GroundInvariant}
use Rattle.transporter.specs.lisp_meaning.Interpretation.{Interpretation}
use Rattle.transporter.specs.lisp_ground.After.{AfterStore}
use Rattle.transporter.specs.Marking.{MarksFollowBut}
use Rattle.transporter.specs.Settled.{MeansOn}
use Rattle.transporter.specs.Settling.{RefersToOld}
pub use Rattle.transporter.specs.Reading.{CanRead, IsReadable}
use Rattle.transporter.specs.Transports.{RepresentedByLaterMap}
use Rattle.block_store.specs.declared.header.Head.{Head}
use Rattle.block_store.specs.Headers.{IsHead}

-- Places

-- the field of this index of the block to which the content refers is at this address
pub record IsFieldPlace (words : List Parts) (content : Content) (index at : ℕ) : Type 0 where
  pub head : Head
  pub is : IsHead words content head
  pub low : index < head.length
  pub place : at ≡ suc head.at + index

-- the block to which the content refers has `count` fields, and none of this index
pub record LacksField (words : List Parts) (content : Content) (index count : ℕ) : Type 0 where
  pub head : Head
  pub is : IsHead words content head
  pub count_is : count ≡ head.length
  pub past : count ≤ index

-- Writes

-- the ground represents some objects, of which the reference has a value, and so has the word that is to be written, which has no old address
pub record CanSet (m : Memory.Store) (t : Table) (content : Content) (written : Parts) : Type 0 where
  pub it : Interpretation
  pub kept : GroundInvariant m t it
  pub value : Value
  pub value_is : value_of it.map.role content ≡ Some value
  pub new : Value
  pub new_is : value_of it.map.role written.content ≡ Some new
  pub young : RefersToOld t written → ⊥

-- whatever objects the ground represented, it represents them by the same map, with the value of what was written in the field of this index. (Six parameters: the memory before and after, the table, which stays the same, and a block, an index and a content, which vary independently.)
abbrev pub SetsField : Memory.Store → Table → Memory.Store → Content → ℕ → Content → Type 0
SetsField m t m' content index written =
    (it : Interpretation) (n code : ℕ) (fields : List Value) (new : Value)
    → GroundInvariant m t it → value_of it.map.role content ≡ Some (V.Ref n) → (object it.store n).body ≡ Block code fields → value_of it.map.role written ≡ Some new
    → AfterStore m t m' it (put_body it.store n (Block code (slice_set fields index new)))

-- the word is stored in the field of this index, with the cdr code that was there, and no other word is
abbrev pub WritesField : Memory.Store → Memory.Store → Content → ℕ → Parts → Type 0
WritesField m m' content index word =
    (at to : ℕ) → content ≡ StructAt at → Final m.words at to
    → Memory.Stores m m' (suc to + index) (record word { cdr = (word_at m.words (suc to + index)).cdr })

-- no page except that of the field of this index gets marks without a word that may give them. (Six parameters: memory and table, each before and after, and a field as its block and index.)
abbrev pub MarksField : Memory.Store → Table → Memory.Store → Table → Content → ℕ → Type 0
MarksField m t m' t' content index = (at to : ℕ) → content ≡ StructAt at → Final m.words at to → MarksFollowBut m t m' t' (suc to + index)

-- Reads

-- whatever objects the ground represented, it represents them, and the word means the field of this index. (Seven parameters: memory and table, each before and after, a field as its block and index, and the word that was read.)
abbrev pub ReadsField : Memory.Store → Table → Memory.Store → Table → Content → ℕ → Parts → Type 0
ReadsField m t m' t' content index word =
    (it : Interpretation) (registers : List Value) (n code : ℕ) (fields : List Value)
    → CanRead m t it registers content (V.Ref n) → (object it.store n).body ≡ Block code fields → MeansOn m t m' t' it word (value_at fields index)

-- whatever objects the ground represented, of which the content had a value, it represents them by a later map
abbrev pub KeepsBlock : Memory.Store → Table → Memory.Store → Table → Content → Type 0
KeepsBlock m t m' t' content =
    (it : Interpretation) (registers : List Value) (v : Value)
    → CanRead m t it registers content v → RepresentedByLaterMap m t m' t' it
