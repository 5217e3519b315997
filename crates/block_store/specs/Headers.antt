-- What references to blocks lead to, and what calls return about it.
use Rattle.std.specs.Prelude.{◌≡◌, ℕ, ◌+◌, ◌/◌, ◌<◌, List, length, Some, Contains}
use Rattle.store_word.specs.Words.{Parts}
use Rattle.store_word.specs.declared.word.Content.{Content}
use Rattle.store_word.specs.declared.word.Content.TheVariants.{Struct as StructAt, Header}
use Rattle.store_word.specs.declared.sizes.TheConstants.{REGION_WORDS}
use Rattle.area_space.specs.lisp_graph.declared.object.Value.{Value}
use Rattle.area_space.specs.lisp_graph.declared.object.Value.TheVariants as V
use Rattle.mem_port.specs.Store as Memory
use Rattle.area_space.specs.declared.classes.Class.{Class}
use Rattle.area_space.specs.Table.{Table, areas_of, levels_of, live, chain, slot_of}
use Rattle.obj_layout.specs.Forwards.{word_at, Final, IsFinal}
use Rattle.transporter.specs.lisp_meaning.State.{object}
use Rattle.transporter.specs.lisp_meaning.Roles.{header_of, value_of}
use Rattle.transporter.specs.lisp_ground.GroundInvariant.{GroundInvariant}
use Rattle.transporter.specs.lisp_meaning.Interpretation.{Interpretation}
use Rattle.block_store.specs.declared.header.Head.{Head}

-- Words

-- a header is at the final address of a reference to a block, and all words of the block are in the memory
pub record CanFind (words : List Parts) (content : Content) : Type 0 where
  pub place : (at : ℕ) → content ≡ StructAt at → (to : ℕ) × (to < length words) × Final words at to
  pub header : (at to : ℕ) → content ≡ StructAt at → Final words at to → (code : ℕ) × (count : ℕ) × ((word_at words to).content ≡ Header code count)
  pub inside : (at to code count : ℕ) → content ≡ StructAt at → Final words at to → (word_at words to).content ≡ Header code count → to + count < length words

-- the content is a reference to a block, which is at its final address with this code and number of fields
pub record IsHead (words : List Parts) (content : Content) (head : Head) : Type 0 where
  pub reference : ℕ
  pub is : content ≡ StructAt reference
  pub final : Final words reference head.at
  pub last : IsFinal words head.at
  pub header : (word_at words head.at).content ≡ Header head.code head.length
  pub inside : head.at + head.length < length words

-- Classes

-- an address is in a live region of the class's area and level
pub record IsLiveIn (t : Table) (at : ℕ) (class : Class) : Type 0 where
  pub area_in : class.area < areas_of t
  pub level_in : class.level < levels_of t
  pub region : Contains (chain t (live (slot_of t class.area class.level))) (at / REGION_WORDS)

-- Objects

-- the ground represents some objects, of which the content has a value
pub record HasMeaning (m : Memory.Store) (t : Table) (content : Content) : Type 0 where
  pub it : Interpretation
  pub kept : GroundInvariant m t it
  pub value : Value
  pub value_is : value_of it.map.role content ≡ Some value

-- whatever objects the ground represents, the one to which the content refers is a block of `count` fields
abbrev pub TellsLength : Memory.Store → Table → Content → ℕ → Type 0
TellsLength m t content count =
    (it : Interpretation) (n : ℕ) → GroundInvariant m t it → value_of it.map.role content ≡ Some (V.Ref n)
    → (code : ℕ) × (header_of (object it.store n).body ≡ Some (code, count))

-- or a block of this code
abbrev pub TellsCode : Memory.Store → Table → Content → ℕ → Type 0
TellsCode m t content code =
    (it : Interpretation) (n : ℕ) → GroundInvariant m t it → value_of it.map.role content ≡ Some (V.Ref n)
    → (count : ℕ) × (header_of (object it.store n).body ≡ Some (code, count))

-- or a block in this area
abbrev pub TellsArea : Memory.Store → Table → Content → ℕ → Type 0
TellsArea m t content area =
    (it : Interpretation) (n : ℕ) → GroundInvariant m t it → value_of it.map.role content ≡ Some (V.Ref n) → (object it.store n).area ≡ area
