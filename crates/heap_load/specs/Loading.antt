-- What a ground and registers represent while a world is loaded.
use Rattle.std.specs.Prelude.{◌≡◌, ℕ, zero, suc, ◌+◌, ◌<◌, ◌≤◌, true, false, List, [], length, drop, replicate, Some}
use Rattle.store_word.specs.Words.{Parts}
use Rattle.store_word.specs.declared.word.CdrCode.{CdrCode}
use Rattle.store_word.specs.declared.word.CdrCode.TheVariants.{Next as CdrNext, Nil as CdrNil, Normal}
use Rattle.store_word.specs.declared.word.Content.TheVariants.{List as ListAt, Struct as StructAt}
use Rattle.store_word.specs.declared.word.Tag.{Tag}
use Rattle.store_word.specs.declared.word.Tag.TheVariants.{List as ListTag, Struct as StructTag}
use Rattle.store_word.specs.Words.{tag_of}
use Rattle.lisp_graph.specs.declared.object.Value.TheVariants as V
use Rattle.lisp_graph.specs.declared.object.Value.{Value}
use Rattle.lisp_graph.specs.declared.object.Body.{Body}
use Rattle.lisp_graph.specs.declared.object.Body.TheVariants.{Cons, Block}
use Rattle.lisp_graph.specs.declared.object.Object.{Object}
use Rattle.lisp_graph.specs.declared.world.World.{World}
use Rattle.lisp_graph.specs.Graph.{is_ref, object_at}
use Rattle.lisp_graph.specs.Groups.{group_size, is_cell, to_tail}
use Rattle.lisp_graph.specs.World.{IsWorld}
use Rattle.mem_port.specs.Store.{Store}
use Rattle.area_space.specs.Table.{Table}
use Rattle.block_store.specs.obj_layout.Forwards.{word_at, IsFinal}
use Rattle.block_store.specs.lisp_meaning.State.{Idle, rule_of}
use Rattle.block_store.specs.lisp_meaning.Charges.{account_now}
use Rattle.block_store.specs.lisp_meaning.Opening.{opening}
use Rattle.block_store.specs.lisp_meaning.Roles.{RoleMap, value_of}
use Rattle.heap_load.specs.Drafts.{IsDraft, is_known, with_objects}
use Rattle.block_store.specs.lisp_ground.GroundInvariant.{GroundInvariant}
use Rattle.block_store.specs.lisp_meaning.Interpretation.{Interpretation, interpretation}
use Rattle.heap_state.specs.PhaseAgrees.{PhaseAgrees}
use Rattle.heap_state.specs.Represents.{Represents}
use Rattle.cdr_lists.specs.Lists.{cell_code}
use Rattle.heap_load.specs.Places.{PlaceView, place_at}

-- Worlds

-- the world's objects fit the quotas of their areas
abbrev pub FitsQuotas : World → Type 0
FitsQuotas world = (area : ℕ) → area < length world.areas → account_now (opening world) area ≤ (rule_of world.areas area).quota

-- a world that can be loaded
pub record IsLoadable (world : World) : Type 0 where
  pub is : IsWorld world
  pub fits : FitsQuotas world

-- the same space and areas, without objects, and with nil as each root
abbrev pub emptied : World → World
emptied world = record world { objects = []; roots = replicate world.space.registers V.Nil }

-- how many conses form a group from the object with this number on: at most 1,024, or 0 if there is none
abbrev pub group_from : List Object → ℕ → ℕ
group_from objects number = group_size (to_tail (object_at objects number).area number (drop number objects))

-- the objects from this number up to another are conses of one area and of charge 3, and the cdr of each refers to the next object
abbrev pub AreLinked : List Object → ℕ → ℕ → Type 0
AreLinked objects number end = (i : ℕ) → number ≤ i → i < end → is_cell (object_at objects number).area (is_ref (i + 1)) (object_at objects i) ≡ true

-- What is represented

-- the ground and the registers represent the world before its first command, by a map
pub record RepresentsWorld (m : Store) (t : Table) (registers : List Parts) (world : World) : Type 0 where
  pub map : RoleMap
  pub represents : Represents m t registers map (opening world)

-- they do for some world of the same space and areas
pub record RepresentsSome (m : Store) (t : Table) (registers : List Parts) (world : World) : Type 0 where
  pub objects : List Object
  pub roots : List Value
  pub represents : RepresentsWorld m t registers (record world { objects = objects; roots = roots })

-- The ground

-- these objects in a world's areas, by a map, while no collection runs
abbrev pub loaded : World → RoleMap → List Object → Interpretation
loaded world map objects = interpretation map (opening (with_objects world objects))

-- the ground represents them
pub record Holds (m : Store) (t : Table) (world : World) (objects : List Object) : Type 0 where
  pub map : RoleMap
  pub kept : GroundInvariant m t (loaded world map objects)
  pub aims : PhaseAgrees t Idle

-- it does for some objects
pub record HoldsSome (m : Store) (t : Table) (world : World) : Type 0 where
  pub objects : List Object
  pub holds : Holds m t world objects

-- the tag of a reference to an object of this body
abbrev pub tag_for : Body → Tag
tag_for (Cons car cdr) = ListTag
tag_for (Block code fields) = StructTag

-- a place has the reference to the object with this number, which has this body
pub record IsPlace (k : RoleMap) (place : PlaceView) (number : ℕ) (body : Body) : Type 0 where
  pub names : value_of k.role place.word.content ≡ Some (V.Ref number)
  pub tag : tag_of place.word.content ≡ tag_for body

-- the first `count` objects of a world are made as drafts, and have their places
pub record Drafted (m : Store) (t : Table) (world : World) (places : List PlaceView) (count : ℕ) : Type 0 where
  pub objects : List Object
  pub holds : Holds m t world objects
  pub count_is : length objects ≡ count
  pub places_are : (i : ℕ) → i < count → IsPlace holds.map (place_at places i) i (object_at world.objects i).body
  pub drafts : (i : ℕ) → i < count → IsDraft i (object_at world.objects i) (object_at objects i) (place_at places i).cell

-- all objects are made and have their places; the first `count` have their parts, and the others are drafts
pub record Filled (m : Store) (t : Table) (world : World) (places : List PlaceView) (count : ℕ) : Type 0 where
  pub objects : List Object
  pub holds : Holds m t world objects
  pub count_is : length objects ≡ length world.objects
  pub places_are : (i : ℕ) → i < length world.objects → IsPlace holds.map (place_at places i) i (object_at world.objects i).body
  pub filled : (i : ℕ) → i < count → object_at objects i ≡ object_at world.objects i
  pub drafts : (i : ℕ) → count ≤ i → i < length world.objects → IsDraft i (object_at world.objects i) (object_at objects i) (place_at places i).cell

-- the same, and the next object has this body so far
pub record Filling (m : Store) (t : Table) (world : World) (places : List PlaceView) (count : ℕ) (body : Body) : Type 0 where
  pub objects : List Object
  pub holds : Holds m t world objects
  pub count_is : length objects ≡ length world.objects
  pub places_are : (i : ℕ) → i < length world.objects → IsPlace holds.map (place_at places i) i (object_at world.objects i).body
  pub filled : (i : ℕ) → i < count → object_at objects i ≡ object_at world.objects i
  pub next : object_at objects count ≡ record (object_at world.objects count) { body = body }
  pub drafts : (i : ℕ) → count < i → i < length world.objects → IsDraft i (object_at world.objects i) (object_at objects i) (place_at places i).cell

-- the same, and the next object is a pair with this car, and with this cdr if that was known when the pair was made
pub record CarFilled (m : Store) (t : Table) (world : World) (places : List PlaceView) (count : ℕ) (car cdr : Value) : Type 0 where
  pub rest : Value
  pub filling : Filling m t world places count (Cons car rest)
  pub known : is_known count cdr ≡ true → rest ≡ cdr

-- Where conses are stored

-- the cdr code in the first word of a cons with which a group of this many conses begins: NORMAL if there is none, NIL at its last cons, otherwise NEXT
abbrev pub code_for : ℕ → CdrCode
code_for zero = Normal
code_for (suc zero) = CdrNil
code_for (suc (suc count)) = CdrNext

-- the cons with this number, one of `count` that are made, is in its place, which holds no forward, with the cdr code of its group; the next cons of the group is made too, and lies in the next word
pub record StandsIn (words : List Parts) (places : List PlaceView) (objects : List Object) (count number : ℕ) : Type 0 where
  pub at : ℕ
  pub place_is : (place_at places number).word.content ≡ ListAt at
  pub final : IsFinal words at
  pub code : (word_at words at).cdr ≡ code_for (group_from objects number)
  pub next : 2 ≤ group_from objects number → (suc number < count) × ((place_at places (suc number)).word.content ≡ ListAt (suc at))
  pub alone : (place_at places number).cell ≡ false → group_from objects number ≡ 0
  pub together : (place_at places number).cell ≡ true → 1 ≤ group_from objects number

-- the block with this number and number of fields is in its place, which holds no forward; its fields have the cdr code of a register's word
pub record BlockStandsIn (words : List Parts) (places : List PlaceView) (fields number : ℕ) : Type 0 where
  pub at : ℕ
  pub place_is : (place_at places number).word.content ≡ StructAt at
  pub final : IsFinal words at
  pub codes : (i : ℕ) → i < fields → (word_at words (suc at + i)).cdr ≡ CdrNext

-- each cons and each block among the first `count` objects of a world is in its place
pub record Laid (words : List Parts) (places : List PlaceView) (objects : List Object) (count : ℕ) : Type 0 where
  pub each : (i : ℕ) → i < count → (car cdr : Value) → (object_at objects i).body ≡ Cons car cdr → StandsIn words places objects count i
  pub blocks : (i : ℕ) → i < count → (code : ℕ) (fields : List Value) → (object_at objects i).body ≡ Block code fields → BlockStandsIn words places (length fields) i

-- the `count` objects from this number on are in consecutive words, each with the cdr code of a cell
pub record AreCells (words : List Parts) (at : ℕ → ℕ) (number count : ℕ) : Type 0 where
  pub behind : (i : ℕ) → i < count → at (number + i) ≡ at number + i
  pub codes : (i : ℕ) → i < count → (word_at words (at (number + i))).cdr ≡ cell_code count i

-- the conses of each group are cells, and each other cons is a pair
pub record AreGrouped (words : List Parts) (at : ℕ → ℕ) (objects : List Object) : Type 0 where
  pub cells : (number : ℕ) → AreCells words at number (group_from objects number)
  pub pairs : (number : ℕ) (car cdr : Value) → number < length objects → (object_at objects number).body ≡ Cons car cdr → group_from objects number ≡ 0 → (word_at words (at number)).cdr ≡ Normal

-- the ground and the registers represent the world, whose conses have this layout at the addresses of their names
pub record RepresentsGroups (m : Store) (t : Table) (registers : List Parts) (world : World) : Type 0 where
  pub represents : RepresentsWorld m t registers world
  pub grouped : AreGrouped m.words represents.map.at world.objects
