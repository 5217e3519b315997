-- The objects that the registers of a walk reach.
use Rattle.std.specs.Prelude.{◌≡◌, ◌⊎◌, ◌↔◌, ℕ, ◌<◌, ◌≤◌, List, [], ◌∷◌, ◌++◌, length, map, Bool, Option, Some, None, if◌then◌else◌, nat_eq, slice_index}
use Rattle.std.specs.List.{Contains, IsDistinct}
use Rattle.lisp_graph.specs.KeyedGraph.{KeyedGraph}
use Rattle.lisp_graph.specs.declared.walk.Seen.{Seen}
use Rattle.lisp_graph.specs.declared.walk.Seen.TheVariants.{Fix, Nil, Cons, Block}
use Rattle.lisp_graph.specs.declared.walk.Form.{Form}
use Rattle.world_text.specs.declared.writing.numbering.Numbering.{Numbering}
use Rattle.world_text.specs.Numbering.{fields_of}
use Rattle.why_held.specs.declared.rows.CensusRow.{CensusRow}
use Rattle.why_held.specs.declared.rows.Counted.{Counted}
use Rattle.why_held.specs.Census.{IsCensus}

-- the key of the object to which a value refers
abbrev pub key_of : Seen → Option ℕ
key_of (Cons key) = Some key
key_of (Block key) = Some key
key_of Nil = None
key_of (Fix number) = None

-- one of these values refers to the object with this key
abbrev pub Refer : List Seen → ℕ → Type 0
Refer [] key = ⊥
Refer (value ∷ values) key = (key_of value ≡ Some key) ⊎ Refer values key

-- An object is reached if a register refers to it, or a field of an object that is reached.
pub data IsReached (graph : KeyedGraph) : ℕ → Type 0 where
  from_register : (key : ℕ) → Refer graph.registers key → IsReached graph key
  from_field : (from key : ℕ) → IsReached graph from → Refer (fields_of graph from) key → IsReached graph key

-- the keys of the objects that are reached, each once
pub record AreReached (graph : KeyedGraph) (keys : List ℕ) : Type 0 where
  pub each : (key : ℕ) → Contains keys key ↔ IsReached graph key
  pub once : IsDistinct nat_eq keys

-- what a census uses of an object of this form
abbrev pub counted_form : Form → Bool → Counted
counted_form form cons = record { area = form.area; code = if cons then None else Some form.code; charge = form.charge }

-- what a census uses of the object with a key
abbrev pub counted_key : KeyedGraph → ℕ → Counted
counted_key graph key = counted_form (graph.form key) (graph.cons key)

-- The census of the objects that are reached.
pub record IsReachedCensus (graph : KeyedGraph) (rows : List CensusRow) : Type 0 where
  pub keys : List ℕ
  pub reached : AreReached graph keys
  pub census : IsCensus (map (counted_key graph) keys) rows

-- While they are found

-- the objects to which these values refer are found; those that weren't found before are added
pub record Meets (values : List Seen) (old new : Numbering) : Type 0 where
  pub added : List ℕ
  pub grows : new.keys ≡ old.keys ++ added
  pub finds : (key : ℕ) → Refer values key → Contains new.keys key
  pub only : (key : ℕ) → Contains added key → Refer values key
  pub once : IsDistinct nat_eq old.keys → IsDistinct nat_eq new.keys

-- The first `number` of the objects that were found are done: all that was found is reached, and includes what the registers and the objects that are done refer to.
pub record IsReaching (graph : KeyedGraph) (number : ℕ) (met : Numbering) : Type 0 where
  pub sound : (key : ℕ) → Contains met.keys key → IsReached graph key
  pub registers : (key : ℕ) → Refer graph.registers key → Contains met.keys key
  pub closed : (place : ℕ) → place < number → (key : ℕ) → Refer (fields_of graph (slice_index met.keys place)) key → Contains met.keys key
  pub within : number ≤ length met.keys
  pub once : IsDistinct nat_eq met.keys
