-- The numbers that a dump gives to the objects that the registers reach.
use Rattle.std.specs.Prelude.{◌≡◌, ℕ, zero, suc, ◌+◌, ◌≤◌, ◌⊎◌, List, [], ◌∷◌, ◌++◌, length, Bool, true, false, ◌==◌, if◌then◌else◌, Option, Some, None, map, slice_get}
use Rattle.std.specs.List.{All, list_any}
use Rattle.world_text.specs.declared.writing.numbering.Numbering.{Numbering}
use Rattle.lisp_graph.specs.KeyedGraph.{KeyedGraph, Shows}
use Rattle.lisp_graph.specs.declared.walk.Seen.{Seen}
use Rattle.lisp_graph.specs.declared.walk.Seen.TheVariants.{Cons, Block}

-- whether this key is one of those that have a number; the keys are in the order of their numbers
abbrev pub is_numbered : List ℕ → ℕ → Bool
is_numbered keys key = list_any (λ k. key == k) keys

-- the cons to which a value refers, if it has no number yet
abbrev pub next_cons : List ℕ → Seen → Option ℕ
next_cons keys (Cons key) = if is_numbered keys key then None else Some key
next_cons keys _ = None

-- a cons gets the next number; if its cdr refers to a cons without a number, that one gets the next, and so on along the cdrs
pub data Chained (graph : KeyedGraph) : List ℕ → ℕ → List ℕ → Type 0 where
  ends : (keys : List ℕ) (key : ℕ) → next_cons (keys ++ key ∷ []) (graph.field key 1) ≡ None → Chained graph keys key (keys ++ key ∷ [])
  goes : (keys : List ℕ) (key next : ℕ) (all : List ℕ) → next_cons (keys ++ key ∷ []) (graph.field key 1) ≡ Some next
      → Chained graph (keys ++ key ∷ []) next all → Chained graph keys key all

-- a value is visited: nothing changes if it isn't a reference, or refers to an object that has a number
abbrev pub Visited : KeyedGraph → List ℕ → Seen → List ℕ → Type 0
Visited graph keys (Cons key) all = (is_numbered keys key ≡ true × (all ≡ keys)) ⊎ (is_numbered keys key ≡ false × Chained graph keys key all)
Visited graph keys (Block key) all = (is_numbered keys key ≡ true × (all ≡ keys)) ⊎ (is_numbered keys key ≡ false × (all ≡ keys ++ key ∷ []))
Visited graph keys _ all = all ≡ keys

-- values are visited, one after another
pub data AllVisited (graph : KeyedGraph) : List ℕ → List Seen → List ℕ → Type 0 where
  none : (keys : List ℕ) → AllVisited graph keys [] keys
  more : (keys middle all : List ℕ) (value : Seen) (values : List Seen) → Visited graph keys value middle → AllVisited graph middle values all → AllVisited graph keys (value ∷ values) all

-- this many fields of an object, from this one on
abbrev pub fields_from : KeyedGraph → ℕ → ℕ → ℕ → List Seen
fields_from graph key index zero = []
fields_from graph key index (suc left) = graph.field key index ∷ fields_from graph key (index + 1) left

-- the fields of an object; of a cons the car, then the cdr
abbrev pub fields_of : KeyedGraph → ℕ → List Seen
fields_of graph key = fields_from graph key 0 (graph.form key).length

-- the fields of the numbered objects are visited, from this number on, until no numbered object remains
pub data Walked (graph : KeyedGraph) : List ℕ → ℕ → List ℕ → Type 0 where
  done : (keys : List ℕ) (number : ℕ) → length keys ≤ number → Walked graph keys number keys
  step : (keys middle all : List ℕ) (number key : ℕ) → slice_get keys number ≡ Some key
      → AllVisited graph keys (fields_of graph key) middle → Walked graph middle (number + 1) all → Walked graph keys number all

-- the keys in the order of their numbers: the values of the registers are visited, and then the fields
pub record IsNumbering (graph : KeyedGraph) (all : List ℕ) : Type 0 where
  pub roots : List ℕ
  pub registers : AllVisited graph [] graph.registers roots
  pub objects : Walked graph roots 0 all

-- a reference to a cons or to a block
abbrev pub seen_as : Bool → ℕ → Seen
seen_as cons key = if cons then Cons key else Block key

-- the keys are those of objects, and the flags say which of them are conses
pub record IsKnown (graph : KeyedGraph) (numbering : Numbering) : Type 0 where
  pub all : All (λ key. Shows graph (seen_as (graph.cons key) key)) numbering.keys
  pub conses : numbering.conses ≡ map graph.cons numbering.keys
