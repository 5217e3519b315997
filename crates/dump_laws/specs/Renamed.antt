-- Graphs that show the same objects by other keys.
use Rattle.std.specs.Prelude.{◌≡◌, ℕ, ◌<◌, List, map, true}
use Rattle.trace_text.specs.store_word.declared.space.Space.{Space}
use Rattle.trace_text.specs.lisp_graph.declared.world.AreaRule.{AreaRule}
use Rattle.trace_text.specs.lisp_graph.KeyedGraph.{KeyedGraph}
use Rattle.trace_text.specs.lisp_graph.declared.walk.Seen.{Seen}
use Rattle.trace_text.specs.lisp_graph.declared.walk.Seen.TheVariants.{Fix, Nil, Cons, Block}
use Rattle.trace_text.specs.world_text.Dump.{IsDump}
use Rattle.trace_text.specs.world_text.Numbering.{is_numbered}

-- a value whose object is found by another key
abbrev pub renamed : (ℕ → ℕ) → Seen → Seen
renamed name (Fix number) = Fix number
renamed name Nil = Nil
renamed name (Cons key) = Cons (name key)
renamed name (Block key) = Block (name key)

-- The other graph shows the objects with these keys by the names of the keys, with possibly other charges.
pub record IsRenamed (name : ℕ → ℕ) (keys : List ℕ) (graph other : KeyedGraph) : Type 0 where
  pub apart : (one two : ℕ) → is_numbered keys one ≡ true → is_numbered keys two ≡ true → name one ≡ name two → one ≡ two
  pub registers : other.registers ≡ map (renamed name) graph.registers
  pub has : (key : ℕ) → is_numbered keys key ≡ true → other.has (name key) ≡ true
  pub kinds : (key : ℕ) → is_numbered keys key ≡ true → other.cons (name key) ≡ graph.cons key
  pub areas : (key : ℕ) → is_numbered keys key ≡ true → (other.form (name key)).area ≡ (graph.form key).area
  pub codes : (key : ℕ) → is_numbered keys key ≡ true → (other.form (name key)).code ≡ (graph.form key).code
  pub lengths : (key : ℕ) → is_numbered keys key ≡ true → (other.form (name key)).length ≡ (graph.form key).length
  pub fields : (key index : ℕ) → is_numbered keys key ≡ true → index < (graph.form key).length → other.field (name key) index ≡ renamed name (graph.field key index)

-- their charges are the same
abbrev pub HasSameCharges : (ℕ → ℕ) → List ℕ → KeyedGraph → KeyedGraph → Type 0
HasSameCharges name keys graph other = (key : ℕ) → is_numbered keys key ≡ true → (other.form (name key)).charge ≡ (graph.form key).charge

-- A graph has one dump, and a graph that shows the same by other keys has the same one.
pub record GraphsHaveOneDump : Type 0 where
  pub one : (graph : KeyedGraph) (space : Space) (areas : List AreaRule) (this other : List ℕ) → IsDump graph space areas this → IsDump graph space areas other → this ≡ other
  pub renamed : (name : ℕ → ℕ) (graph other : KeyedGraph) (space : Space) (areas : List AreaRule) (text : List ℕ) → (dump : IsDump graph space areas text)
      → IsRenamed name dump.keys graph other → HasSameCharges name dump.keys graph other → IsDump other space areas text
