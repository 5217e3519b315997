-- What a dump writes.
use Rattle.std.specs.Prelude.{◌≡◌, ℕ, ◌<◌, ◌≤◌, ◌^◌, List, length, Bool, ◌==◌, if◌then◌else◌, map, Option, Some, None, position, Result, Ok, Err}
use Rattle.std.specs.List.{All}
use Rattle.store_word.specs.declared.space.Space.{Space}
use Rattle.lisp_graph.specs.Graph.{value_at}
use Rattle.lisp_graph.specs.KeyedGraph.{KeyedGraph, Shows}
use Rattle.lisp_graph.specs.declared.object.Value.{Value}
use Rattle.lisp_graph.specs.declared.object.Value.TheVariants as V
use Rattle.lisp_graph.specs.declared.object.Body.{Body}
use Rattle.lisp_graph.specs.declared.object.Body.TheVariants as B
use Rattle.lisp_graph.specs.declared.object.Object.{Object}
use Rattle.lisp_graph.specs.declared.walk.Seen.{Seen}
use Rattle.lisp_graph.specs.declared.walk.Seen.TheVariants.{Fix, Nil, Cons, Block}
use Rattle.lisp_graph.specs.declared.world.AreaRule.{AreaRule}
use Rattle.world_text.specs.declared.fault.DumpFault.{DumpFault}
use Rattle.world_text.specs.declared.fault.DumpFault.TheVariants.{NoMemory, Swap}
use Rattle.world_text.specs.writing.Numbering.{IsNumbering, fields_of, seen_as}
use Rattle.world_text.specs.writing.File.{file_text}

-- the number of a key as a reference
abbrev pub reference : Option ℕ → Value
reference None = V.Nil
reference (Some number) = V.Ref number

-- a value with the number of the object to which it refers
abbrev pub dumped_value : List ℕ → Seen → Value
dumped_value keys (Fix number) = V.Fix number
dumped_value keys Nil = V.Nil
dumped_value keys (Cons key) = reference (position (λ k. key == k) keys)
dumped_value keys (Block key) = reference (position (λ k. key == k) keys)

abbrev pub dumped_body : Bool → ℕ → List Value → Body
dumped_body cons code fields = if cons then B.Cons (value_at fields 0) (value_at fields 1) else B.Block code fields

-- an object with numbers in place of keys
abbrev pub dumped_object : KeyedGraph → List ℕ → ℕ → Object
dumped_object graph keys key = record {
  area = (graph.form key).area;
  charge = (graph.form key).charge;
  body = dumped_body (graph.cons key) (graph.form key).code (map (dumped_value keys) (fields_of graph key));
}

-- the text of a dump whose objects have these numbers
abbrev pub dump_of : KeyedGraph → List ℕ → Space → List AreaRule → List ℕ
dump_of graph keys space areas = file_text space areas (map (dumped_object graph keys) keys) (map (dumped_value keys) graph.registers)

-- each value in the registers and in the objects with these keys is shown as it is
pub record AreShown (graph : KeyedGraph) (keys : List ℕ) : Type 0 where
  pub objects : All (λ key. Shows graph (seen_as (graph.cons key) key)) keys
  pub registers : All (Shows graph) graph.registers
  pub fields : All (λ key. All (Shows graph) (fields_of graph key)) keys

-- the text is a dump of what the graph shows; fewer than 2^32 objects are numbered
pub record IsDump (graph : KeyedGraph) (space : Space) (areas : List AreaRule) (text : List ℕ) : Type 0 where
  pub keys : List ℕ
  pub numbering : IsNumbering graph keys
  pub shown : AreShown graph keys
  pub few : length keys < 2 ^ 32
  pub is : text ≡ dump_of graph keys space areas

-- if the answer is a swap error, then P
abbrev pub OnSwap : {T : Type 0} → Result T DumpFault → Type 0 → Type 0
OnSwap (Err (Swap fault)) P = P
OnSwap (Err NoMemory) P = Unit {0}
OnSwap (Ok x) P = Unit {0}

-- unless the answer is a swap error, P
abbrev pub OffSwap : {T : Type 0} → Result T DumpFault → Type 0 → Type 0
OffSwap (Err (Swap fault)) P = Unit {0}
OffSwap (Err NoMemory) P = P
OffSwap (Ok x) P = P

-- the count of swap errors never falls; it rose if the answer is a swap error, and otherwise is unchanged
pub record HasSwapCause {T : Type 0} (before now : ℕ) (result : Result T DumpFault) : Type 0 where
  pub later : before ≤ now
  pub failed : OnSwap result (before < now)
  pub quiet : OffSwap result (now ≡ before)
