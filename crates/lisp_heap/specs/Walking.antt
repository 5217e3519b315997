-- What a walk over a heap shows.
use Rattle.std.specs.Prelude.{◌≡◌, ◌+◌, ◌≤◌, ℕ, List, length, Option, Some, None}
use Rattle.store_word.specs.declared.space.Space.{Space}
use Rattle.lisp_graph.specs.declared.world.AreaRule.{AreaRule}
use Rattle.lisp_graph.specs.KeyedGraph.{KeyedGraph, keyed}
use Rattle.word_graph.specs.lisp_meaning.State.{State}
use Rattle.word_graph.specs.lisp_meaning.Flip.{graph_of}
use Rattle.world_text.specs.Dump.{IsDump}
use Rattle.word_graph.specs.Shown.{shown_by}
use Rattle.lisp_heap.specs.HeapView.{HeapView, SameWorld, store_of}
use Rattle.lisp_heap.specs.Stands.{Stands}

-- the graph of its words, whose keys are the addresses that the registers reach
abbrev pub graph_in : HeapView → KeyedGraph
graph_in heap = shown_by (store_of heap.memory) heap.table heap.registers

-- a dump of it is a dump of each state that the heap represents
abbrev pub DumpIsOfState : Type 0
DumpIsOfState = (heap : HeapView) (s : State) → Stands heap s → (space : Space) (areas : List AreaRule) (text : List ℕ) → IsDump (graph_in heap) space areas text → IsDump (keyed (graph_of s)) space areas text

-- A heap was only read: no word was written and no register settled, it represents each state that it represented before, and its world is the same. For each swap error at most one page fewer is resident.
pub record StandsAsBefore (old new : HeapView) : Type 0 where
  pub words : new.memory.words ≡ old.memory.words
  pub settled : new.registers ≡ old.registers
  pub table : new.table ≡ old.table
  pub scan : new.scan ≡ old.scan
  pub stands : (s : State) → Stands old s → Stands new s
  pub world : SameWorld old new
  pub room : length old.resident + old.faults ≤ length new.resident + new.faults

-- if a walk began with some heap, this one has only been read since
abbrev pub StandsSince : Option HeapView → HeapView → Type 0
StandsSince None heap = Unit {0}
StandsSince (Some start) heap = StandsAsBefore start heap
