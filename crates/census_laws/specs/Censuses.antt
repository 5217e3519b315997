-- A census of what the words show, and of the states that they represent.
use Rattle.std.specs.Prelude.{List}
use Rattle.store_word.specs.Words.{Parts}
use Rattle.lisp_graph.specs.KeyedGraph.{keyed}
use Rattle.mem_port.specs.Store as Memory
use Rattle.area_space.specs.Table.{Table}
use Rattle.word_graph.specs.lisp_meaning.State.{State}
use Rattle.word_graph.specs.lisp_meaning.Flip.{graph_of}
use Rattle.word_graph.specs.lisp_meaning.Roles.{RoleMap}
use Rattle.word_graph.specs.lisp_ground.GroundInvariant.{GroundInvariant}
use Rattle.word_graph.specs.lisp_meaning.Interpretation.{interpretation}
use Rattle.word_graph.specs.Placed.{MeanValues}
use Rattle.word_graph.specs.Shown.{shown_by}
use Rattle.why_held.specs.declared.rows.CensusRow.{CensusRow}
use Rattle.why_held.specs.Reached.{IsReachedCensus}
use Rattle.lisp_heap.specs.HeapView.{HeapView}
use Rattle.lisp_heap.specs.Stands.{Stands}
use Rattle.lisp_heap.specs.Walking.{graph_in}

-- a census of what is reached in the graph that the words of a ground show is a census of what the state's registers reach
abbrev pub OfGround : Type 0
OfGround = (m : Memory.Store) (t : Table) (registers : List Parts) (k : RoleMap) (s : State) → GroundInvariant m t (interpretation k s) → MeanValues k registers s.registers
    → (rows : List CensusRow) → IsReachedCensus (shown_by m t registers) rows → IsReachedCensus (keyed (graph_of s)) rows

-- and so is a census of what is reached in that of a heap
abbrev pub OfHeap : Type 0
OfHeap = (heap : HeapView) (s : State) → Stands heap s → (rows : List CensusRow) → IsReachedCensus (graph_in heap) rows → IsReachedCensus (keyed (graph_of s)) rows

-- A census of what is reached in the graph shown is a census of each state that is represented.
pub record CensusesAreOfStates : Type 0 where
  pub ground : OfGround
  pub heap : OfHeap
