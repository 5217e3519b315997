-- A heap that represents a state has its meaning.
use Rattle.word_graph.specs.lisp_meaning.State.{State}
use Rattle.word_graph.specs.lisp_meaning.Stands.{Stands as Means}
use Rattle.word_graph.proofs.lisp_meaning.reading.Adequacy.{stands_under}
use Rattle.heap_state.proofs.MachineInvariant.{strong}
use Rattle.lisp_heap.specs.HeapView.{HeapView, store_of}
use Rattle.lisp_heap.specs.Stands.{Stands, machine_of}

pub means : (heap : HeapView) (s : State) → Stands heap s → Means (machine_of heap) s
means heap s st =
    (st.map.at, stands_under (machine_of heap) st.map s (strong (store_of heap.memory) heap.table heap.scan heap.registers st.map s st.represents.represents st.represents.scans st.represents.reach st.represents.marks))
