use Rattle.lisp_heap.proofs.HeapWalks.{dump_is_of_state}
use Rattle.lisp_heap.proofs.laws.walks_show_states.Goals as goal

pub returns : goal.returns
returns c = dump_is_of_state
