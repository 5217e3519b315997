use Rattle.lisp_heap.proofs.HeapDumps.{dumped_of_state}
use Rattle.lisp_heap.proofs.heap.Heap.dump.Goals as goal

pub returns-clause-text : goal.returns-clause-text
returns-clause-text g c = dumped_of_state c.args.self c.args.areas.now c.dump_from.result.1 c.dump_from.ensures.value

pub returns-clause-stands : goal.returns-clause-stands
returns-clause-stands g c = c.dump_from.ensures.stands.stands

pub returns-clause-read : goal.returns-clause-read
returns-clause-read g c = c.dump_from.ensures.stands
