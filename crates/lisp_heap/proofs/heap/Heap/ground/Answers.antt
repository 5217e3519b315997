use Rattle.lisp_heap.proofs.HeapReads.{ground_looked}
use Rattle.lisp_heap.proofs.heap.Heap.ground.Goals as goal

pub returns-clause-sound : goal.returns-clause-sound
returns-clause-sound g c = ground_looked (g.M.Memory.seen c.self.inside.ground.mem) _ _ _ _ _ _ _ c.self.invariant
