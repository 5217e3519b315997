use Rattle.lisp_heap.proofs.HeapReads.{pages_looked}
use Rattle.lisp_heap.proofs.heap.Heap.scan.Goals as goal

pub returns-clause-pages : goal.returns-clause-pages
returns-clause-pages g c = rw (← c.self.view_is) (pages_looked (g.M.Memory.seen c.self.inside.ground.mem) _ _ _ _ _ _ _ c.self.invariant)
