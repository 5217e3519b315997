use Rattle.lisp_heap.proofs.HeapReads.{clean_looked, pages_looked}
use Rattle.lisp_heap.proofs.heap.Heap.next_unit.Goals as goal

pub next_unit-requires-clause-pages : goal.next_unit-requires-clause-pages
next_unit-requires-clause-pages g c = pages_looked (g.M.Memory.seen c.self.inside.ground.mem) _ _ _ _ _ _ _ c.self.invariant

pub next_unit-requires-clause-paged : goal.next_unit-requires-clause-paged
next_unit-requires-clause-paged g c runs = (clean_looked (g.M.Memory.seen c.self.inside.ground.mem) _ _ _ _ _ _ _ c.self.invariant runs).paged
