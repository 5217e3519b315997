use Rattle.lisp_heap.proofs.heap.Heap.space.Goals as goal

pub returns-clause-sizes : goal.returns-clause-sizes
returns-clause-sizes g c = rw (← c.self.view_is) c.self.invariant.sizes
