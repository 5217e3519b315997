use Rattle.lisp_heap.proofs.heap.Heap.kinds.Goals as goal

pub returns-clause-size : goal.returns-clause-size
returns-clause-size g c = rw (← c.self.view_is) c.kinds.ensures.size

pub returns-clause-at_most : goal.returns-clause-at_most
returns-clause-at_most g c = rw (← c.self.view_is) c.kinds.ensures.at_most
