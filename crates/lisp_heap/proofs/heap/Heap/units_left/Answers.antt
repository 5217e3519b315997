use Rattle.std.proofs.Common.{sym, ◌∙◌}
use Rattle.lisp_heap.proofs.HeapReads.{clean_looked}
use Rattle.lisp_heap.proofs.Units.{nothing_left}
use Rattle.lisp_heap.proofs.heap.Heap.units_left.Goals as goal

pub units_left-requires : goal.units_left-requires
units_left-requires g c = rw (c.deref.ensures.value) (clean_looked (g.M.Memory.seen c.self.inside.ground.mem) _ _ _ _ _ _ _ c.self.invariant (sym c.is_over.ensures ∙ c.if-is_over.false))

pub returns-then-is_over : goal.returns-then-is_over
returns-then-is_over g c = rw (← c.self.view_is) (sym (nothing_left _ c.self.invariant (sym c.is_over.ensures ∙ c.if-is_over.true)))
