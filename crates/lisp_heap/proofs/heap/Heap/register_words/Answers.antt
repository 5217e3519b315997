use Rattle.std.proofs.Common.{arith}
use Rattle.lisp_heap.proofs.heap.Heap.register_words.Goals as goal

pub returns-clause-at_most : goal.returns-clause-at_most
returns-clause-at_most g c = rw (← c.self.view_is) (let a = c.self.invariant.registers in let b = c.self.invariant.sizes.registers.1 in omega (arith, a, b))
