use Rattle.std.proofs.Common.{◌∙◌, ap}
use Rattle.lisp_heap.specs.Walking.{graph_in}
use Rattle.lisp_heap.proofs.HeapDumps.{goes_on}
use Rattle.lisp_heap.proofs.heap.dumping.WalkedHeapWalk.form_of.Goals as goal

pub invariant_of-self : goal.invariant_of-self
invariant_of-self g c = goes_on g.O.WalkStart.start c.self.inside.heap c.form_of.new.self c.self.invariant c.form_of.ensures.stands

pub returns-clause-unchanged : goal.returns-clause-unchanged
returns-clause-unchanged g c = c.form_of.ensures.unchanged ∙ ap graph_in c.self.view_is
