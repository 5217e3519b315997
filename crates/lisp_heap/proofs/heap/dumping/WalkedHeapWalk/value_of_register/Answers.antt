use Rattle.std.proofs.Common.{◌≡◌, ◌∙◌, Some, ap, slice_get, subst}
use Rattle.std.specs.Result.{IfOk}
use Rattle.lisp_graph.specs.KeyedGraph.{Shows}
use Rattle.lisp_heap.specs.HeapView.{HeapView}
use Rattle.lisp_heap.specs.Walking.{graph_in}
use Rattle.lisp_heap.proofs.HeapDumps.{goes_on}
use Rattle.lisp_heap.proofs.heap.dumping.WalkedHeapWalk.value_of_register.Goals as goal

pub invariant_of-self : goal.invariant_of-self
invariant_of-self g c = goes_on g.O.WalkStart.start c.self.inside.heap c.value_of_register.new.self c.self.invariant c.value_of_register.ensures.stands

pub returns-clause-shows : goal.returns-clause-shows
returns-clause-shows g c = subst (λ (h : HeapView). IfOk c.value_of_register.result (Shows (graph_in h))) c.self.view_is c.value_of_register.ensures.shows

pub returns-clause-value : goal.returns-clause-value
returns-clause-value g c = subst (λ (h : HeapView). IfOk c.value_of_register.result (λ seen. slice_get (graph_in h).registers c.args.register ≡ Some seen)) c.self.view_is c.value_of_register.ensures.value

pub returns-clause-unchanged : goal.returns-clause-unchanged
returns-clause-unchanged g c = c.value_of_register.ensures.unchanged ∙ ap graph_in c.self.view_is
