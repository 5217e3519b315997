use Rattle.std.proofs.Common.{◌≡◌, ◌∙◌, ap, subst}
use Rattle.std.specs.Result.{IfOk}
use Rattle.lisp_graph.specs.KeyedGraph.{Shows}
use Rattle.lisp_heap.specs.HeapView.{HeapView}
use Rattle.lisp_heap.specs.Walking.{graph_in}
use Rattle.lisp_heap.proofs.HeapDumps.{goes_on}
use Rattle.lisp_heap.proofs.heap.dumping.WalkedHeapWalk.field_of.Goals as goal

pub invariant_of-self : goal.invariant_of-self
invariant_of-self g c = goes_on g.O.WalkStart.start c.self.inside.heap c.field_of.new.self c.self.invariant c.field_of.ensures.stands

pub returns-clause-shows : goal.returns-clause-shows
returns-clause-shows g c = subst (λ (h : HeapView). IfOk c.field_of.result (Shows (graph_in h))) c.self.view_is c.field_of.ensures.shows

pub returns-clause-value : goal.returns-clause-value
returns-clause-value g c = subst (λ (h : HeapView). IfOk c.field_of.result (λ seen. seen ≡ (graph_in h).field c.args.key c.args.index)) c.self.view_is c.field_of.ensures.value

pub returns-clause-unchanged : goal.returns-clause-unchanged
returns-clause-unchanged g c = c.field_of.ensures.unchanged ∙ ap graph_in c.self.view_is
