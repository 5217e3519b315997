use Rattle.std.proofs.Common.{◌≡◌, ◌∙◌, ap, subst, sym}
use Rattle.std.specs.Result.{IfOk}
use Rattle.lisp_graph.specs.declared.walk.Seen.TheVariants.{Cons as a_cons}
use Rattle.lisp_graph.specs.KeyedGraph.{Shows, cons_at}
use Rattle.lisp_heap.specs.HeapView.{HeapView}
use Rattle.lisp_heap.specs.Walking.{graph_in}
use Rattle.lisp_heap.proofs.HeapDumps.{goes_on}
use Rattle.lisp_heap.proofs.heap.dumping.WalkedHeapWalk.cons_of.Goals as goal

pub cons_of-requires : goal.cons_of-requires
cons_of-requires g c = subst (λ (h : HeapView). Shows (graph_in h) (a_cons c.args.key)) (sym c.self.view_is) c.requires

pub invariant_of-self : goal.invariant_of-self
invariant_of-self g c = goes_on g.O.WalkStart.start c.self.inside.heap c.cons_of.new.self c.self.invariant c.cons_of.ensures.stands

pub returns-clause-value : goal.returns-clause-value
returns-clause-value g c = subst (λ (h : HeapView). IfOk c.cons_of.result (λ cons. cons ≡ cons_at (graph_in h) c.args.key)) c.self.view_is c.cons_of.ensures.value

pub returns-clause-car : goal.returns-clause-car
returns-clause-car g c = subst (λ (h : HeapView). IfOk c.cons_of.result (λ cons. Shows (graph_in h) cons.car)) c.self.view_is c.cons_of.ensures.car

pub returns-clause-cdr : goal.returns-clause-cdr
returns-clause-cdr g c = subst (λ (h : HeapView). IfOk c.cons_of.result (λ cons. Shows (graph_in h) cons.cdr)) c.self.view_is c.cons_of.ensures.cdr

pub returns-clause-unchanged : goal.returns-clause-unchanged
returns-clause-unchanged g c = c.cons_of.ensures.unchanged ∙ ap graph_in c.self.view_is
