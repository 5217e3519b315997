use Rattle.std.proofs.Common.{ℕ, List, ap, subst}
use Rattle.std.specs.Result.{IfOk}
use Rattle.store_word.specs.declared.space.Space.{Space}
use Rattle.lisp_graph.specs.declared.world.AreaRule.{AreaRule}
use Rattle.world_text.specs.Dump.{IsDump}
use Rattle.lisp_heap.specs.HeapView.{HeapView}
use Rattle.lisp_heap.specs.Walking.{graph_in}
use Rattle.lisp_heap.proofs.HeapDumps.{begins, ends}
use Rattle.lisp_heap.proofs.heap.dumping.dump_from.Goals as goal

pub invariant_of-walked : goal.invariant_of-walked
invariant_of-walked g c = begins g.O.WalkStart.start c.args.heap c.requires

pub dump_text-dump-requires : goal.dump_text-dump-requires
dump_text-dump-requires g c = c.heap.invariant.sizes.levels.1

pub returns-clause-value : goal.returns-clause-value
returns-clause-value g c =
    subst (λ (areas : List AreaRule). IfOk c.dump_text-dump.result (λ (text : List ℕ). IsDump (graph_in c.args.heap) c.args.heap.space areas text)) c.as_slice.ensures
    (subst (λ (space : Space). IfOk c.dump_text-dump.result (λ (text : List ℕ). IsDump (graph_in c.args.heap) space c.as_slice.result.now text))
    (ap (λ (h : HeapView). h.space) c.heap.view_is) c.dump_text-dump.ensures.value)

pub returns-clause-stands : goal.returns-clause-stands
returns-clause-stands g c = ends g.O.WalkStart.start c.args.heap c.walked.inside.heap c.requires c.walked.invariant
