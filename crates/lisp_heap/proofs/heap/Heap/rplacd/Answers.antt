use Rattle.std.proofs.Common.{refl, ◌∙◌}
use Rattle.std.proofs.lemmas.List.{with_items_is}
use Rattle.lisp_graph.specs.declared.command.Command.TheVariants as C
use Rattle.lisp_heap.proofs.CommandRuns.{lent_consistent, lent_runs}
use Rattle.lisp_heap.proofs.MemoryReports.{takes_by}
use Rattle.lisp_heap.proofs.ScanTransports.{laid_listed}
use Rattle.lisp_heap.proofs.heap.Heap.rplacd.Goals as goal

pub rplacd-answer-requires-clause-consistent : goal.rplacd-answer-requires-clause-consistent
rplacd-answer-requires-clause-consistent g c = lent_consistent c.self.inside.ground c.deref_mut.ensures.value c.self.invariant

pub invariant_of-self : goal.invariant_of-self
invariant_of-self g c = (lent_runs c.self.inside.ground c.rplacd-answer.new.ground c.self.inside.registers (C.Rplacd c.args.target c.args.from) c.deref_mut.ensures.value c.deref_mut.ensures.len c.finish_step.ensures.step c.self.invariant tt refl c.rplacd-answer.ensures.performs c.rplacd-answer.ensures.costs.tells).0

pub returns : goal.returns
returns g c = rw (c.finish_step.ensures.value, ← c.self.view_is) (record {
  runs = (lent_runs c.self.inside.ground c.rplacd-answer.new.ground c.self.inside.registers (C.Rplacd c.args.target c.args.from) c.deref_mut.ensures.value c.deref_mut.ensures.len c.finish_step.ensures.step c.self.invariant tt refl c.rplacd-answer.ensures.performs c.rplacd-answer.ensures.costs.tells).1;
  costs = takes_by c.rplacd-answer.result _ refl c.rplacd-answer.ensures.costs.few c.rplacd-answer.ensures.costs.cost;
  moves = rw (with_items_is c.self.inside.registers c.rplacd-answer.new.registers (c.rplacd-answer.ensures.performs.others.count ∙ c.deref_mut.ensures.len)) (laid_listed c.rplacd-answer.ensures.moves);
})
