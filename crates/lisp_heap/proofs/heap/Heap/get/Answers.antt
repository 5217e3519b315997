use Rattle.std.proofs.Common.{refl}
use Rattle.lisp_graph.specs.declared.command.Command.TheVariants as C
use Rattle.lisp_heap.proofs.CommandRuns.{lent_consistent, lent_runs}
use Rattle.lisp_heap.proofs.MemoryReports.{takes_by}
use Rattle.lisp_heap.proofs.ScanTransports.{most_listed}
use Rattle.lisp_heap.proofs.heap.Heap.get.Goals as goal

pub get-answer-requires-clause-consistent : goal.get-answer-requires-clause-consistent
get-answer-requires-clause-consistent g c = lent_consistent c.self.inside.ground c.deref_mut.ensures.value c.self.invariant

pub invariant_of-self : goal.invariant_of-self
invariant_of-self g c = (lent_runs c.self.inside.ground c.get-answer.new.ground c.self.inside.registers (C.Get c.args.to c.args.from c.args.index) c.deref_mut.ensures.value c.deref_mut.ensures.len c.finish_step.ensures.step c.self.invariant tt refl c.get-answer.ensures.performs c.get-answer.ensures.costs.tells).0

pub returns : goal.returns
returns g c = rw (c.finish_step.ensures.value, ← c.self.view_is) (record {
  runs = (lent_runs c.self.inside.ground c.get-answer.new.ground c.self.inside.registers (C.Get c.args.to c.args.from c.args.index) c.deref_mut.ensures.value c.deref_mut.ensures.len c.finish_step.ensures.step c.self.invariant tt refl c.get-answer.ensures.performs c.get-answer.ensures.costs.tells).1;
  costs = takes_by c.get-answer.result _ refl c.get-answer.ensures.costs.few c.get-answer.ensures.costs.cost;
  moves = most_listed c.get-answer.ensures.moves;
})
