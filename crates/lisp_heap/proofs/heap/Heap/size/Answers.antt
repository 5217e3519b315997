use Rattle.std.proofs.Common.{refl}
use Rattle.lisp_graph.specs.declared.command.Command.TheVariants as C
use Rattle.lisp_heap.proofs.CommandRuns.{lent_consistent, lent_runs}
use Rattle.lisp_heap.proofs.MemoryReports.{takes_by}
use Rattle.lisp_heap.proofs.ScanTransports.{most_listed}
use Rattle.lisp_heap.proofs.heap.Heap.size.Goals as goal

pub size-answer-requires-clause-consistent : goal.size-answer-requires-clause-consistent
size-answer-requires-clause-consistent g c = lent_consistent c.self.inside.ground c.deref_mut.ensures.value c.self.invariant

pub invariant_of-self : goal.invariant_of-self
invariant_of-self g c = (lent_runs c.self.inside.ground c.size-answer.new.ground c.self.inside.registers (C.Size c.args.of) c.deref_mut.ensures.value c.deref_mut.ensures.len c.finish_step.ensures.step c.self.invariant tt refl c.size-answer.ensures.performs c.size-answer.ensures.costs.tells).0

pub returns : goal.returns
returns g c = rw (c.finish_step.ensures.value, ← c.self.view_is) (record {
  runs = (lent_runs c.self.inside.ground c.size-answer.new.ground c.self.inside.registers (C.Size c.args.of) c.deref_mut.ensures.value c.deref_mut.ensures.len c.finish_step.ensures.step c.self.invariant tt refl c.size-answer.ensures.performs c.size-answer.ensures.costs.tells).1;
  costs = takes_by c.size-answer.result _ refl c.size-answer.ensures.costs.few c.size-answer.ensures.costs.cost;
  moves = most_listed c.size-answer.ensures.moves;
})
