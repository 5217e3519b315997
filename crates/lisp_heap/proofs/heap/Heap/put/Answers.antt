use Rattle.std.proofs.Common.{refl}
use Rattle.lisp_graph.specs.declared.command.Command.TheVariants as C
use Rattle.lisp_heap.proofs.CommandRuns.{lent_consistent, lent_runs}
use Rattle.lisp_heap.proofs.MemoryReports.{takes_by}
use Rattle.lisp_heap.proofs.ScanTransports.{most_listed}
use Rattle.lisp_heap.proofs.heap.Heap.put.Goals as goal

pub put-answer-requires-clause-consistent : goal.put-answer-requires-clause-consistent
put-answer-requires-clause-consistent g c = lent_consistent c.self.inside.ground c.deref_mut.ensures.value c.self.invariant

pub invariant_of-self : goal.invariant_of-self
invariant_of-self g c = (lent_runs c.self.inside.ground c.put-answer.new.ground c.self.inside.registers (C.Put c.args.target c.args.index c.args.from) c.deref_mut.ensures.value c.deref_mut.ensures.len c.finish_step.ensures.step c.self.invariant tt refl c.put-answer.ensures.performs c.put-answer.ensures.costs.tells).0

pub returns : goal.returns
returns g c = rw (c.finish_step.ensures.value, ← c.self.view_is) (record {
  runs = (lent_runs c.self.inside.ground c.put-answer.new.ground c.self.inside.registers (C.Put c.args.target c.args.index c.args.from) c.deref_mut.ensures.value c.deref_mut.ensures.len c.finish_step.ensures.step c.self.invariant tt refl c.put-answer.ensures.performs c.put-answer.ensures.costs.tells).1;
  costs = takes_by c.put-answer.result _ refl c.put-answer.ensures.costs.few c.put-answer.ensures.costs.cost;
  moves = most_listed c.put-answer.ensures.moves;
})
