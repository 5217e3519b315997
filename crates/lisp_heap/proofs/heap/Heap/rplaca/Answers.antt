use Rattle.std.proofs.Common.{refl}
use Rattle.lisp_graph.specs.declared.command.Command.TheVariants as C
use Rattle.lisp_heap.proofs.CommandRuns.{lent_consistent, lent_runs}
use Rattle.lisp_heap.proofs.MemoryReports.{takes_by}
use Rattle.lisp_heap.proofs.ScanTransports.{most_listed}
use Rattle.lisp_heap.proofs.heap.Heap.rplaca.Goals as goal

pub rplaca-answer-requires-clause-consistent : goal.rplaca-answer-requires-clause-consistent
rplaca-answer-requires-clause-consistent g c = lent_consistent c.self.inside.ground c.deref_mut.ensures.value c.self.invariant

pub invariant_of-self : goal.invariant_of-self
invariant_of-self g c = (lent_runs c.self.inside.ground c.rplaca-answer.new.ground c.self.inside.registers (C.Rplaca c.args.target c.args.from) c.deref_mut.ensures.value c.deref_mut.ensures.len c.finish_step.ensures.step c.self.invariant tt refl c.rplaca-answer.ensures.performs c.rplaca-answer.ensures.costs.tells).0

pub returns : goal.returns
returns g c = rw (c.finish_step.ensures.value, ← c.self.view_is) (record {
  runs = (lent_runs c.self.inside.ground c.rplaca-answer.new.ground c.self.inside.registers (C.Rplaca c.args.target c.args.from) c.deref_mut.ensures.value c.deref_mut.ensures.len c.finish_step.ensures.step c.self.invariant tt refl c.rplaca-answer.ensures.performs c.rplaca-answer.ensures.costs.tells).1;
  costs = takes_by c.rplaca-answer.result _ refl c.rplaca-answer.ensures.costs.few c.rplaca-answer.ensures.costs.cost;
  moves = most_listed c.rplaca-answer.ensures.moves;
})
