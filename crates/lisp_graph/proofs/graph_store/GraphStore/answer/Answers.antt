use Rattle.lisp_graph.proofs.GraphInvariant.{answer_keeps}
use Rattle.lisp_graph.proofs.Persistence.{answer_lasts}
use Rattle.lisp_graph.proofs.graph_store.GraphStore.answer.Goals as goal

pub invariant_of-self : goal.invariant_of-self
invariant_of-self c = answer_keeps c.answer.result _ _ c.args.command.now c.self.invariant c.requires.in_range c.answer.ensures.ok c.answer.ensures.err

pub returns-clause-sound : goal.returns-clause-sound
returns-clause-sound c = answer_keeps c.answer.result _ _ c.args.command.now c.self.invariant c.requires.in_range c.answer.ensures.ok c.answer.ensures.err

pub returns-clause-preserves : goal.returns-clause-preserves
returns-clause-preserves c = rw (← c.self.view_is) (answer_lasts c.answer.result _ _ c.args.command.now c.answer.ensures.ok c.answer.ensures.err)
