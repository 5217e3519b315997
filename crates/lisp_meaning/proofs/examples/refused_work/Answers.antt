use Rattle.lisp_meaning.proofs.examples.refused_work.Goals as goal
use Rattle.lisp_graph.specs.Graph.{refers_in}
use Rattle.lisp_graph.specs.Effect.{list_from}
use Rattle.lisp_graph.specs.Totals.{total}
use Rattle.lisp_meaning.specs.machine.Maps.{some_below}
use Rattle.lisp_meaning.specs.machine.Reach.{closure_after}
use Rattle.lisp_meaning.proofs.runs.WorkedRuns.{world_whole}
use Rattle.lisp_meaning.proofs.runs.RefusedRuns as refused

pub returns : goal.returns
unfolding total some_below refers_in closure_after list_from
returns c = search (refused.refuses, world_whole)
