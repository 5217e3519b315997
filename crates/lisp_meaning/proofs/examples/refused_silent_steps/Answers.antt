use Rattle.lisp_meaning.proofs.examples.refused_silent_steps.Goals as goal
use Rattle.std.proofs.Common.{refl}
use Rattle.lisp_graph.specs.Graph.{refers_in}
use Rattle.lisp_graph.specs.Effect.{list_from}
use Rattle.lisp_graph.specs.Totals.{total}
use Rattle.lisp_meaning.specs.machine.Maps.{some_below}
use Rattle.lisp_meaning.specs.machine.Reach.{closure_after}
use Rattle.lisp_meaning.specs.examples.Refused as no
use Rattle.lisp_meaning.proofs.runs.WorkedRuns.{world_whole}
use Rattle.lisp_meaning.proofs.runs.RefusedRuns as refused

pub returns : goal.returns
unfolding total some_below refers_in closure_after list_from
returns c = record {
  full_and_not_flipped = refused.refuses no.full_and_not_flipped (world_whole _ _ _ _) refl;
  flipped_below_capacity = refused.refuses no.flipped_below_capacity (world_whole _ _ _ _) refl;
  flipped_before_a_set = refused.refuses no.flipped_before_a_set (world_whole _ _ _ _) refl;
  other_level_flipped = refused.refuses no.other_level_flipped (world_whole _ _ _ _) refl;
  flipped_while_running = refused.refuses no.flipped_while_running (world_whole _ _ _ _) refl;
  over_and_not_reclaimed = refused.refuses no.over_and_not_reclaimed (world_whole _ _ _ _) refl;
  reclaimed_before_a_set = refused.refuses no.reclaimed_before_a_set (world_whole _ _ _ _) refl;
  reclaimed_without_capacity = refused.refuses no.reclaimed_without_capacity (world_whole _ _ _ _) refl;
}
