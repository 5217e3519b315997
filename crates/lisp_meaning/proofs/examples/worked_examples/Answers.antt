use Rattle.lisp_meaning.proofs.examples.worked_examples.Goals as goal
use Rattle.std.proofs.Common.{refl, [], ◌∷◌}
use Rattle.lisp_graph.specs.Graph.{refers_in}
use Rattle.lisp_graph.specs.Effect.{list_from}
use Rattle.lisp_graph.specs.Totals.{total}
use Rattle.lisp_meaning.specs.machine.Maps.{some_below}
use Rattle.lisp_meaning.specs.machine.Reach.{closure_after}
use Rattle.lisp_meaning.specs.examples.Worked as E
use Rattle.lisp_meaning.specs.examples.Worked.{work, pool, pools, circle}
use Rattle.lisp_meaning.proofs.runs.WorkedRuns as worked

pub returns : goal.returns
unfolding total some_below refers_in closure_after list_from
returns c = record {
  exact_quota = worked.shows (work 4) (worked.ending []) E.exact_quota _ (worked.world_whole _ _ _ _) refl refl;
  full_area = worked.shows (work 9) (worked.ending []) E.full_area _ (worked.world_whole _ _ _ _) refl refl;
  dropped_front = worked.shows (work 9) (worked.ending (5 ∷ [])) E.dropped_front _ (worked.world_whole _ _ _ _) refl refl;
  space_regained = worked.shows (work 4) (worked.ending (5 ∷ [])) E.space_regained _ (worked.world_whole _ _ _ _) refl refl;
  between_flip_and_reclaim = worked.shows (work 100) (worked.ending (6 ∷ [])) E.between_flip_and_reclaim _ (worked.world_whole _ _ _ _) refl refl;
  phases = worked.shows (work 100) (worked.ending (4 ∷ [])) E.phases _ (worked.world_whole _ _ _ _) refl refl;
  last_level = worked.shows (pool 2 0) (worked.ending (3 ∷ 7 ∷ 11 ∷ [])) E.last_level _ (worked.world_whole _ _ _ _) refl refl;
  refusals = worked.shows (work 100) (worked.ending []) E.refusals _ (worked.world_whole _ _ _ _) refl refl;
  both_forwards = worked.shows (work 100) (worked.ending []) E.both_forwards _ (worked.world_whole _ _ _ _) refl refl;
  grown_block = worked.shows (work 12) (worked.ending (10 ∷ [])) E.grown_block _ (worked.world_whole _ _ _ _) refl refl;
  silent_steps = worked.shows (pool 4 4) (worked.ending (6 ∷ [])) E.silent_steps _ (worked.world_whole _ _ _ _) refl refl;
  two_levels = worked.shows pools (worked.ending (3 ∷ 7 ∷ 12 ∷ 16 ∷ 20 ∷ [])) E.two_levels _ (worked.world_whole _ _ _ _) refl refl;
  faulted = worked.shows (work 4) (record { over = []; faults = 1 ∷ 4 ∷ [] }) E.faulted _ (worked.world_whole _ _ _ _) refl refl;
  circular_list = worked.shows circle (worked.ending []) E.circular_list _ worked.circle_whole refl refl;
  forwards_lead = worked.forwards_lead;
  next_units = worked.next_units;
}
