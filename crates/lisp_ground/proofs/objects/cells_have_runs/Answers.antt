use Rattle.lisp_meaning.specs.Roles.{name_at}
use Rattle.std.proofs.Common.{suc, ◌+◌, refl}
use Rattle.obj_layout.specs.declared.run.RunEnd.TheVariants.{Forwarded}
use Rattle.lisp_ground.proofs.words.Runs.{has_run, run_to_nil, run_to_pair, run_to_forward, run_follower}
use Rattle.lisp_ground.proofs.objects.cells_have_runs.Goals as goal

pub returns-clause-cells : goal.returns-clause-cells
returns-clause-cells c = has_run

pub returns-clause-end : goal.returns-clause-end
returns-clause-end c = record {
  nil = run_to_nil;
  pair = run_to_pair;
  cut = λ m t it on b n i cells to role is.
      run_to_forward m t it on b cells to is (name_at it.map (suc (b + cells))) (run_follower m t it on b n i cells (Forwarded to) role is refl);
}
