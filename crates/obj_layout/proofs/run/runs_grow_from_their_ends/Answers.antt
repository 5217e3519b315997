use Rattle.obj_layout.proofs.RunLaws.{run-one, run-more}
use Rattle.obj_layout.proofs.run.runs_grow_from_their_ends.Goals as goal

pub returns-clause-last : goal.returns-clause-last
returns-clause-last c = run-one

pub returns-clause-before : goal.returns-clause-before
returns-clause-before c = run-more
