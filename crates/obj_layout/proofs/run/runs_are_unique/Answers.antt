use Rattle.obj_layout.proofs.RunLaws.{run-same}
use Rattle.obj_layout.proofs.run.runs_are_unique.Goals as goal

pub returns : goal.returns
returns c = run-same
