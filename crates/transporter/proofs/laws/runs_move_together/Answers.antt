use Rattle.transporter.proofs.RunMoves.{moved-together}
use Rattle.transporter.proofs.laws.runs_move_together.Goals as goal

pub returns : goal.returns
returns c = λ m m' t t' at to here run. moved-together
