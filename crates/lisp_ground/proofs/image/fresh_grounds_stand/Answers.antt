use Rattle.lisp_ground.proofs.invariant.EmptyMachine.{fresh_kept_on}
use Rattle.lisp_ground.proofs.image.fresh_grounds_stand.Goals as goal

pub returns : goal.returns
returns c = record { stands = fresh_kept_on }
