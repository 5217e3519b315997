use Rattle.lisp_meaning.proofs.laws.settle_frees_what_went.Goals as goal
use Rattle.lisp_meaning.proofs.sums.RetainedCharges.{retention}

pub returns : goal.returns
returns c = retention
