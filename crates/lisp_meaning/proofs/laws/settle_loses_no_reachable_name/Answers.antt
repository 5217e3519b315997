use Rattle.lisp_meaning.proofs.laws.settle_loses_no_reachable_name.Goals as goal
use Rattle.lisp_meaning.proofs.closure.Collections.{settles_reachable}

pub returns : goal.returns
returns c = settles_reachable
