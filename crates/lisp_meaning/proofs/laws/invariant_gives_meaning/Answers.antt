use Rattle.lisp_meaning.proofs.laws.invariant_gives_meaning.Goals as goal
use Rattle.lisp_meaning.proofs.reading.Adequacy.{stands_under}

pub returns : goal.returns
returns c = stands_under
