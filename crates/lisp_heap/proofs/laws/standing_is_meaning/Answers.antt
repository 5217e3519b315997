use Rattle.lisp_heap.proofs.RepresentedStates.{means}
use Rattle.lisp_heap.proofs.laws.standing_is_meaning.Goals as goal

pub returns : goal.returns
returns c = means
