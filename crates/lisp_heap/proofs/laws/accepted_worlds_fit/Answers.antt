use Rattle.lisp_heap.proofs.WorldQuotas.{accepted_fit}
use Rattle.lisp_heap.proofs.laws.accepted_worlds_fit.Goals as goal

pub returns : goal.returns
returns c = accepted_fit
