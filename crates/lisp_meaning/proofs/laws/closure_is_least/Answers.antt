use Rattle.lisp_meaning.proofs.laws.closure_is_least.Goals as goal
use Rattle.lisp_meaning.proofs.closure.Closure.{closure_start, closure_closed, closure_inside}

pub returns : goal.returns
returns c = record { starts = closure_start; closed = closure_closed; least = λ objects start set closed begins n e. closure_inside objects set start closed begins n e }
