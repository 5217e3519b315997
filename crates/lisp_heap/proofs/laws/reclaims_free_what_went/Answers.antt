use Rattle.lisp_heap.proofs.FinalAccounts.{silent_retains}
use Rattle.lisp_heap.proofs.laws.reclaims_free_what_went.Goals as goal

pub returns : goal.returns
returns c = silent_retains
