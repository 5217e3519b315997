use Rattle.lisp_meaning.proofs.invariant.Allocation.{pair_made, block_made, list_made}
use Rattle.lisp_meaning.proofs.steps.allocation_keeps_the_invariant.Goals as goal

pub returns : goal.returns
returns c = record { cons = pair_made; block = block_made; list = list_made }
