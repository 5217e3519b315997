use Rattle.lisp_meaning.proofs.invariant.Transports.{block_moved, run_to_pair_moved, run_to_nil_moved, cut_run_moved, run_is_short}
use Rattle.lisp_meaning.proofs.steps.transport_keeps_the_invariant.Goals as goal

pub returns : goal.returns
returns c = record { block = block_moved; to_pair = run_to_pair_moved; to_nil = run_to_nil_moved; cut = cut_run_moved; short = run_is_short }
