use Rattle.lisp_ground.proofs.invariant.Collections.{flipped_on, reclaimed_on, scanned_names_no_old}
use Rattle.lisp_ground.proofs.changes.flips_and_reclaims_keep_machines.Goals as goal

pub returns : goal.returns
returns c = record { flip = flipped_on; reclaim = reclaimed_on; scanned = scanned_names_no_old }
