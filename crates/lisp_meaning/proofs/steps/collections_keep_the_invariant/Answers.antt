use Rattle.lisp_meaning.proofs.invariant.Collections.{flipped_is, reclaimed_is, strong_sound}
use Rattle.lisp_meaning.proofs.steps.collections_keep_the_invariant.Goals as goal

pub returns : goal.returns
returns c = record { flip = flipped_is; reclaim = reclaimed_is; sound = strong_sound }
