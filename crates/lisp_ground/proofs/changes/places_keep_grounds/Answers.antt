use Rattle.lisp_ground.proofs.words.Places.{place_kept_on}
use Rattle.lisp_ground.proofs.changes.places_keep_grounds.Goals as goal

pub returns : goal.returns
returns c = place_kept_on
