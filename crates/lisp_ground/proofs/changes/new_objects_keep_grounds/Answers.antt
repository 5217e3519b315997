use Rattle.lisp_ground.proofs.invariant.NewObjects.{pair_made_on, block_made_on, list_made_on}
use Rattle.lisp_ground.proofs.changes.new_objects_keep_grounds.Goals as goal

pub returns : goal.returns
returns c = record { pair = pair_made_on; block = block_made_on; list = list_made_on }
