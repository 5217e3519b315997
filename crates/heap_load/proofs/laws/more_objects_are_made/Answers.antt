use Rattle.heap_load.proofs.LaterObjects.{opening_more}
use Rattle.heap_load.proofs.laws.more_objects_are_made.Goals as goal

pub returns : goal.returns
returns c = opening_more
