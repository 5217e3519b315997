use Rattle.why_held.proofs.Counts.{reached_part}
use Rattle.why_held.proofs.laws.reached_objects_are_counted.Goals as goal

pub returns : goal.returns
returns c = reached_part
