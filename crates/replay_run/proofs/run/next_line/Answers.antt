use Rattle.replay_run.proofs.SessionInvariant.{filled_flushed, filled_here}
use Rattle.replay_run.proofs.run.next_line.Goals as goal

pub returns-in-Some-clause-filled : goal.returns-in-Some-clause-filled
returns-in-Some-clause-filled g c = filled_here c.find_line.ensures.at_most

pub returns-in-Err-clause-filled : goal.returns-in-Err-clause-filled
returns-in-Err-clause-filled g c = filled_flushed c.find_line.ensures.at_most c.in-Err.ensures.gathers
