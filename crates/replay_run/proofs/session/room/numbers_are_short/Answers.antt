use Rattle.std.proofs.Common.{rules}
use Rattle.replay_run.proofs.ErrorLines.{number_short}
use Rattle.replay_run.proofs.session.room.numbers_are_short.Goals as goal

pub returns : goal.returns
returns c = search (rules, number_short)
