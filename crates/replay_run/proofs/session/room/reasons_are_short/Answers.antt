use Rattle.std.proofs.Common.{◌≤◌, length, decimal, subst}
use Rattle.replay_run.proofs.ErrorLines.{no_object_short, plain_short}
use Rattle.replay_run.proofs.session.room.reasons_are_short.Goals as goal

pub returns-in-NoObject : goal.returns-in-NoObject
returns-in-NoObject c = rw c.in-NoObject.is (no_object_short c.in-NoObject.object (subst (λ n. length (decimal n) ≤ 20) c.from.ensures c.numbers_are_short.ensures))

pub returns-in_default : goal.returns-in_default
returns-in_default c = plain_short c.args.reason c.in_default.not-NoObject
