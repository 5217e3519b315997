use Rattle.test_ground.specs.Trials.{IsOpen}
use Rattle.test_ground.proofs.transports.tests.make_grown.Given as goal

-- nothing is condemned
abbrev pub invariant-loop-turn : goal.invariant-loop-turn
invariant-loop-turn g l = IsOpen (g.M.Memory.seen l.trial.ground.mem) l.trial.ground.table l.trial.front l.trial.middle
