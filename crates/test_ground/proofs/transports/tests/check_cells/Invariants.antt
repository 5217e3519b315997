use Rattle.test_ground.specs.Trials.{IsRunning}
use Rattle.test_ground.proofs.transports.tests.check_cells.Given as goal

-- the machine runs
abbrev pub invariant-loop-i : goal.invariant-loop-i
invariant-loop-i g l = IsRunning (g.M.Memory.seen l.trial.ground.mem) l.trial.ground.table l.trial.front l.trial.middle
