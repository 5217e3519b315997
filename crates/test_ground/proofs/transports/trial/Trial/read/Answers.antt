use Rattle.test_ground.proofs.MachineFlip.{running-same}
use Rattle.test_ground.proofs.transports.trial.Trial.read.Goals as goal

pub returns-in_err-word : goal.returns-in_err-word
returns-in_err-word g c = running-same c.requires c.in_err-word.ensures.unchanged

pub returns : goal.returns
returns g c = running-same c.requires c.in_ok-word.ensures.unchanged
