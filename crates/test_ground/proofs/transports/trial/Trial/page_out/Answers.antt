use Rattle.test_ground.proofs.NewObjects.{open-same}
use Rattle.test_ground.proofs.transports.trial.Trial.page_out.Goals as goal

pub returns : goal.returns
returns g c = open-same c.requires c.evict_oldest.ensures.unchanged
