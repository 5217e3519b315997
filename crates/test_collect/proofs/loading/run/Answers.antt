use Rattle.test_collect.proofs.SmallWorld.{small_fits}
use Rattle.test_collect.proofs.loading.run.Goals as goal

pub load-loaded-requires-clause-fits : goal.load-loaded-requires-clause-fits
load-loaded-requires-clause-fits g c = small_fits c.in_ok-world.world c.in_ok-world.ensures
