use Rattle.band_store.proofs.LogRoom.{saves_fit}
use Rattle.band_store.proofs.laws.saves_fit_the_log.Goals as goal

pub returns : goal.returns
returns c = saves_fit
