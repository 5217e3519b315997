use Rattle.band_run.proofs.StoreCases.{start_of}
use Rattle.band_run.proofs.laws.every_disk_has_a_start.Goals as goal

pub returns : goal.returns
returns c = start_of
