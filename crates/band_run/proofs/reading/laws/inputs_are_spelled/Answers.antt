use Rattle.band_run.proofs.InputLines.{spelled_only}
use Rattle.band_run.proofs.AcceptedInputs.{spelled_all}
use Rattle.band_run.proofs.reading.laws.inputs_are_spelled.Goals as goal

pub returns : goal.returns
returns c = record { only = spelled_only; all = spelled_all }
