use Rattle.scavenger.proofs.DistinctUnits.{scans-new, many-past}
use Rattle.scavenger.proofs.laws.scans_are_once.Goals as goal

pub returns : goal.returns
returns c = record { scanned = scans-new; past = λ m m' t t' scan scan' registers registers' count unit many. many-past m t scan registers m' t' scan' registers' count unit many }
