use Rattle.scavenger.proofs.ScanOrder.{next-defined}
use Rattle.scavenger.proofs.laws.next_is_defined.Goals as goal

pub returns : goal.returns
returns c = next-defined
