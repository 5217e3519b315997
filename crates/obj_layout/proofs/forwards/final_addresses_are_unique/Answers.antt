use Rattle.obj_layout.proofs.ForwardChains.{leads-same}
use Rattle.obj_layout.proofs.forwards.final_addresses_are_unique.Goals as goal

pub returns : goal.returns
returns c = λ words at a b first second. leads-same first.2 second.2
