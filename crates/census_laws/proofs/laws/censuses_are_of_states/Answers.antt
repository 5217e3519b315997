use Rattle.census_laws.proofs.StateCensus.{of_ground, of_heap}
use Rattle.census_laws.proofs.laws.censuses_are_of_states.Goals as goal

pub returns : goal.returns
returns c = record { ground = of_ground; heap = of_heap }
