use Rattle.area_space.proofs.GroundLaws.{ground_stored, named_stored}
use Rattle.area_space.proofs.laws.stores_keep_ground.Goals as goal

pub returns-clause-ground : goal.returns-clause-ground
returns-clause-ground c = ground_stored

pub returns-clause-named : goal.returns-clause-named
returns-clause-named c = named_stored
