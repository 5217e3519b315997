use Rattle.area_space.proofs.GroundLaws.{ground_fresh, named_fresh}
use Rattle.area_space.proofs.laws.fresh_ground.Goals as goal

pub returns-clause-ground : goal.returns-clause-ground
returns-clause-ground c = ground_fresh

pub returns-clause-named : goal.returns-clause-named
returns-clause-named c = named_fresh
