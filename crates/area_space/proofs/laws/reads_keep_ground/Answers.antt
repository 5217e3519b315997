use Rattle.area_space.proofs.GroundLaws.{ground_same, named_same}
use Rattle.area_space.proofs.laws.reads_keep_ground.Goals as goal

pub returns-clause-ground : goal.returns-clause-ground
returns-clause-ground c = λ old new t g same. ground_same old new t same.words same.levels same.top g

pub returns-clause-named : goal.returns-clause-named
returns-clause-named c = λ old new t named same. named_same old new t same.words named
