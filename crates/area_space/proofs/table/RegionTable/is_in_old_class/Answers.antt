use Rattle.area_space.specs.Table.{stale}
use Rattle.area_space.proofs.RegionStates.{odd_is_old}
use Rattle.area_space.proofs.table.RegionTable.is_in_old_class.Goals as goal

pub returns-in-Some : goal.returns-in-Some
returns-in-Some c = odd_is_old c.args.self.now c.in-Some.class _ c.in-Some.ensures.cases c.in-Some.ensures.found

pub returns-in-None : goal.returns-in-None
returns-in-None c = ((λ t. absurd (cc)), λ old. absurd (c.in-None.ensures.cases (stale old.0) old.1))
