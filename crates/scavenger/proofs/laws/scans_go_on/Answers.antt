use Rattle.scavenger.proofs.CleanScans.{clean-tended, units-added, units-most}
use Rattle.scavenger.proofs.laws.scans_go_on.Goals as goal

pub returns-clause-stays_sound : goal.returns-clause-stays_sound
returns-clause-stays_sound c = λ m m' t t' scan registers registers' v g v' g' x y z stays_fresh. clean-tended m m' t t' scan registers registers' v g v' g' x y z stays_fresh

pub returns-clause-units : goal.returns-clause-units
returns-clause-units c = λ m m' t t' scan registers registers' v g v' g' x y count. units-most m m' t t' scan registers registers' v g v' g' x y count

pub returns-clause-going : goal.returns-clause-going
returns-clause-going c = λ m m' t t' scan registers registers' v g v' g' x y count going. units-added m m' t t' scan registers registers' v g v' g' x y count going
