use Rattle.why_held.proofs.SameCensus.{same_census}
use Rattle.why_held.proofs.laws.censuses_are_of_objects.Goals as goal

pub returns : goal.returns
returns c = same_census
