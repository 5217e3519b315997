use Rattle.std.proofs.Common.{◌-◌, length}
use Rattle.why_held.specs.Nearest.{AreNearest}
use Rattle.why_held.proofs.nearest.nearest_of.Given as goal

abbrev pub invariant-loop-from : goal.invariant-loop-from
invariant-loop-from l = AreNearest l.objects l.depths l.most l.from l.nearest

abbrev pub decreases-loop-from : goal.decreases-loop-from
decreases-loop-from l = length l.objects - l.from
