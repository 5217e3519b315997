use Rattle.std.proofs.Common.{◌-◌, length, map, take}
use Rattle.why_held.specs.Census.{counted_object}
use Rattle.why_held.specs.Tallies.{AreTallies}
use Rattle.why_held.proofs.counting.census.Given as goal

abbrev pub invariant-loop-name : goal.invariant-loop-name
invariant-loop-name l = AreTallies (map counted_object (take l.name l.world.objects)) l.tallies

abbrev pub decreases-loop-name : goal.decreases-loop-name
decreases-loop-name l = length l.world.objects - l.name
