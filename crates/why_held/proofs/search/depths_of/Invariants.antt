use Rattle.std.proofs.Common.{◌≡◌, ◌-◌, length}
use Rattle.lisp_graph.specs.World.{opening}
use Rattle.why_held.proofs.Levels.{Level}
use Rattle.why_held.proofs.search.depths_of.Given as goal

abbrev pub invariant-loop-start : goal.invariant-loop-start
invariant-loop-start l = (l.objects ≡ l.world.objects) × Level (opening l.world) l.depth l.start l.search

abbrev pub decreases-loop-start : goal.decreases-loop-start
decreases-loop-start l = length l.objects - l.start
