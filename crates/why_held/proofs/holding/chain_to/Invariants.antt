use Rattle.std.proofs.Common.{◌≡◌, length}
use Rattle.lisp_graph.specs.World.{opening}
use Rattle.why_held.specs.Nearest.{AreNearest}
use Rattle.why_held.proofs.ChosenChain.{Ending}
use Rattle.why_held.proofs.holding.chain_to.Given as goal

abbrev pub invariant-loop-place : goal.invariant-loop-place
invariant-loop-place l =
    (l.objects ≡ l.world.objects) × AreNearest l.world.objects l.depths l.depth (length l.world.objects) l.nearest × Ending (opening l.world) l.depths l.object l.depth l.hops l.place l.to

abbrev pub decreases-loop-place : goal.decreases-loop-place
decreases-loop-place l = l.place
