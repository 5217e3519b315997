use Rattle.std.proofs.Common.{◌≡◌, ◌-◌, ◌^◌, map, take}
use Rattle.world_text.specs.Numbering.{IsKnown}
use Rattle.why_held.specs.Reached.{IsReaching, counted_key}
use Rattle.why_held.specs.Tallies.{AreTallies}
use Rattle.why_held.proofs.reaching.count_objects.Given as goal

abbrev pub invariant-loop-key : goal.invariant-loop-key
invariant-loop-key g l =
    (g.W.Walk.graph l.walk ≡ g.W.Walk.graph l.fn.walk)
    × (g.W.Walk.faults l.walk ≡ g.W.Walk.faults l.fn.walk)
    × IsKnown (g.W.Walk.graph l.fn.walk) l.met
    × IsReaching (g.W.Walk.graph l.fn.walk) l.number l.met
    × AreTallies (map (counted_key (g.W.Walk.graph l.fn.walk)) (take l.number l.met.keys)) l.tallies

abbrev pub decreases-loop-key : goal.decreases-loop-key
decreases-loop-key g l = 2 ^ 32 - l.number
