use Rattle.std.proofs.Common.{◌≡◌, ◌≤◌, ◌-◌}
use Rattle.world_text.specs.Numbering.{IsKnown, fields_from}
use Rattle.why_held.specs.Reached.{Meets}
use Rattle.why_held.proofs.reach.meet_fields.Given as goal

abbrev pub invariant-loop-index : goal.invariant-loop-index
invariant-loop-index g l =
    (g.W.Walk.graph l.walk ≡ g.W.Walk.graph l.fn.walk)
    × (g.W.Walk.faults l.walk ≡ g.W.Walk.faults l.fn.walk)
    × IsKnown (g.W.Walk.graph l.fn.walk) l.met
    × Meets (fields_from (g.W.Walk.graph l.fn.walk) l.key 0 l.index) l.fn.met l.met
    × (l.index ≤ l.length)

abbrev pub decreases-loop-index : goal.decreases-loop-index
decreases-loop-index g l = l.length - l.index
