use Rattle.std.proofs.Common.{◌≡◌, ◌-◌, take}
use Rattle.world_text.specs.writing.Numbering.{fields_of}
use Rattle.world_text.specs.writing.Visits.{AreVisited}
use Rattle.world_text.proofs.writing.dumped.dumped_fields.Given as goal

abbrev pub invariant-loop-index : goal.invariant-loop-index
invariant-loop-index g l =
    (g.W.Walk.graph l.walk ≡ g.W.Walk.graph l.fn.walk)
    × (g.W.Walk.faults l.walk ≡ g.W.Walk.faults l.fn.walk)
    × AreVisited (g.W.Walk.graph l.fn.walk) (take l.index (fields_of (g.W.Walk.graph l.fn.walk) l.key)) l.fn.visits l.visits l.fields

abbrev pub decreases-loop-index : goal.decreases-loop-index
decreases-loop-index g l = l.length - l.index
