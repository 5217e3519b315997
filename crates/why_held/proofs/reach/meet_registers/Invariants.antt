use Rattle.std.proofs.Common.{◌≡◌, ◌-◌, take}
use Rattle.world_text.specs.Numbering.{IsKnown}
use Rattle.why_held.specs.Reached.{Meets}
use Rattle.why_held.proofs.reach.meet_registers.Given as goal

abbrev pub invariant-loop-register : goal.invariant-loop-register
invariant-loop-register g l =
    (g.W.Walk.graph l.walk ≡ g.W.Walk.graph l.fn.walk)
    × (g.W.Walk.faults l.walk ≡ g.W.Walk.faults l.fn.walk)
    × IsKnown (g.W.Walk.graph l.fn.walk) l.met
    × Meets (take l.register (g.W.Walk.graph l.fn.walk).registers) l.fn.met l.met

abbrev pub decreases-loop-register : goal.decreases-loop-register
decreases-loop-register g l = l.count - l.register
