use Rattle.std.proofs.Common.{◌≡◌, ◌-◌, take}
use Rattle.world_text.specs.writing.Visits.{AreVisited}
use Rattle.world_text.proofs.writing.dumped.dumped_registers.Given as goal

abbrev pub invariant-loop-register : goal.invariant-loop-register
invariant-loop-register g l =
    (g.W.Walk.graph l.walk ≡ g.W.Walk.graph l.fn.walk)
    × (g.W.Walk.faults l.walk ≡ g.W.Walk.faults l.fn.walk)
    × AreVisited (g.W.Walk.graph l.fn.walk) (take l.register (g.W.Walk.graph l.fn.walk).registers) l.fn.visits l.visits l.registers

abbrev pub decreases-loop-register : goal.decreases-loop-register
decreases-loop-register g l = l.count - l.register
