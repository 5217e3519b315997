use Rattle.std.proofs.Common.{◌≡◌, ◌≤◌, ◌-◌, ◌^◌, List, length}
use Rattle.lisp_graph.specs.declared.object.Object.{Object}
use Rattle.world_text.specs.writing.Waiting.{AreWritten}
use Rattle.world_text.proofs.writing_laws.Walks.{AreFirst}
use Rattle.world_text.proofs.writing.dumped.write_objects.Given as goal

abbrev pub invariant-loop-key : goal.invariant-loop-key
invariant-loop-key g l =
    (g.W.Walk.graph l.walk ≡ g.W.Walk.graph l.fn.walk)
    × (g.W.Walk.faults l.walk ≡ g.W.Walk.faults l.fn.walk)
    × (l.number ≤ 2 ^ 32)
    × (l.visits.taken ≡ l.number)
    × ((objects : List Object) × AreFirst (g.W.Walk.graph l.fn.walk) l.fn.visits l.visits l.number objects × AreWritten l.areas l.fn.writer.text objects l.writer × (length objects ≡ l.number))

abbrev pub decreases-loop-key : goal.decreases-loop-key
decreases-loop-key g l = 2 ^ 32 - l.number
