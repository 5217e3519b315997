use Rattle.paged_memory.specs.Marking.{IsFirst, HasTag}
use Rattle.paged_memory.proofs.marking.lowest_tagged.Given as goal

abbrev pub invariant-loop-frame : goal.invariant-loop-frame
invariant-loop-frame l = IsFirst (HasTag l.pool l.frame) l.from l.lowest
