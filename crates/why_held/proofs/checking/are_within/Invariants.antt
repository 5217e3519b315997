use Rattle.std.proofs.Common.{take}
use Rattle.why_held.specs.Search.{AreWithin}
use Rattle.why_held.proofs.checking.are_within.Given as goal

abbrev pub invariant-loop-value : goal.invariant-loop-value
invariant-loop-value l = AreWithin l.depths l.most (take l.value-index l.values)
