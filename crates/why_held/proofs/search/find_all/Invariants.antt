use Rattle.std.proofs.Common.{take}
use Rattle.why_held.specs.Search.{Finds}
use Rattle.why_held.proofs.search.find_all.Given as goal

abbrev pub invariant-loop-value : goal.invariant-loop-value
invariant-loop-value l = Finds l.depth (take l.value-index l.values) l.fn.search l.search
