use Rattle.std.proofs.Common.{take}
use Rattle.why_held.specs.Nearest.{Offered}
use Rattle.why_held.proofs.nearest.offer_all.Given as goal

abbrev pub invariant-loop-value : goal.invariant-loop-value
invariant-loop-value l = Offered l.depths l.from (take l.value-index l.values) l.fn.nearest l.nearest
