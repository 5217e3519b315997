use Rattle.std.proofs.Common.{take}
use Rattle.sexpr_print.specs.Sharing.{Counts}
use Rattle.sexpr_print.proofs.sharing.count_all.Given as goal

abbrev pub invariant-loop-value : goal.invariant-loop-value
invariant-loop-value l = Counts (take l.value-index l.values) l.fn.counts l.counts
