use Rattle.std.proofs.Common.{refl, arith}
use Rattle.sexpr_print.proofs.ReferenceCounts.{counts_next, counts_none}
use Rattle.sexpr_print.proofs.sharing.count_all.Goals as goal

pub loop-value-init : goal.loop-value-init
loop-value-init c = counts_none c.args.counts.now

pub loop-value-preserved : goal.loop-value-preserved
loop-value-preserved c =
    counts_next c.args.values.now c.loop-value.value-index _ _ c.args.counts.now c.loop-value.counts c.count.new.counts (omega arith) refl c.loop-value.invariant c.count.ensures
