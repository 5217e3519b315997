use Rattle.std.proofs.Common.{[], ◌∷◌}
use Rattle.sexpr_print.proofs.ReferenceCounts.{counts_then}
use Rattle.sexpr_print.proofs.sharing.count_parts.Goals as goal

pub returns-in-Cons : goal.returns-in-Cons
returns-in-Cons c =
    rw c.in-Cons.is (counts_then (c.in-Cons.car ∷ []) (c.in-Cons.cdr ∷ []) c.args.counts.now c.count.new.counts c.count-in-Cons.new.counts c.count.ensures c.count-in-Cons.ensures)
