use Rattle.std.proofs.Common.{◌≡◌, replicate}
use Rattle.heap_load.proofs.drafts.first_items.Given as goal

abbrev pub invariant-loop-i : goal.invariant-loop-i
invariant-loop-i l = l.items ≡ replicate l._i 0
