use Rattle.std.proofs.Common.{◌≡◌, length}
use Rattle.test_memory.proofs.lists.calls_on_small_lists.Given as goal

-- the numbers of nodes and of lists are unchanged
abbrev pub invariant-loop-call : goal.invariant-loop-call
invariant-loop-call g l = (l.lists.nodes ≡ 4) × (length l.lists.lists ≡ 3)
