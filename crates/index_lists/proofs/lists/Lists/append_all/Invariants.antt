use Rattle.std.proofs.Common.{length}
use Rattle.index_lists.specs.Chains.{list_at}
use Rattle.index_lists.proofs.ListMoves.{IsMoving}
use Rattle.index_lists.proofs.lists.Lists.append_all.Given as goal

abbrev pub invariant-loop-node : goal.invariant-loop-node
invariant-loop-node l = IsMoving l.initial.self l.self l.to l.from

abbrev pub decreases-loop-node : goal.decreases-loop-node
decreases-loop-node l = length (list_at l.self l.from)
