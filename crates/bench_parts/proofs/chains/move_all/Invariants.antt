use Rattle.std.proofs.Common.{◌≡◌, length}
use Rattle.bench_parts.proofs.chains.move_all.Given as goal

abbrev pub invariant-loop-turn : goal.invariant-loop-turn
invariant-loop-turn l = (l.lists.nodes ≡ l.nodes) × (length l.lists.lists ≡ l.count)
