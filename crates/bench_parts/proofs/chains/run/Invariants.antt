use Rattle.std.proofs.Common.{◌≡◌, length}
use Rattle.bench_parts.proofs.chains.run.Given as goal

abbrev pub invariant-loop : goal.invariant-loop
invariant-loop g l = (l.lists.nodes ≡ l.nodes) × (length l.lists.lists ≡ l.count)
