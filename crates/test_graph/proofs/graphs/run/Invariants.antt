use Rattle.std.proofs.Common.{◌≡◌, length}
use Rattle.test_graph.proofs.graphs.run.Given as goal

abbrev pub invariant-loop-word : goal.invariant-loop-word
invariant-loop-word g l = length l.store.registers ≡ 8
