use Rattle.std.proofs.Common.{◌≡◌, length}
use Rattle.bench_parts.proofs.uses.read_write.Given as goal

abbrev pub invariant-loop : goal.invariant-loop
invariant-loop g l = length (g.M.Memory.seen l.mem).words ≡ length (g.M.Memory.seen l.fn.mem).words
