use Rattle.std.proofs.Common.{◌≡◌, length}
use Rattle.bench_parts.proofs.uses.write.Given as goal

abbrev pub invariant-loop-turn : goal.invariant-loop-turn
invariant-loop-turn g l = length (g.M.Memory.seen l.mem).words ≡ length (g.M.Memory.seen l.fn.mem).words
