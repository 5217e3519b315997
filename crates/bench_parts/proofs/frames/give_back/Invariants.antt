use Rattle.std.proofs.Common.{◌≡◌}
use Rattle.frame_pool.specs.Pool.{frames_of}
use Rattle.bench_parts.proofs.frames.give_back.Given as goal

abbrev pub invariant-loop : goal.invariant-loop
invariant-loop l = frames_of l.pool ≡ l.frames
