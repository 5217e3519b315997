use Rattle.std.proofs.Common.{◌≡◌}
use Rattle.frame_pool.specs.Pool.{frames_of}
use Rattle.bench_parts.proofs.frames.take.Given as goal

abbrev pub invariant-loop-page : goal.invariant-loop-page
invariant-loop-page l = frames_of l.pool ≡ l.frames
