use Rattle.std.proofs.Common.{◌≡◌}
use Rattle.frame_pool.specs.Pool.{frames_of}
use Rattle.bench_parts.proofs.frames.touch.Given as goal

abbrev pub invariant-loop-turn : goal.invariant-loop-turn
invariant-loop-turn l = frames_of l.pool ≡ l.frames
