use Rattle.std.proofs.Common.{◌≡◌}
use Rattle.frame_pool.specs.Pool.{frames_of}
use Rattle.test_memory.proofs.frames.events_of_three_frames.Given as goal

-- the number of frames is unchanged
abbrev pub invariant-loop-event : goal.invariant-loop-event
invariant-loop-event g l = frames_of l.pool ≡ 3
