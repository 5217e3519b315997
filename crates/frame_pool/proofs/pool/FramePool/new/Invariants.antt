use Rattle.std.proofs.Common.{◌≡◌}
use Rattle.index_lists.specs.Chains.{IsSound}
use Rattle.frame_pool.proofs.NewPool.{filled}
use Rattle.frame_pool.proofs.pool.FramePool.new.Given as goal

-- the frames that are passed are free
abbrev pub invariant-loop-frame : goal.invariant-loop-frame
invariant-loop-frame l = record { filled : l.chains ≡ filled l.frames l.frame; sound : IsSound l.chains }
