use Rattle.std.proofs.Common.{refl}
use Rattle.frame_pool.proofs.PoolUpdates.{pool_sound, written_kept}
use Rattle.frame_pool.proofs.pool.FramePool.clear.Goals as goal

pub returns-clause-sound : goal.returns-clause-sound
returns-clause-sound c = pool_sound _ _ _ _ (written_kept _ _ _ _ _ _ _ c.self.invariant.0 refl refl c.clear.ensures.size)
