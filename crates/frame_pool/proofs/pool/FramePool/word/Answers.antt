use Rattle.frame_pool.proofs.PoolUpdates.{pool_sound}
use Rattle.frame_pool.proofs.pool.FramePool.word.Goals as goal

pub returns-clause-sound : goal.returns-clause-sound
returns-clause-sound c = rw (← c.self.view_is) (pool_sound _ _ _ _ c.self.invariant.0)
