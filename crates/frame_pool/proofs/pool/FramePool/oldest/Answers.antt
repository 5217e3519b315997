use Rattle.frame_pool.proofs.PoolUpdates.{pool_sound, inside_if_used}
use Rattle.frame_pool.proofs.pool.FramePool.oldest.Goals as goal

pub returns-clause-sound : goal.returns-clause-sound
returns-clause-sound c = rw (← c.self.view_is) (pool_sound _ _ _ _ c.self.invariant.0)

pub returns-clause-in_range : goal.returns-clause-in_range
returns-clause-in_range c = rw (← c.self.view_is) (inside_if_used _ _ (pool_sound _ _ _ _ c.self.invariant.0) c.front.ensures.listed)
