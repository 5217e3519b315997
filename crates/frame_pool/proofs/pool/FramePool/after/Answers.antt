use Rattle.std.proofs.Common.{subst, sym, Contains}
use Rattle.frame_pool.specs.Pool.{Pool}
use Rattle.frame_pool.proofs.PoolUpdates.{pool_sound, inside_if_used}
use Rattle.frame_pool.proofs.pool.FramePool.after.Goals as goal

pub returns-clause-sound : goal.returns-clause-sound
returns-clause-sound c = rw (← c.self.view_is) (pool_sound _ _ _ _ c.self.invariant.0)

pub returns-clause-in_range : goal.returns-clause-in_range
returns-clause-in_range c = rw (← c.self.view_is) (inside_if_used _ _ (pool_sound _ _ _ _ c.self.invariant.0) (c.next.ensures.listed 1 (subst (λ (p : Pool). Contains p.used c.args.frame) (sym c.self.view_is) c.requires)))
