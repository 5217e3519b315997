use Rattle.std.proofs.Common.{length, refl, ap, ◌∙◌, length-set}
use Rattle.frame_pool.proofs.PoolUpdates.{pool_sound, written_kept}
use Rattle.frame_pool.proofs.pool.FramePool.set_two.Goals as goal

pub returns-clause-sound : goal.returns-clause-sound
returns-clause-sound c = pool_sound _ _ _ _ (written_kept _ _ _ _ _ _ _ c.self.invariant.0 refl refl (ap length c.set_two.ensures ∙ length-set _ _ _ ∙ length-set _ _ _))
