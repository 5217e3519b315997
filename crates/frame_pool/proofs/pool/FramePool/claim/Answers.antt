use Rattle.std.proofs.Common.{length-set, get_or-set_same, refl, sym, arith}
use Rattle.frame_pool.proofs.FrameMoves.{moved, claimed}
use Rattle.frame_pool.proofs.PoolUpdates.{pool_sound, taken_kept, written_kept, latest-push}
use Rattle.frame_pool.proofs.pool.FramePool.claim.Goals as goal

pub invariant_of-self : goal.invariant_of-self
invariant_of-self c =
    let m = rw (← c.self.view_is) at c.requires in
    let taken = taken_kept _ _ _ _ _ _ c.args.frame c.self.invariant.0 m (c.remove.ensures.after 0 m) c.push_back.ensures.after c.push_back.ensures.sound in
    let v = moved _ _ _ 0 1 c.args.frame (omega arith) (omega arith) (λ q. absurd (cc)) c.self.invariant.0.two c.self.invariant.0.sound m (c.remove.ensures.after 0 m) c.push_back.ensures.after in
    let low = (pool_sound _ _ _ _ c.self.invariant.0).free_in c.args.frame m in (
      written_kept _ _ _ _ _ _ _ taken (length-set _ _ _) (length-set _ _ _) refl,
      latest-push _ _ _ c.args.page c.args.frame v.to_is (sym (get_or-set_same c.self.inside.pages.items c.args.frame c.args.page 0 low)),
    )

pub returns-clause-sound : goal.returns-clause-sound
returns-clause-sound c =
    let m = rw (← c.self.view_is) at c.requires in
    let taken = taken_kept _ _ _ _ _ _ c.args.frame c.self.invariant.0 m (c.remove.ensures.after 0 m) c.push_back.ensures.after c.push_back.ensures.sound in
    pool_sound _ _ _ _ (written_kept _ _ _ _ _ _ _ taken (length-set _ _ _) (length-set _ _ _) refl)

pub returns-clause-after : goal.returns-clause-after
returns-clause-after c =
    let m = rw (← c.self.view_is) at c.requires in
    let v = moved _ _ _ 0 1 c.args.frame (omega arith) (omega arith) (λ q. absurd (cc)) c.self.invariant.0.two c.self.invariant.0.sound m (c.remove.ensures.after 0 m) c.push_back.ensures.after in
    rw (← c.self.view_is) (claimed _ _ c.self.inside.pages.items c.self.inside.tags.items c.self.inside.words c.args.frame c.args.page v)
