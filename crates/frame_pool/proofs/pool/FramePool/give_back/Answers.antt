use Rattle.std.proofs.Common.{ℕ, List, length, ap, subst, arith}
use Rattle.index_lists.specs.Chains.{list_at}
use Rattle.frame_pool.specs.Invariant.{IsLatest}
use Rattle.frame_pool.proofs.PoolUpdates.{pool_sound, given_kept}
use Rattle.frame_pool.proofs.pool.FramePool.give_back.Goals as goal

pub invariant_of-self : goal.invariant_of-self
invariant_of-self c =
    let m = rw (← c.self.view_is) at c.requires in
    (given_kept _ _ _ _ _ _ c.args.frame c.self.invariant.0 m (c.remove.ensures.after 1 m) c.push_back.ensures.after c.push_back.ensures.sound, subst (λ (xs : List ℕ). IsLatest (list_at c.push_back.new.self 1) xs c.latest_in-page.result.0 c.latest_in-page.result.1) c.deref.ensures.value c.latest_in-page.ensures)

pub returns-clause-sound : goal.returns-clause-sound
returns-clause-sound c =
    let m = rw (← c.self.view_is) at c.requires in
    pool_sound _ _ _ _ (given_kept _ _ _ _ _ _ c.args.frame c.self.invariant.0 m (c.remove.ensures.after 1 m) c.push_back.ensures.after c.push_back.ensures.sound)

pub latest_in-page-requires-clause-in_range : goal.latest_in-page-requires-clause-in_range
latest_in-page-requires-clause-in_range c =
    let m = rw (← c.self.view_is) at c.requires in
    let p = pool_sound _ _ c.self.inside.tags.items c.self.inside.words (given_kept _ _ _ _ _ _ c.args.frame c.self.invariant.0 m (c.remove.ensures.after 1 m) c.push_back.ensures.after c.push_back.ensures.sound) in
    λ frame used. omega (arith, p.used_in frame used, ap length c.deref.ensures.value)
