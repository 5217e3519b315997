use Rattle.std.proofs.Common.{sym, ap, ◌∙◌, arith}
use Rattle.index_lists.specs.Chains.{Chains, list_at}
use Rattle.index_lists.proofs.ListUpdates.{list_at-with_list_same}
use Rattle.frame_pool.proofs.PoolUpdates.{pool_sound, touched_kept, latest-push}
use Rattle.frame_pool.proofs.pool.FramePool.touch_page.Goals as goal

pub invariant_of-self : goal.invariant_of-self
invariant_of-self c =
    let m = rw (← c.self.view_is) at c.requires.listed in
    let page = rw (← c.self.view_is) at c.requires.page in
    let order = ap (λ (v : Chains). list_at v 1) (c.move_back.ensures.moved 1 m) ∙ list_at-with_list_same c.self.inside.chains 1 _ (omega (arith, c.self.invariant.0.two)) in
    (touched_kept _ _ _ _ _ c.args.frame c.self.invariant.0 m (c.move_back.ensures.moved 1 m) c.move_back.ensures.sound, latest-push _ _ _ _ c.args.frame order (sym page))

pub returns-clause-sound : goal.returns-clause-sound
returns-clause-sound c =
    let m = rw (← c.self.view_is) at c.requires.listed in
    pool_sound _ _ _ _ (touched_kept _ _ _ _ _ c.args.frame c.self.invariant.0 m (c.move_back.ensures.moved 1 m) c.move_back.ensures.sound)

pub returns-clause-in_range : goal.returns-clause-in_range
returns-clause-in_range c =
    let m = rw (← c.self.view_is) at c.requires.listed in
    (pool_sound _ _ _ _ c.self.invariant.0).used_in c.args.frame m
