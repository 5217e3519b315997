use Rattle.std.proofs.Common.{Some, sym}
use Rattle.index_lists.specs.Chains.{list_at}
use Rattle.index_lists.proofs.Ends.{listed_last}
use Rattle.frame_pool.proofs.PoolUpdates.{pool_sound, with_latest-last, latest_found}
use Rattle.frame_pool.proofs.pool.FramePool.latest_of.Goals as goal

pub returns-then-self-page-clause-used : goal.returns-then-self-page-clause-used
returns-then-self-page-clause-used c =
    let found = latest_found (list_at c.self.inside.chains 1) c.self.inside.pages.items c.args.page c.self.inside.latest_frame c.ranges.page.fits (rw c.if-self-page.true at c.self.invariant.1) in
    rw (← c.self.view_is) (listed_last _ (Some c.self.inside.latest_frame) (sym found.0))

pub returns-then-self-page-clause-unchanged : goal.returns-then-self-page-clause-unchanged
returns-then-self-page-clause-unchanged c =
    let found = latest_found (list_at c.self.inside.chains 1) c.self.inside.pages.items c.args.page c.self.inside.latest_frame c.ranges.page.fits (rw c.if-self-page.true at c.self.invariant.1) in
    rw (← c.self.view_is) (with_latest-last _ _ (pool_sound _ _ _ _ c.self.invariant.0) (sym found.0))

pub returns-then-self-page-clause-sound : goal.returns-then-self-page-clause-sound
returns-then-self-page-clause-sound c = rw (← c.self.view_is) (pool_sound _ _ _ _ c.self.invariant.0)

pub returns-else-self-page-clause-sound : goal.returns-else-self-page-clause-sound
returns-else-self-page-clause-sound c = rw (← c.self.view_is) (pool_sound _ _ _ _ c.self.invariant.0)
