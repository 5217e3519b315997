use Rattle.std.proofs.Common.{ℕ, Some, ap, sym, ◌∙◌, arith}
use Rattle.std.proofs.lemmas.List.{get_or_default}
use Rattle.index_lists.specs.Chains.{Chains, list_at}
use Rattle.index_lists.proofs.ListUpdates.{list_at-with_list_same}
use Rattle.frame_pool.proofs.PoolUpdates.{pool_sound, touched_kept, with_latest-last, latest_last, latest-push}
use Rattle.frame_pool.proofs.pool.FramePool.touch.Goals as goal

pub returns-then-self-frame-clause-after : goal.returns-then-self-frame-clause-after
returns-then-self-frame-clause-after c =
    let m = rw (← c.self.view_is) at c.requires in
    let last = latest_last (list_at c.self.inside.chains 1) c.self.inside.pages.items c.self.inside.latest_page c.self.inside.latest_frame c.args.frame m c.self.invariant.1 in
    rw (← c.self.view_is) (sym (with_latest-last _ _ (pool_sound _ _ _ _ c.self.invariant.0) (ap (λ (n : ℕ). Some n) (sym c.if-self-frame.true) ∙ sym last)))

pub returns-then-self-frame-clause-sound : goal.returns-then-self-frame-clause-sound
returns-then-self-frame-clause-sound c = rw (← c.self.view_is) (pool_sound _ _ _ _ c.self.invariant.0)

pub invariant_of-self : goal.invariant_of-self
invariant_of-self c =
    let m = rw (← c.self.view_is) at c.requires in
    let low = (pool_sound _ _ _ _ c.self.invariant.0).used_in c.args.frame m in
    let order = ap (λ (v : Chains). list_at v 1) (c.move_back.ensures.moved 1 m) ∙ list_at-with_list_same c.self.inside.chains 1 _ (omega (arith, c.self.invariant.0.two)) in (
      touched_kept _ _ _ _ _ c.args.frame c.self.invariant.0 m (c.move_back.ensures.moved 1 m) c.move_back.ensures.sound,
      latest-push _ _ _ _ c.args.frame order (c.index.ensures ∙ get_or_default c.self.inside.pages.items c.args.frame _ 0 low),
    )

pub returns-clause-sound : goal.returns-clause-sound
returns-clause-sound c =
    let m = rw (← c.self.view_is) at c.requires in
    pool_sound _ _ _ _ (touched_kept _ _ _ _ _ c.args.frame c.self.invariant.0 m (c.move_back.ensures.moved 1 m) c.move_back.ensures.sound)

pub returns-then-self-frame-clause-in_range : goal.returns-then-self-frame-clause-in_range
returns-then-self-frame-clause-in_range c =
    let m = rw (← c.self.view_is) at c.requires in
    rw (← c.self.view_is) ((pool_sound _ _ _ _ c.self.invariant.0).used_in c.args.frame m)

pub returns-clause-in_range : goal.returns-clause-in_range
returns-clause-in_range c =
    let m = rw (← c.self.view_is) at c.requires in
    (pool_sound _ _ _ _ c.self.invariant.0).used_in c.args.frame m

pub index-requires : goal.index-requires
index-requires c =
    let m = rw (← c.self.view_is) at c.requires in
    let low = (pool_sound _ _ _ _ c.self.invariant.0).used_in c.args.frame m in
    omega (arith, low, c.self.inside.pages.ok.0)
