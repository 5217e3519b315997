use Rattle.std.proofs.Common.{ℕ, Option, subst, inl, inr}
use Rattle.std.specs.Prelude.{Contains, MatchOption}
use Rattle.index_lists.specs.Chains.{list_at, IsFree}
use Rattle.frame_pool.proofs.PoolUpdates.{pool_sound, same_option, other_option}
use Rattle.frame_pool.proofs.pool.FramePool.page_of.Goals as goal

pub returns-then-eq-clause-free : goal.returns-then-eq-clause-free
returns-then-eq-clause-free c =
    let p = pool_sound _ _ _ _ c.self.invariant.0 in
    let P : Option ℕ → Type 0 = λ o. MatchOption o (IsFree c.self.inside.chains c.args.frame) (λ l. Contains (list_at c.self.inside.chains l) c.args.frame) in
    let used = subst P (same_option _ _ c.if-eq.ensures) c.owner.ensures.cases in
    rw (← c.self.view_is) (λ free. absurd (p.apart c.args.frame free used))

pub returns-then-eq-clause-sound : goal.returns-then-eq-clause-sound
returns-then-eq-clause-sound c = rw (← c.self.view_is) (pool_sound _ _ _ _ c.self.invariant.0)

pub returns-else-eq-clause-page : goal.returns-else-eq-clause-page
returns-else-eq-clause-page c =
    let p = pool_sound _ _ _ _ c.self.invariant.0 in
    let in_pool = rw (← c.self.view_is) at c.requires in
    rw (← c.self.view_is) (elim (p.each c.args.frame in_pool) [
      | inl free ↦ free
      | inr used ↦ absurd (other_option _ _ c.if-eq.ensures (c.owner.ensures.found 1 used))
    ])

pub returns-else-eq-clause-taken : goal.returns-else-eq-clause-taken
returns-else-eq-clause-taken c = rw (← c.self.view_is) (λ used. absurd (other_option _ _ c.if-eq.ensures (c.owner.ensures.found 1 used)))

pub returns-else-eq-clause-sound : goal.returns-else-eq-clause-sound
returns-else-eq-clause-sound c = rw (← c.self.view_is) (pool_sound _ _ _ _ c.self.invariant.0)
