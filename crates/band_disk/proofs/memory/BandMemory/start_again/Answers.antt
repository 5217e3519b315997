use Rattle.std.proofs.Common.{length, sym, ◌∙◌, ap, subst, refl, arith}
use Rattle.band_disk.specs.Logs.{LiesWithin, Restarted}
use Rattle.band_disk.specs.Memory.{LogInvariant}
use Rattle.band_disk.proofs.Invariant.{kept_settled, left_is, lies_within, left_short}
use Rattle.band_disk.proofs.WriteSequences.{within_more}
use Rattle.band_disk.proofs.memory.BandMemory.start_again.Goals as goal

pub leave-requires-clause-in_range : goal.leave-requires-clause-in_range
leave-requires-clause-in_range c = within_more c.self.inside.room _ _ _ c.self.invariant.2 c.self.invariant.0.within

pub replace-requires : goal.replace-requires
replace-requires c =
    omega (arith, ap length (c.deref.ensures.value ∙ c.leave.ensures.items), left_short _ _ _ _ _ _ c.self.invariant.0, c.self.invariant.1)

-- everything is synced
pub invariant_of-self-2 : goal.invariant_of-self-2
invariant_of-self-2 c =
    let inside = c.self.inside in
    let kept = c.self.invariant.0 in
    let left = c.leave.new.synced.items in
    let leaves = c.leave.ensures.items ∙ left_is _ _ _ _ _ _ kept in (
      subst (λ b. LogInvariant c.note_restart.new.self inside.start.items b left inside.room inside.tear) (sym (c.replace.ensures.items ∙ c.deref.ensures.value))
          (kept_settled _ _ _ _ _ _ kept _ Restarted left c.note_restart.ensures leaves (λ _. refl) (omega (arith, ap length c.leave.ensures.items, left_short _ _ _ _ _ _ kept))),
      omega (arith, c.self.invariant.1, c.replace.ensures.capacity),
      omega (arith, c.self.invariant.2, c.leave.ensures.capacity),
    )

pub returns-then-is_synced-clause-in_range : goal.returns-then-is_synced-clause-in_range
returns-then-is_synced-clause-in_range c = subst LiesWithin c.self.view_is (lies_within _ _ _ _ _ _ c.self.invariant.0)

pub returns-clause-in_range : goal.returns-clause-in_range
returns-clause-in_range c = subst LiesWithin c.self.view_is (lies_within _ _ _ _ _ _ c.self.invariant.0)
