use Rattle.std.proofs.Common.{◌<◌, ℕ, ap, subst, sym}
use Rattle.area_space.proofs.FreedClasses.{freeing_start, freeing_more, freeing_less, forgiven_owes}
use Rattle.area_space.proofs.table.RegionTable.free_slot.Goals as goal
use Rattle.area_space.specs.Table.{slots_of}

pub loop-region-init : goal.loop-region-init
loop-region-init c = freeing_start c.args.self.now c.forgive.new.self c.args.slot c.forgive.ensures.sound c.requires c.forgive.ensures.after

pub release-requires-clause-empty : goal.release-requires-clause-empty
release-requires-clause-empty c = forgiven_owes c.args.self.now c.loop-region.self c.args.slot c.loop-region.invariant

pub loop-region-smaller : goal.loop-region-smaller
loop-region-smaller c =
    let low : c.args.slot < slots_of c.loop-region.self = subst (λ (n : ℕ). c.args.slot < n) (sym (ap slots_of c.loop-region.invariant.same)) c.requires in
    freeing_less c.loop-region.self c.release.new.self c.args.slot c.in-Some._region c.release.ensures.sound low c.in-Some.ensures.some c.in-Some.ensures.after

pub loop-region-preserved : goal.loop-region-preserved
loop-region-preserved c =
    let low : c.args.slot < slots_of c.loop-region.self = subst (λ (n : ℕ). c.args.slot < n) (sym (ap slots_of c.loop-region.invariant.same)) c.requires in
    freeing_more c.args.self.now c.loop-region.self c.release.new.self c.args.slot c.in-Some._region c.loop-region.invariant c.release.ensures.sound low c.in-Some.ensures.some c.in-Some.ensures.after
