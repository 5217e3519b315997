use Rattle.std.proofs.Common.{◌≡◌, ◌<◌, ◌∙◌, ℕ, ap, subst, sym, arith}
use Rattle.area_space.proofs.FreedClasses.{reclaiming_start, reclaiming_more, reclaiming_end}
use Rattle.area_space.proofs.table.RegionTable.free_old.Goals as goal
use Rattle.area_space.specs.Flips.{Slot}
use Rattle.area_space.specs.Frees.{IsReclaiming}
use Rattle.area_space.specs.Table.{slots_of, stale}

pub loop-slot-init : goal.loop-slot-init
loop-slot-init c = reclaiming_start c.args.self.now

pub loop-slot-preserved : goal.loop-slot-preserved
loop-slot-preserved c =
    reclaiming_more c.args.self.now c.loop-slot.self c.free_slot.new.self c.loop-slot.slot c.loop-slot.invariant c.free_slot.ensures.free c.free_slot.ensures.empty
    (λ i j r m n. let e = c.slots-slots.ensures.sound.sound.one_list (stale i) (stale j) r m n in omega arith)

pub finish-requires : goal.finish-requires
finish-requires c = λ slot low.
    let e : c.loop-slot.slot ≡ slots_of c.args.self.now = omega (arith, c.slots-slots.ensures.value) in
    let same : slots_of c.loop-slot.self ≡ slots_of c.args.self.now = ap slots_of c.loop-slot.invariant.same in
    ap (λ (s : Slot). s.old_chain) (c.loop-slot.invariant.done slot (subst (λ (n : ℕ). slot < n) (same ∙ sym e) low))

pub returns-clause-table : goal.returns-clause-table
returns-clause-table c =
    let e : c.loop-slot.slot ≡ slots_of c.args.self.now = omega (arith, c.slots-slots.ensures.value) in
    reclaiming_end c.args.self.now c.loop-slot.self c.finish.new.self c.slots-slots.ensures.sound c.finish.ensures.sound (subst (IsReclaiming c.args.self.now c.loop-slot.self) e c.loop-slot.invariant) c.finish.ensures.after
