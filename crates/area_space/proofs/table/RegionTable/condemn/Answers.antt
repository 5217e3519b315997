use Rattle.std.proofs.Common.{◌≡◌, ◌∙◌, ap, subst, arith}
use Rattle.area_space.proofs.FlipSteps.{nothing_in, flipping_start, flipping_more, flipping_end}
use Rattle.area_space.proofs.table.RegionTable.condemn.Goals as goal
use Rattle.area_space.specs.Flips.{Slot, IsFlipping}
use Rattle.area_space.specs.Table.{Table, chain, stale, slots_of}

pub flip_slot-requires-clause-empty : goal.flip_slot-requires-clause-empty
flip_slot-requires-clause-empty c =
    let k = c.loop-slot.slot in
    ap (λ (s : Slot). s.old_chain) (c.loop-slot.invariant.rest k (omega arith)) ∙ nothing_in (chain c.args.self.now (stale k)) (λ r m. c.requires r (k, m))

pub loop-slot-init : goal.loop-slot-init
loop-slot-init c = flipping_start c.args.self.now c.begin.new.self c.args.what c.begin.ensures

pub loop-slot-preserved : goal.loop-slot-preserved
loop-slot-preserved c = flipping_more c.args.self.now c.loop-slot.self c.flip_slot.new.self c.args.what c.loop-slot.slot c.loop-slot.invariant c.flip_slot.ensures

pub returns-clause-table : goal.returns-clause-table
returns-clause-table c =
    let e : c.loop-slot.slot ≡ slots_of c.args.self.now = omega (arith, c.slots-slots.ensures.value) in
    flipping_end c.args.self.now c.loop-slot.self c.mark_all.new.self c.args.what c.slots-slots.ensures.sound c.mark_all.ensures.sound (subst (IsFlipping c.args.self.now c.loop-slot.self c.args.what) e c.loop-slot.invariant) c.mark_all.ensures.unchanged c.mark_all.ensures.marks

pub flip_slot-requires-clause-collecting : goal.flip_slot-requires-clause-collecting
flip_slot-requires-clause-collecting c = λ e. (let a = ap (λ (t : Table). t.aim) c.loop-slot.invariant.same in cc)
