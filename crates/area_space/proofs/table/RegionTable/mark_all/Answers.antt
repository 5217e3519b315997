use Rattle.std.proofs.Common.{◌≡◌, ◌<◌, ◌∙◌, ℕ, List, length, ap, sym, arith, length-set, refl, slice_set}
use Rattle.area_space.proofs.FlipSteps.{marks_more}
use Rattle.area_space.proofs.table.RegionTable.mark_all.Goals as goal
use Rattle.area_space.specs.Table.{Table}

pub mark_of-mark-requires : goal.mark_of-mark-requires
mark_of-mark-requires c = let e : c.loop-region.self.regions ≡ c.args.self.now.regions = ap (λ (t : Table). t.regions) c.loop-region.invariant.same in let r = c.regions-regions.ensures.regions in omega arith

pub loop-region-init : goal.loop-region-init
loop-region-init c = record { same = refl; sound = c.regions-regions.ensures.sound; size = c.regions-regions.ensures.sound.marks_size; marks = λ r l. absurd (omega arith) }

pub loop-region-preserved : goal.loop-region-preserved
loop-region-preserved c =
    let t = c.args.self.now in
    let now = c.loop-region.self in
    let next = c.set_mark.new.self in
    let region = c.loop-region.region in
    let mark = c.mark_of-mark.result in
    let i = c.loop-region.invariant in
    let low : region < t.regions = (let r = c.regions-regions.ensures.regions in omega arith) in
    let written : next.marks ≡ slice_set now.marks region mark = ap (λ (x : Table). x.marks) c.set_mark.ensures.after in
    record {
      same = c.set_mark.ensures.after ∙ (ap (λ (x : Table). (let y : Table = record x { marks = slice_set now.marks region mark } in y)) i.same ∙ ap (λ (ms : List ℕ). (let y : Table = record t { marks = ms } in y)) (sym written));
      sound = c.set_mark.ensures.sound;
      size = ap length written ∙ (length-set now.marks region mark ∙ i.size);
      marks = marks_more t now next region mark c.regions-regions.ensures.sound low i.same i.size c.set_mark.ensures.after c.mark_of-mark.ensures i.marks;
    }
