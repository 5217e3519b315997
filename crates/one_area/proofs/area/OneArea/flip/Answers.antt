use Rattle.std.proofs.Common.{sym, subst}
use Rattle.mem_port.specs.Plain.{Plain, plain_store}
use Rattle.area_space.specs.Ground.{IsGround}
use Rattle.one_area.specs.OneArea.{IsOneArea}
use Rattle.one_area.proofs.OneAreas.{area_flipped}
use Rattle.one_area.proofs.area.OneArea.flip.Goals as goal

pub condemn-requires : goal.condemn-requires
condemn-requires c = c.has_no_old.ensures c.if-has_no_old.true

pub returns-then-has_no_old : goal.returns-then-has_no_old
returns-then-has_no_old c =
    let now = c.args.self.now in
    let u = c.condemn.new.self.table in
    let g = subst (λ (m : Plain). IsGround (plain_store m) u) c.condemn.ensures.memory (c.condemn.ensures.stays_ground c.requires.ground) in
    subst (λ (m : Plain). IsOneArea (plain_store m) u 0 now.live_words now.live_words) (sym c.condemn.ensures.memory)
    (area_flipped (plain_store now.ground.mem) now.ground.table u now.live_words now.old_words now.moving c.condemn.ensures.sound (c.has_no_old.ensures c.if-has_no_old.true) c.condemn.ensures.table g c.requires)
