use Rattle.std.proofs.Common.{◌≡◌, ◌+◌, subst, sym, arith, Option, Some}
use Rattle.std.specs.Prelude.{IfSome}
use Rattle.mem_port.specs.Plain.{Plain, plain_store}
use Rattle.area_space.specs.Ground.{IsGround}
use Rattle.one_area.specs.OneArea.{IsOneArea}
use Rattle.one_area.proofs.OneAreas.{area_put, new_allowed}
use Rattle.one_area.proofs.area.OneArea.put.Goals as goal

there : {A : Type 0} (P : A → Type 0) (o : Option A) (a : A) → o ≡ Some a → IfSome o P → P a
there P o a is some = subst (λ x. IfSome x P) is some

pub commit-requires-clause-end : goal.commit-requires-clause-end
commit-requires-clause-end c = (0, there _ _ _ c.in_ok-placed.was c.place.ensures.end)

pub commit-requires-clause-allowed : goal.commit-requires-clause-allowed
commit-requires-clause-allowed c = λ slot e.
    let made = c.place.new.self in
    let a = c.account.ensures.value in
    let q = c.quota.ensures.value in
    let no = c.if-account-words.false in
    new_allowed (plain_store made.ground.mem) made.ground.table made.live_words made.old_words made.moving c.in_ok-placed.placed.at c.args.words slot c.place.ensures.sound (omega arith) e

pub returns : goal.returns
returns c =
    let made = c.place.new.self in
    let p = c.place.ensures in
    let end = there _ _ _ c.in_ok-placed.was p.end in
    let within = there _ _ _ c.in_ok-placed.was p.in_range in
    let u = c.commit.new.self.table in
    let g = subst (λ (m : Plain). IsGround (plain_store m) u) c.commit.ensures.memory (c.commit.ensures.stays_ground p.sound.ground) in
    subst (λ (m : Plain). IsOneArea (plain_store m) u (made.live_words + c.args.words) made.old_words made.moving) (sym c.commit.ensures.memory)
    (area_put (plain_store made.ground.mem) made.ground.table u made.live_words made.old_words made.moving c.in_ok-placed.placed.at c.args.words c.commit.ensures.sound end (c.commit.ensures.table 0 end) (omega arith) g p.sound)
