use Rattle.std.proofs.Common.{◌≡◌, ◌∙◌, ℕ, refl, subst, arith, length}
use Rattle.heap_load.specs.Loading.{Drafted, Laid}
use Rattle.heap_load.proofs.GroupSearch.{linked_later}
use Rattle.heap_load.proofs.drafts.make_drafts.Goals as goal

pub loop-made-init : goal.loop-made-init
loop-made-init g c = record {
  within = omega arith;
  linked = λ i low below. absurd (omega arith);
  drafted = c.requires.none;
  laid = record { each = λ i low. absurd (omega arith); blocks = λ i low. absurd (omega arith) };
  regions = refl;
  quiet = record { faults = refl; honest = refl; room = omega arith; sound = λ before. before };
}

pub make_next-requires-clause-in_range : goal.make_next-requires-clause-in_range
make_next-requires-clause-in_range g c =
    let same = c.len.ensures in
    let more = c.loop-made-test.true in
    omega arith

pub make_next-requires-clause-agrees : goal.make_next-requires-clause-agrees
make_next-requires-clause-agrees g c = c.group_from-size.ensures.value

pub loop-made-preserved : goal.loop-made-preserved
loop-made-preserved g c =
    let v = c.loop-made.invariant in
    let made = c.in_ok-made.ensures in
    let before = v.quiet in
    let after = made.accounted in
    record {
      within = (let same = c.len.ensures in let few = made.count in omega arith);
      linked = linked_later c.args.world.now.objects _ _ c.group_from-size.new.linked (omega arith) c.group_from-size.ensures.stays_known;
      drafted = made.drafted;
      laid = made.stays_laid;
      regions = made.regions ∙ v.regions;
      quiet = record { faults = after.cause.quiet ∙ before.faults; honest = (let a = before.honest in let b = after.honest in omega arith); room = (let a = before.room in let b = after.room.answered in omega arith); sound = λ was. after.sound (before.sound was) };
    }

pub returns-clause-drafted : goal.returns-clause-drafted
returns-clause-drafted g c =
    let v = c.loop-made.invariant in
    let same = c.len.ensures in
    let past = c.loop-made-test.false in
    let within = v.within in
    let all : c.loop-made.made ≡ length c.args.world.now.objects = omega arith in
    subst (λ (n : ℕ). Drafted (g.M.Memory.seen c.loop-made.ground.mem) c.loop-made.ground.table c.args.world.now c.loop-made.places n) all v.drafted

pub returns-clause-laid : goal.returns-clause-laid
returns-clause-laid g c =
    let v = c.loop-made.invariant in
    let same = c.len.ensures in
    let past = c.loop-made-test.false in
    let within = v.within in
    let all : c.loop-made.made ≡ length c.args.world.now.objects = omega arith in
    subst (λ (n : ℕ). Laid (g.M.Memory.seen c.loop-made.ground.mem).words c.loop-made.places c.args.world.now.objects n) all v.laid
