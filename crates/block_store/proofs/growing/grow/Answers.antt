use Rattle.std.proofs.Common.{◌≡◌, ℕ, true, false, length, inl, refl, ◌+◌, ◌*◌, ◌<◌, ◌≤◌, ◌∙◌, ap, sym, subst, arith}
use Rattle.area_space.specs.lisp_graph.Effect.{grown_length}
use Rattle.mem_port.specs.Store.{Store}
use Rattle.area_space.proofs.GroundLaws.{ground_same, named_same}
use Rattle.transporter.proofs.Places.{on-err}
use Rattle.transporter.proofs.TransportClauses.{stays-read}
use Rattle.block_store.proofs.BlockReferences.{can_find}
use Rattle.block_store.proofs.GrowthRoom.{fewer_fields, grow_meaning, grows_within, live_head, room_for_wide, wide_more}
use Rattle.block_store.proofs.BlockGrowth.{LeavesGrown, faulted_marks, faulted_preserves, faulted_stays_fresh, grow_stays, new_apart, new_charge_allowed, new_end, new_grown, new_inside, new_low, old_charged, old_inside, old_stands, room_or_same}
use Rattle.mem_port.proofs.CallReports.{answered, answered-if, answers, quiet-then_fault, quiet-twice}
use Rattle.mem_port.specs.View.{WithoutFault, AccountsForFaultsIf, shown}
use Rattle.block_store.specs.Faults.{is_fault}
use Rattle.block_store.specs.Marks.{MarksGrown}
use Rattle.block_store.proofs.GrowthMarks.{block_marks_grown}
use Rattle.block_store.proofs.NewRegions.{grown-needed, needed-after, place-needed}
use Rattle.block_store.specs.Opening.{OpensAsNeeded}
use Rattle.area_space.specs.Table.{Table, slot_of}
use Rattle.transporter.proofs.PageMarks.{marks-read}
use Rattle.block_store.proofs.growing.grow.Given.{Over}
use Rattle.block_store.proofs.growing.grow.Goals.{After-note_husk}
use Rattle.block_store.proofs.growing.grow.Goals as goal

-- what is written, read and held
few_steps : (length wanted wide : ℕ) → length < wanted → wide ≡ grown_length length wanted → 2 * length + wide + 33 ≤ 4 * wanted + 40
few_steps length wanted wide more is = omega arith

pub find-requires : goal.find-requires
find-requires g c = can_find _ c.args.ground.now.table c.args.of.content (grow_meaning _ _ c.args.of c.args.wanted c.requires.can)

pub returns-in_err-head-clause-fault : goal.returns-in_err-head-clause-fault
returns-in_err-head-clause-fault g c = on-err c.from_residual.result (stays-read c.in_err-head.ensures.unchanged)

pub class_of_live-class-requires-clause-live : goal.class_of_live-class-requires-clause-live
class_of_live-class-requires-clause-live g c = live_head _ _ c.args.of (grow_meaning _ _ c.args.of c.args.wanted c.requires.can) c.requires.can.young c.in_ok-head.head c.in_ok-head.ensures.value

pub grown_length-wide-requires-clause-order : goal.grown_length-wide-requires-clause-order
grown_length-wide-requires-clause-order g c = fewer_fields _ c.args.ground.now.table c.args.of c.args.wanted c.requires.can c.requires.at_most c.in_ok-head.head c.in_ok-head.ensures.value

pub place_for-placed-requires-clause-in_range : goal.place_for-placed-requires-clause-in_range
place_for-placed-requires-clause-in_range g c =
    let room = room_for_wide _ c.args.ground.now.table c.args.of c.args.wanted c.requires.can c.requires.at_most c.in_ok-head.head c.in_ok-head.ensures.value c.class_of_live-class.result c.class_of_live-class.ensures.value in
    let is = c.grown_length-wide.ensures in
    omega arith

pub place_for-placed-requires-clause-ground : goal.place_for-placed-requires-clause-ground
place_for-placed-requires-clause-ground g c = let s = c.in_ok-head.ensures.unchanged in ground_same _ _ _ s.words s.levels s.top c.requires.can.kept.ground

pub place_for-placed-requires-clause-named : goal.place_for-placed-requires-clause-named
place_for-placed-requires-clause-named g c = let s = c.in_ok-head.ensures.unchanged in named_same (g.M.Memory.seen c.args.ground.now.mem) (g.M.Memory.seen c.find.new.mem) c.args.ground.now.table s.words c.requires.can.kept.named

pub lay_anew-requires : goal.lay_anew-requires
lay_anew-requires g c =
    let head = c.in_ok-head.ensures in
    let p = c.place_for-placed.ensures in
    let is = c.grown_length-wide.ensures in
    let more = wide_more _ c.args.ground.now.table c.args.of c.args.wanted c.requires.can c.requires.at_most c.in_ok-head.head head.value in
    record {
      few = (let few = c.requires.at_most in omega arith);
      more = omega arith;
      from_inside = old_inside _ _ c.args.of c.args.wanted c.requires.can c.requires.at_most c.in_ok-head.head head.value _ head.unchanged c.class_of_live-class.result c.class_of_live-class.ensures.value _ _ _ p.opened;
      to_inside = new_inside _ _ c.args.of c.args.wanted c.requires.can c.requires.at_most c.in_ok-head.head head.value _ head.unchanged c.class_of_live-class.result c.class_of_live-class.ensures.value _ _ _ p.opened c.grown_length-wide.result c.grown_length-wide.ensures c.place_for-placed.result.at p.end;
      apart = new_apart _ _ c.args.of c.args.wanted c.requires.can c.requires.at_most c.in_ok-head.head head.value _ head.unchanged c.class_of_live-class.result c.class_of_live-class.ensures.value _ _ _ p.opened c.grown_length-wide.result c.grown_length-wide.ensures c.place_for-placed.result.at p.end;
    }

pub returns-in_err-lay_anew-clause-fault : goal.returns-in_err-lay_anew-clause-fault
returns-in_err-lay_anew-clause-fault g c =
    let head = c.in_ok-head.ensures in
    let p = c.place_for-placed.ensures in
    on-err c.from_residual-in_err-lay_anew.result (grow_stays _ _ c.args.of c.args.wanted c.requires.can c.requires.at_most c.in_ok-head.head head.value _ head.unchanged c.class_of_live-class.result c.class_of_live-class.ensures.value _ _ _ p.opened _ c.in_err-lay_anew.ensures.err)

pub returns-in_err-lay_anew-clause-cost : goal.returns-in_err-lay_anew-clause-cost
returns-in_err-lay_anew-clause-cost g c =
    let more = fewer_fields _ c.args.ground.now.table c.args.of c.args.wanted c.requires.can c.requires.at_most c.in_ok-head.head c.in_ok-head.ensures.value in
    let most = few_steps c.in_ok-head.head.length c.args.wanted c.grown_length-wide.result more c.grown_length-wide.ensures in
    let a = c.in_ok-head.ensures.cost in
    let b = c.in_err-lay_anew.ensures.cost in
    omega arith

pub commit-requires-clause-allowed : goal.commit-requires-clause-allowed
commit-requires-clause-allowed g c =
    let head = c.in_ok-head.ensures in
    let p = c.place_for-placed.ensures in
    new_charge_allowed _ _ c.args.of c.args.wanted c.requires.can c.requires.at_most c.in_ok-head.head head.value _ head.unchanged c.class_of_live-class.result c.class_of_live-class.ensures.value _ _ _ p.opened c.grown_length-wide.result c.grown_length-wide.ensures c.place_for-placed.result.at p.end

pub note_husk-requires-clause-in_range : goal.note_husk-requires-clause-in_range
note_husk-requires-clause-in_range g c =
    let head = c.in_ok-head.ensures in
    let p = c.place_for-placed.ensures in
    let end = new_end _ _ c.args.of c.args.wanted c.requires.can c.requires.at_most c.in_ok-head.head head.value _ head.unchanged c.class_of_live-class.result c.class_of_live-class.ensures.value _ _ _ p.opened c.grown_length-wide.result c.grown_length-wide.ensures c.place_for-placed.result.at p.end in (
      _,
      old_stands _ _ c.args.of c.args.wanted c.requires.can c.requires.at_most c.in_ok-head.head head.value _ head.unchanged c.class_of_live-class.result c.class_of_live-class.ensures.value _ _ _ p.opened c.grown_length-wide.result c.grown_length-wide.ensures c.place_for-placed.result.at p.end
          (g.M.Memory.seen c.lay_anew.new.mem) c.in_ok-lay_anew.ensures.ok c.commit.new.self.table (c.commit.ensures.table _ end),
    )

pub note_husk-requires-clause-at_most : goal.note_husk-requires-clause-at_most
note_husk-requires-clause-at_most g c =
    let head = c.in_ok-head.ensures in
    let p = c.place_for-placed.ensures in
    let end = new_end _ _ c.args.of c.args.wanted c.requires.can c.requires.at_most c.in_ok-head.head head.value _ head.unchanged c.class_of_live-class.result c.class_of_live-class.ensures.value _ _ _ p.opened c.grown_length-wide.result c.grown_length-wide.ensures c.place_for-placed.result.at p.end in
    old_charged _ _ c.args.of c.args.wanted c.requires.can c.requires.at_most c.in_ok-head.head head.value _ head.unchanged c.class_of_live-class.result c.class_of_live-class.ensures.value _ _ _ p.opened c.grown_length-wide.result c.grown_length-wide.ensures c.place_for-placed.result.at p.end
    (g.M.Memory.seen c.lay_anew.new.mem) c.in_ok-lay_anew.ensures.ok c.commit.new.self.table (c.commit.ensures.table _ end)

-- The state after the call

has_grown : (g : Over) (c : After-note_husk g) → LeavesGrown (g.M.Memory.seen c.args.ground.now.mem) c.args.ground.now.table (g.M.Memory.seen c.note_husk.new.self.mem) c.note_husk.new.self.table c.args.of.content c.args.wanted c.place_for-placed.result.at
has_grown g c =
    let head = c.in_ok-head.ensures in
    let p = c.place_for-placed.ensures in
    let end = new_end _ _ c.args.of c.args.wanted c.requires.can c.requires.at_most c.in_ok-head.head head.value _ head.unchanged c.class_of_live-class.result c.class_of_live-class.ensures.value _ _ _ p.opened c.grown_length-wide.result c.grown_length-wide.ensures c.place_for-placed.result.at p.end in
    let commit = c.commit.ensures.table _ end in
    let stands = old_stands _ _ c.args.of c.args.wanted c.requires.can c.requires.at_most c.in_ok-head.head head.value _ head.unchanged c.class_of_live-class.result c.class_of_live-class.ensures.value _ _ _ p.opened c.grown_length-wide.result c.grown_length-wide.ensures c.place_for-placed.result.at p.end
    (g.M.Memory.seen c.lay_anew.new.mem) c.in_ok-lay_anew.ensures.ok c.commit.new.self.table commit in
    let grown = new_grown _ _ c.args.of c.args.wanted c.requires.can c.requires.at_most c.in_ok-head.head head.value _ head.unchanged c.class_of_live-class.result c.class_of_live-class.ensures.value _ _ _ p.opened c.grown_length-wide.result c.grown_length-wide.ensures c.place_for-placed.result.at p.end
    (g.M.Memory.seen c.lay_anew.new.mem) c.in_ok-lay_anew.ensures.ok c.commit.new.self.table commit c.note_husk.new.self.table (c.note_husk.ensures.table _ stands) c.note_husk.ensures.sound c.commit.ensures.pages in
    let memory = ap g.M.Memory.seen (c.note_husk.ensures.memory ∙ c.commit.ensures.memory) in
    subst (λ (m : Store). LeavesGrown (g.M.Memory.seen c.args.ground.now.mem) c.args.ground.now.table m c.note_husk.new.self.table c.args.of.content c.args.wanted c.place_for-placed.result.at) (sym memory) grown

pub returns-clause-grows : goal.returns-clause-grows
returns-clause-grows g c = (has_grown g (goal.at.returns-clause-grows g c).After-note_husk).grows

pub returns-clause-size : goal.returns-clause-size
returns-clause-size g c = grows_within _ _ c.args.of c.args.wanted c.requires.can c.requires.at_most c.in_ok-head.head c.in_ok-head.ensures.value c.class_of_live-class.result c.class_of_live-class.ensures.value

pub returns-clause-in_range : goal.returns-clause-in_range
returns-clause-in_range g c =
    let head = c.in_ok-head.ensures in
    let p = c.place_for-placed.ensures in
    new_low _ _ c.args.of c.args.wanted c.requires.can c.requires.at_most c.in_ok-head.head head.value _ head.unchanged c.class_of_live-class.result c.class_of_live-class.ensures.value _ _ _ p.opened c.grown_length-wide.result c.grown_length-wide.ensures c.place_for-placed.result.at p.end

pub returns-clause-left : goal.returns-clause-left
returns-clause-left g c = (has_grown g (goal.at.returns-clause-left g c).After-note_husk).husk

pub returns-clause-cost : goal.returns-clause-cost
returns-clause-cost g c =
    let more = fewer_fields _ c.args.ground.now.table c.args.of c.args.wanted c.requires.can c.requires.at_most c.in_ok-head.head c.in_ok-head.ensures.value in
    let most = few_steps c.in_ok-head.head.length c.args.wanted c.grown_length-wide.result more c.grown_length-wide.ensures in
    let a = c.in_ok-head.ensures.cost in
    let b = c.in_ok-lay_anew.ensures.cost in
    omega arith

pub returns-in_err-head-clause-opened : goal.returns-in_err-head-clause-opened
returns-in_err-head-clause-opened g c = on-err c.from_residual.result (inl refl)

pub returns-in_err-lay_anew-clause-opened : goal.returns-in_err-lay_anew-clause-opened
returns-in_err-lay_anew-clause-opened g c =
    let head = c.in_ok-head.ensures in
    let p = c.place_for-placed.ensures in
    on-err c.from_residual-in_err-lay_anew.result (room_or_same _ _ c.args.of c.args.wanted c.requires.can c.requires.at_most c.in_ok-head.head head.value _ head.unchanged c.class_of_live-class.result c.class_of_live-class.ensures.value _ _ _ p.opened)

pub returns-clause-placed : goal.returns-clause-placed
returns-clause-placed g c = (has_grown g (goal.at.returns-clause-placed g c).After-note_husk).placed

pub returns-in_err-lay_anew-clause-preserves : goal.returns-in_err-lay_anew-clause-preserves
returns-in_err-lay_anew-clause-preserves g c =
    let head = c.in_ok-head.ensures in
    let p = c.place_for-placed.ensures in
    faulted_preserves _ _ c.args.of c.args.wanted c.requires.can c.requires.at_most c.in_ok-head.head head.value _ head.unchanged c.class_of_live-class.result c.class_of_live-class.ensures.value _ _ _ p.opened _ c.in_err-lay_anew.ensures.err

pub returns-in_err-lay_anew-clause-stays_fresh : goal.returns-in_err-lay_anew-clause-stays_fresh
returns-in_err-lay_anew-clause-stays_fresh g c =
    let head = c.in_ok-head.ensures in
    let p = c.place_for-placed.ensures in
    faulted_stays_fresh _ _ c.args.of c.args.wanted c.requires.can c.requires.at_most c.in_ok-head.head head.value _ head.unchanged c.class_of_live-class.result c.class_of_live-class.ensures.value _ _ _ p.opened _ c.in_err-lay_anew.ensures.err

pub returns-clause-preserves : goal.returns-clause-preserves
returns-clause-preserves g c = (has_grown g (goal.at.returns-clause-preserves g c).After-note_husk).preserves

pub returns-clause-stays_fresh : goal.returns-clause-stays_fresh
returns-clause-stays_fresh g c = (has_grown g (goal.at.returns-clause-stays_fresh g c).After-note_husk).stays_fresh

pub returns-in_err-lay_anew-clause-accounted : goal.returns-in_err-lay_anew-clause-accounted
returns-in_err-lay_anew-clause-accounted g c =
    let p = c.place_for-placed.ensures in
    let before : WithoutFault (shown g.M.Memory c.args.ground.now.mem) (shown g.M.Memory c.place_for-placed.new.ground.mem) c.args.steps.now c.find.new.steps = quiet-twice (answered-if c.in_ok-head.ensures.accounted) (record { faults = p.no_fault; honest = (let a = p.taken in omega arith); room = (let a = ap length p.resident in omega arith); sound = λ _. c.place_for-placed.new.ground.sound }) in
    let is : is_fault c.from_residual-in_err-lay_anew.result ≡ true =
    (let was = c.in_err-lay_anew.was in let from = c.from_residual-in_err-lay_anew.ensures in let branch = c.branch-lay_anew.ensures in let is = c.in_err-lay_anew.is in grind arith) in
    quiet-then_fault c.in_err-lay_anew.field-0.0 before c.in_err-lay_anew.ensures.accounted _ is

pub returns-clause-accounted : goal.returns-clause-accounted
returns-clause-accounted g c =
    let p = c.place_for-placed.ensures in
    let before : WithoutFault (shown g.M.Memory c.args.ground.now.mem) (shown g.M.Memory c.place_for-placed.new.ground.mem) c.args.steps.now c.find.new.steps = quiet-twice (answered-if c.in_ok-head.ensures.accounted) (record { faults = p.no_fault; honest = (let a = p.taken in omega arith); room = (let a = ap length p.resident in omega arith); sound = λ _. c.place_for-placed.new.ground.sound }) in
    let tells = answers (quiet-twice before (answered c.in_ok-lay_anew.field-0 c.in_ok-lay_anew.ensures.accounted)) in
    subst (λ m. AccountsForFaultsIf (shown g.M.Memory c.args.ground.now.mem) (shown g.M.Memory m) c.args.steps.now c.lay_anew.new.steps false) (sym (c.note_husk.ensures.memory ∙ c.commit.ensures.memory)) tells

pub returns-in_err-lay_anew-clause-needed : goal.returns-in_err-lay_anew-clause-needed
returns-in_err-lay_anew-clause-needed g c =
    let head = c.in_ok-head.ensures in
    let p = c.place_for-placed.ensures in
    let class = c.class_of_live-class.ensures.value in
    let table = c.requires.can.kept.table in
    let placed = place-needed _ _ c.args.ground.now.table c.place_for-placed.new.ground.table c.class_of_live-class.result.area c.class_of_live-class.result.level (c.grown_length-wide.result + 1) _ table class.area_in class.level_in p.opened p.needed in
    grown-needed (g.M.Memory.seen c.args.ground.now.mem) c.args.ground.now.table c.args.of.content c.in_ok-head.head head.value _ class table c.place_for-placed.new.ground.table c.args.wanted
    (subst (λ (n : ℕ). OpensAsNeeded c.args.ground.now.table c.place_for-placed.new.ground.table (slot_of c.args.ground.now.table c.class_of_live-class.result.area c.class_of_live-class.result.level) (n + 1)) c.grown_length-wide.ensures placed)

pub returns-clause-needed : goal.returns-clause-needed
returns-clause-needed g c =
    let head = c.in_ok-head.ensures in
    let p = c.place_for-placed.ensures in
    let class = c.class_of_live-class.ensures.value in
    let table = c.requires.can.kept.table in
    let end = new_end _ _ c.args.of c.args.wanted c.requires.can c.requires.at_most c.in_ok-head.head head.value _ head.unchanged c.class_of_live-class.result c.class_of_live-class.ensures.value _ _ _ p.opened c.grown_length-wide.result c.grown_length-wide.ensures c.place_for-placed.result.at p.end in
    let commit = c.commit.ensures.table _ end in
    let stands = old_stands _ _ c.args.of c.args.wanted c.requires.can c.requires.at_most c.in_ok-head.head head.value _ head.unchanged c.class_of_live-class.result c.class_of_live-class.ensures.value _ _ _ p.opened c.grown_length-wide.result c.grown_length-wide.ensures c.place_for-placed.result.at p.end
    (g.M.Memory.seen c.lay_anew.new.mem) c.in_ok-lay_anew.ensures.ok c.commit.new.self.table commit in
    let chains = ap (λ (u : Table). u.chains) (c.note_husk.ensures.table _ stands) ∙ ap (λ (u : Table). u.chains) commit in
    let placed = place-needed _ _ c.args.ground.now.table c.place_for-placed.new.ground.table c.class_of_live-class.result.area c.class_of_live-class.result.level (c.grown_length-wide.result + 1) _ table class.area_in class.level_in p.opened p.needed in
    grown-needed (g.M.Memory.seen c.args.ground.now.mem) c.args.ground.now.table c.args.of.content c.in_ok-head.head head.value _ class table c.note_husk.new.self.table c.args.wanted
    (subst (λ (n : ℕ). OpensAsNeeded c.args.ground.now.table c.note_husk.new.self.table (slot_of c.args.ground.now.table c.class_of_live-class.result.area c.class_of_live-class.result.level) (n + 1)) c.grown_length-wide.ensures
    (needed-after c.args.ground.now.table c.place_for-placed.new.ground.table c.note_husk.new.self.table _ (c.grown_length-wide.result + 1) chains placed))

pub returns-in_err-head-clause-marks : goal.returns-in_err-head-clause-marks
returns-in_err-head-clause-marks g c = marks-read c.args.ground.now.table c.in_err-head.ensures.unchanged

pub returns-in_err-lay_anew-clause-marks : goal.returns-in_err-lay_anew-clause-marks
returns-in_err-lay_anew-clause-marks g c =
    let head = c.in_ok-head.ensures in
    let p = c.place_for-placed.ensures in
    faulted_marks _ _ c.args.of c.args.wanted c.requires.can c.requires.at_most c.in_ok-head.head head.value _ head.unchanged c.class_of_live-class.result c.class_of_live-class.ensures.value _ _ _ p.opened _ c.in_err-lay_anew.ensures.err

pub returns-clause-marks : goal.returns-clause-marks
returns-clause-marks g c = (has_grown g (goal.at.returns-clause-marks g c).After-note_husk).marks

pub returns-clause-unmarked : goal.returns-clause-unmarked
returns-clause-unmarked g c = λ reference here refers final.
    let head = c.in_ok-head.ensures in
    let p = c.place_for-placed.ensures in
    let apart = new_apart _ _ c.args.of c.args.wanted c.requires.can c.requires.at_most c.in_ok-head.head head.value _ head.unchanged c.class_of_live-class.result c.class_of_live-class.ensures.value _ _ _ p.opened c.grown_length-wide.result c.grown_length-wide.ensures c.place_for-placed.result.at p.end in
    subst (λ (m : Store). MarksGrown (g.M.Memory.seen c.args.ground.now.mem) c.args.ground.now.table m c.args.of.content here c.place_for-placed.result.at c.args.wanted) (sym (ap g.M.Memory.seen (c.note_husk.ensures.memory ∙ c.commit.ensures.memory)))
    (block_marks_grown c.args.of c.args.wanted c.grown_length-wide.result c.place_for-placed.result.at head.value c.grown_length-wide.ensures c.place_for-placed.result.opened head.unchanged p.opened c.in_ok-lay_anew.ensures.ok apart reference here refers final)
