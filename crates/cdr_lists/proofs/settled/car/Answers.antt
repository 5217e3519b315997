use Rattle.std.proofs.Common.{◌≡◌, ◌∙◌, ℕ, true, arith, ap, refl, rules, sym, subst}
use Rattle.store_word.specs.Words.{Parts}
use Rattle.area_space.specs.View.{view}
use Rattle.transporter.specs.Moving.{FetchMoves}
use Rattle.transporter.specs.Reads.{KeepsGround}
use Rattle.transporter.specs.Settling.{RefersToOld, reference_of}
use Rattle.transporter.proofs.TransportSequences.{fetch_moves-read, same-stores}
use Rattle.transporter.proofs.SettledWords.{reference-inside}
use Rattle.transporter.proofs.ScannedWords.{read-stays_fresh}
use Rattle.transporter.proofs.GroundReads.{fetched-costs, fetched-keeps, read-costs, read-keeps}
use Rattle.cdr_lists.proofs.ConsAddresses.{keeps_cons, readable_at, reads_car}
use Rattle.cdr_lists.proofs.FreshWords.{live_fresh}
use Rattle.cdr_lists.proofs.ConsReferences.{can_find, reads_keep_cons, same_place}
use Rattle.cdr_lists.proofs.ConsRefusals.{fault-refuses_none, refuses_none}
use Rattle.cdr_lists.proofs.PartReads.{car_live, car_settleable, car_fetched, car_faulted, first_answered, first_read, first_settleable, first_settled, first_unmoved, settled_at}
use Rattle.mem_port.proofs.CallReports.{answered, answered-if, answers, quiet-then_fault, quiet-twice}
use Rattle.cdr_lists.specs.Faults.{is_fault}
use Rattle.cdr_lists.proofs.settled.car.Given.{Over}
use Rattle.cdr_lists.proofs.settled.car.Goals.{After-fetch}
use Rattle.cdr_lists.proofs.settled.car.Goals as goal

-- what a fetch leaves, with any result
kept : (g : Over) (c : After-fetch g) → KeepsGround (view c.args.ground.now) (view c.fetch.new.ground)
kept g c =
    let found = c.in_ok-found.ensures in
    let p = found.place in
    let word = c.fetch.ensures in
    let live = car_live _ _ _ p.reference (readable_at _ _ c.args.of p.reference p.is c.requires) found.unchanged c.in_ok-found.found.at p.final p.last in
    fetched-keeps _ _ _ _ found.unchanged word.table word.moves word.preserves word.marks
    (λ all. let read = read-stays_fresh _ found.unchanged all in word.stays_fresh (live_fresh (g.M.Memory.seen c.find_first.new.mem) _ c.in_ok-found.found.at read live) read)

pub find_first-requires : goal.find_first-requires
find_first-requires g c = can_find _ _ c.args.of c.requires

pub returns-in_err-found-clause-unchanged : goal.returns-in_err-found-clause-unchanged
returns-in_err-found-clause-unchanged g c = reads_keep_cons c.args.ground.now.table c.args.of.content c.in_err-found.ensures.unchanged

pub returns-in_err-found-clause-stays_ground : goal.returns-in_err-found-clause-stays_ground
returns-in_err-found-clause-stays_ground g c = read-keeps _ _ c.args.ground.now.table c.in_err-found.ensures.unchanged

pub has_old-requires : goal.has_old-requires
has_old-requires g c = λ at ref.
    let found = c.in_ok-found.ensures in
    let p = found.place in
    let first = first_read (g.M.Memory.seen c.args.ground.now.mem).words c.in_ok-found.found.at c.in_ok-found.found.first c.in-Some.first found.first c.in-Some.is in
    reference-inside at (first_settleable _ _ _ c.in_ok-found.found.at c.in-Some.first found.unchanged first p.reference (readable_at _ _ c.args.of p.reference p.is c.requires) p.final p.last) ref

pub fetch-requires-clause-in_range : goal.fetch-requires-clause-in_range
fetch-requires-clause-in_range g c =
    let found = c.in_ok-found.ensures in
    let p = found.place in
    car_live _ _ _ p.reference (readable_at _ _ c.args.of p.reference p.is c.requires) found.unchanged c.in_ok-found.found.at p.final p.last

pub fetch-requires-clause-can : goal.fetch-requires-clause-can
fetch-requires-clause-can g c =
    let found = c.in_ok-found.ensures in
    let p = found.place in
    car_settleable _ _ _ p.reference (readable_at _ _ c.args.of p.reference p.is c.requires) found.unchanged c.in_ok-found.found.at p.final p.last

pub returns-in_err-word-in_default-clause-unchanged : goal.returns-in_err-word-in_default-clause-unchanged
returns-in_err-word-in_default-clause-unchanged g c =
    let found = c.in_ok-found.ensures in
    let p = found.place in
    keeps_cons _ _ c.args.of.content p.reference p.is _ _ (car_faulted _ _ _ _ _ p.reference c.in_ok-found.found.at found.unchanged p.final c.in_err-word-in_default.ensures.fault)

pub returns-in_err-word-in_default-clause-stays_ground : goal.returns-in_err-word-in_default-clause-stays_ground
returns-in_err-word-in_default-clause-stays_ground g c = kept g (goal.at.returns-in_err-word-in_default-clause-stays_ground g c).After-fetch

pub returns-in_ok-word-in_default-clause-value : goal.returns-in_ok-word-in_default-clause-value
returns-in_ok-word-in_default-clause-value g c =
    let found = c.in_ok-found.ensures in
    let p = found.place in
    let word = c.in_ok-word-in_default.ensures in
    let content = ap (λ (w : Parts). w.content) c.with_cdr-in_default.ensures in
    record {
      car = reads_car _ _ c.args.of.content p.reference p.is _ _ _ (car_fetched _ _ _ _ _ p.reference c.in_ok-found.found.at found.unchanged p.final c.in_ok-word-in_default.word c.with_cdr-in_default.result word.settles content);
      fresh = λ old. word.word.fresh (old.0, ap reference_of (sym content) ∙ old.1, old.2);
      word = search rules;
      written = λ to place. settled_at _ _ _ _ _ c.in_ok-found.found.at to c.in_ok-word-in_default.word _ found.unchanged word.word word.written word.registers content (same_place _ c.args.of.content to c.in_ok-found.found.at place p);
      words = λ to place.
          subst (λ (a : ℕ). FetchMoves (g.M.Memory.seen c.args.ground.now.mem) c.args.ground.now.table (g.M.Memory.seen c.fetch.new.ground.mem) c.fetch.new.ground.table a) (sym (same_place _ c.args.of.content to c.in_ok-found.found.at place p)) (fetch_moves-read found.unchanged word.words same-stores);
    }

pub returns-in_ok-word-in_default-clause-stays_ground : goal.returns-in_ok-word-in_default-clause-stays_ground
returns-in_ok-word-in_default-clause-stays_ground g c = kept g (goal.at.returns-in_ok-word-in_default-clause-stays_ground g c).After-fetch

pub returns-in_ok-word-in_default-clause-unchanged : goal.returns-in_ok-word-in_default-clause-unchanged
returns-in_ok-word-in_default-clause-unchanged g c =
    let found = c.in_ok-found.ensures in
    let p = found.place in
    keeps_cons _ _ c.args.of.content p.reference p.is _ _ (car_faulted _ _ _ _ _ p.reference c.in_ok-found.found.at found.unchanged p.final (λ it registers v can. (c.in_ok-word-in_default.ensures.settles it registers v can).later))

pub returns-in_ok-word-in_default-clause-accounted : goal.returns-in_ok-word-in_default-clause-accounted
returns-in_ok-word-in_default-clause-accounted g c = answers (quiet-twice (answered-if c.in_ok-found.ensures.accounted) (answered c.in_ok-word-in_default.word c.in_ok-word-in_default.ensures.accounted))

pub returns-in_err-word-in_default-clause-accounted : goal.returns-in_err-word-in_default-clause-accounted
returns-in_err-word-in_default-clause-accounted g c =
    let is : is_fault c.from_residual-in_err-word-in_default.result ≡ true =
    (let was = c.in_err-word-in_default.was in let from = c.from_residual-in_err-word-in_default.ensures in let branch = c.branch-word.ensures in let is = c.in_err-word-in_default.is in grind arith) in
    quiet-then_fault c.in_err-word-in_default.field-0.0 (answered-if c.in_ok-found.ensures.accounted) c.in_err-word-in_default.ensures.accounted _ is

-- The car has no old address

pub returns-in-Some-clause-value : goal.returns-in-Some-clause-value
returns-in-Some-clause-value g c =
    let found = c.in_ok-found.ensures in
    let p = found.place in
    let first = first_read (g.M.Memory.seen c.args.ground.now.mem).words c.in_ok-found.found.at c.in_ok-found.found.first c.in-Some.first found.first c.in-Some.is in
    let young : RefersToOld c.args.ground.now.table c.in-Some.first → ⊥ = λ old. (let e = c.has_old.ensures.1 old in let f = c.if-not-has_old.true in cc) in
    let content = ap (λ (w : Parts). w.content) c.with_cdr.ensures in
    record {
      car = reads_car _ _ c.args.of.content p.reference p.is _ _ _ (first_answered _ _ _ c.in_ok-found.found.at c.in-Some.first found.unchanged first p.reference c.with_cdr.result p.final content);
      fresh = search rules;
      word = search rules;
      written = λ to place. first_settled _ _ _ c.in_ok-found.found.at c.in-Some.first found.unchanged first young to _ content (same_place _ c.args.of.content to c.in_ok-found.found.at place p);
      words = λ to place. first_unmoved _ _ _ c.in_ok-found.found.at c.in-Some.first found.unchanged first young to (same_place _ c.args.of.content to c.in_ok-found.found.at place p);
    }

pub returns-in-Some-clause-unchanged : goal.returns-in-Some-clause-unchanged
returns-in-Some-clause-unchanged g c = reads_keep_cons c.args.ground.now.table c.args.of.content c.in_ok-found.ensures.unchanged

pub returns-in-Some-clause-stays_ground : goal.returns-in-Some-clause-stays_ground
returns-in-Some-clause-stays_ground g c = read-keeps _ _ c.args.ground.now.table c.in_ok-found.ensures.unchanged

-- The cost

pub returns-in_err-found-clause-costs : goal.returns-in_err-found-clause-costs
returns-in_err-found-clause-costs g c = let found = c.in_err-found.ensures.cost in read-costs _ _ _ _ _ 60 refl (omega arith)

pub returns-in-Some-clause-costs : goal.returns-in-Some-clause-costs
returns-in-Some-clause-costs g c = let found = c.in_ok-found.ensures.cost in read-costs _ _ _ _ _ 60 refl (omega arith)

pub returns-in_ok-word-in_default-clause-costs : goal.returns-in_ok-word-in_default-clause-costs
returns-in_ok-word-in_default-clause-costs g c =
    let found = c.in_ok-found.ensures.cost in
    let word = c.in_ok-word-in_default.ensures in
    fetched-costs _ _ _ c.find_first.new.steps _ _ 60 (omega arith) word.at_most (λ calm. word.cost) word.cost_at_most

pub returns-in_err-word-in_default-clause-costs : goal.returns-in_err-word-in_default-clause-costs
returns-in_err-word-in_default-clause-costs g c =
    let is : is_fault c.from_residual-in_err-word-in_default.result ≡ true =
    (let was = c.in_err-word-in_default.was in let from = c.from_residual-in_err-word-in_default.ensures in let branch = c.branch-word.ensures in let is = c.in_err-word-in_default.is in grind arith) in
    let found = c.in_ok-found.ensures.cost in
    let word = c.in_err-word-in_default.ensures in
    fetched-costs _ _ _ c.find_first.new.steps _ _ 60 (omega arith) word.at_most (λ calm. let both = sym is ∙ calm in absurd cc) word.cost_at_most

-- What is refused

pub returns-in-Some-clause-refused : goal.returns-in-Some-clause-refused
returns-in-Some-clause-refused g c = refuses_none _ _ _ _ _ _ (λ e. cc) (λ other. let e = c.in_ok-found.ensures.refused.1 other in cc)

pub returns-in_ok-word-in_default-clause-refused : goal.returns-in_ok-word-in_default-clause-refused
returns-in_ok-word-in_default-clause-refused g c = refuses_none _ _ _ _ _ _ (λ e. cc) (λ other. let e = c.in_ok-found.ensures.refused.1 other in cc)

pub returns-in_err-word-in_default-clause-refused : goal.returns-in_err-word-in_default-clause-refused
returns-in_err-word-in_default-clause-refused g c =
    let is : is_fault c.from_residual-in_err-word-in_default.result ≡ true =
    (let was = c.in_err-word-in_default.was in let from = c.from_residual-in_err-word-in_default.ensures in let branch = c.branch-word.ensures in let is = c.in_err-word-in_default.is in grind arith) in
    refuses_none _ _ _ _ _ _ (fault-refuses_none _ is) (λ other. let e = c.in_ok-found.ensures.refused.1 other in cc)
