use Rattle.std.proofs.Common.{◌≡◌, true, ◌∙◌, sym, subst, ap, arith}
use Rattle.store_word.specs.Words.{Parts}
use Rattle.mem_port.specs.View.{shown}
use Rattle.mem_port.proofs.CallReports.{answered-if, answers}
use Rattle.obj_layout.proofs.ForwardChains.{stores_nothing-twice}
use Rattle.transporter.specs.Preserving.{FreshOn}
use Rattle.transporter.proofs.ScannedWords.{fresh-value, read-stays_fresh, read-preserves, stored-preserves, preserves-then}
use Rattle.cdr_lists.specs.Faults.{is_fault}
use Rattle.cdr_lists.proofs.CallReports.{asked-then, asked-then_fault}
use Rattle.cdr_lists.proofs.ConsAddresses.{readable_at, sets_car, settable_at}
use Rattle.cdr_lists.proofs.FreshWords.{still_stays_fresh}
use Rattle.cdr_lists.proofs.ConsRefusals.{fault-refuses_none, refuses_none}
use Rattle.cdr_lists.proofs.ConsReferences.{can_find, code_after}
use Rattle.cdr_lists.proofs.PartStores.{car_set, car_written, store_inside}
use Rattle.transporter.specs.Marking.{MarksFollowBut}
use Rattle.transporter.proofs.PageMarks.{marks-but, marks-read, marks-stored, marks-then_but}
use Rattle.cdr_lists.proofs.FreshWords.{final_plain, young_stored}
use Rattle.cdr_lists.proofs.ConsReferences.{same_place}
use Rattle.transporter.proofs.TransportSequences.{moves-after_read, read-writes, stored-writes, writes-moves}
use Rattle.cdr_lists.proofs.PartReads.{car_live}
use Rattle.cdr_lists.proofs.parts.set_car.Goals as goal

pub read_cons-requires : goal.read_cons-requires
read_cons-requires g c = can_find _ _ c.args.of c.requires.can

pub returns-clause-set : goal.returns-clause-set
returns-clause-set g c =
    let read = c.in_ok-cons.ensures in
    let p = read.value.place in
    let content = ap (λ (w : Parts). w.content) c.with_cdr.ensures in
    record {
      set = sets_car _ _ c.args.of.content p.reference p.is _ _ c.args.value.content
          (car_set _ _ _ _ (settable_at _ _ c.args.of c.args.value p.reference p.is c.requires) _ read.unchanged c.in_ok-cons.cons.at p.final p.last _ _ c.with_cdr.result
          (ap (λ (w : Parts). w.cdr) c.with_cdr.ensures ∙ sym (code_after read.value read.unchanged)) content c.in_ok-write.ensures.ok);
      written = car_written _ _ _ c.args.of.content c.in_ok-cons.cons.at p read.unchanged c.with_cdr.result c.args.value c.in_ok-cons.cons.code c.with_cdr.ensures read.value.code c.in_ok-write.ensures.ok;
    }

-- What is refused

pub returns-in_err-write-clause-refused : goal.returns-in_err-write-clause-refused
returns-in_err-write-clause-refused g c =
    let is : is_fault c.from_residual-in_err-write.result ≡ true =
    (let was = c.in_err-write.was in let from = c.from_residual-in_err-write.ensures in let branch = c.branch-write.ensures in let is = c.in_err-write.is in grind arith) in
    refuses_none _ _ _ _ _ _ (fault-refuses_none _ is) (λ other. let e = c.in_ok-cons.ensures.refused.1 other in cc)

pub returns-clause-refused : goal.returns-clause-refused
returns-clause-refused g c =
    refuses_none _ _ _ _ _ _ (λ e. cc) (λ other. let e = c.in_ok-cons.ensures.refused.1 other in cc)

-- What is unchanged in the ground

pub returns-in_err-cons-clause-stays_ground : goal.returns-in_err-cons-clause-stays_ground
returns-in_err-cons-clause-stays_ground g c =
    let reads = c.in_err-cons.ensures.unchanged in
    record {
      moves = writes-moves (read-writes c.args.ground.now.table reads);
      preserves = read-preserves _ reads;
      stays_fresh = read-stays_fresh _ reads;
      marks = λ at there. marks-but at (marks-read c.args.ground.now.table reads);
    }

pub returns-in_err-write-clause-stays_ground : goal.returns-in_err-write-clause-stays_ground
returns-in_err-write-clause-stays_ground g c =
    let reads = stores_nothing-twice c.in_ok-cons.ensures.unchanged c.in_err-write.ensures.err in
    record {
      moves = writes-moves (read-writes c.args.ground.now.table reads);
      preserves = read-preserves _ reads;
      stays_fresh = read-stays_fresh _ reads;
      marks = λ at there. marks-but at (marks-read c.args.ground.now.table reads);
    }

pub returns-clause-stays_ground : goal.returns-clause-stays_ground
returns-clause-stays_ground g c =
    let read = c.in_ok-cons.ensures in
    let p = read.value.place in
    let can = c.requires in
    let t = c.args.ground.now.table in
    let content = ap (λ (w : Parts). w.content) c.with_cdr.ensures in
    let inside = store_inside read.unchanged p.last.inside in
    let fresh = subst (FreshOn t) (sym content) (fresh-value can.can.it.map.role t c.args.value.content can.new can.new_is can.young) in
    let preserves = preserves-then (read-preserves t read.unchanged) (stored-preserves t c.in_ok-cons.cons.at c.with_cdr.result c.in_ok-write.ensures.ok inside fresh) in
    let alive = car_live _ _ _ p.reference (readable_at _ _ c.args.of p.reference p.is can.can) read.unchanged c.in_ok-cons.cons.at p.final p.last in
    let here = marks-then_but (marks-read t read.unchanged) (marks-stored t c.in_ok-cons.cons.at c.with_cdr.result c.in_ok-write.ensures.ok inside (final_plain p.last read.unchanged) (young_stored t c.with_cdr.result c.args.value content can.young)) in
    record {
      moves = moves-after_read read.unchanged (writes-moves (stored-writes c.in_ok-cons.cons.at c.with_cdr.result alive inside (ap (λ (w : Parts). w.cdr) c.with_cdr.ensures ∙ sym (code_after read.value read.unchanged)) c.in_ok-write.ensures.ok.words));
      preserves = preserves;
      stays_fresh = still_stays_fresh t preserves;
      marks = λ at there. subst (MarksFollowBut (g.M.Memory.seen c.args.ground.now.mem) t (g.M.Memory.seen c.write.new.self) t) (same_place _ c.args.of.content c.in_ok-cons.cons.at at p there) here;
    }

pub invariant_of-ground-2 : goal.invariant_of-ground-2
invariant_of-ground-2 g c = record { sound = c.write.ensures.sound }

-- Swap errors

pub returns-in_err-write-clause-accounted : goal.returns-in_err-write-clause-accounted
returns-in_err-write-clause-accounted g c =
    let write = c.in_err-write.ensures in
    let is : is_fault c.from_residual-in_err-write.result ≡ true =
    (let was = c.in_err-write.was in let from = c.from_residual-in_err-write.ensures in let branch = c.branch-write.ensures in let is = c.in_err-write.is in grind arith) in
    asked-then_fault c.in_err-write.field-0.0 (answered-if c.in_ok-cons.ensures.accounted) write.cause write.taken write.cost write.room write.sound _ is

pub returns-clause-accounted : goal.returns-clause-accounted
returns-clause-accounted g c =
    let write = c.in_ok-write.ensures in
    answers (asked-then {v'' = shown g.M.Memory c.write.new.self} {n'' = c.write.new.steps} (answered-if c.in_ok-cons.ensures.accounted) write.cause.quiet write.taken write.cost write.room.answered write.sound)
