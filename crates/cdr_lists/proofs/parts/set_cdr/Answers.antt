use Rattle.std.proofs.Common.{◌≡◌, true, suc, ◌+◌, refl, sym, ◌∙◌, ap, arith, inl, subst, List}
use Rattle.store_word.specs.Words.{Parts}
use Rattle.store_word.specs.declared.word.CdrCode.TheVariants.{Normal}
use Rattle.mem_port.specs.View.{shown}
use Rattle.mem_port.proofs.CallReports.{answered, answered-if, answers, quiet-then_fault, quiet-twice}
use Rattle.obj_layout.specs.Forwards.{IsFinal, word_at}
use Rattle.obj_layout.proofs.ForwardChains.{stores_nothing-twice, word_at-read}
use Rattle.transporter.specs.Preserving.{FreshOn}
use Rattle.transporter.proofs.LiveObjects.{live-read}
use Rattle.transporter.proofs.ScannedWords.{fresh-value, read-stays_fresh, read-preserves, stored-preserves, preserves-then}
use Rattle.cdr_lists.specs.Faults.{is_fault}
use Rattle.cdr_lists.proofs.CallReports.{asked-then, asked-then_fault}
use Rattle.cdr_lists.proofs.ConsAddresses.{keeps_at, keeps_cons, readable_at, sets_cdr, sets_cdr_at, settable_at, settable_word}
use Rattle.cdr_lists.proofs.FreshWords.{still_stays_fresh}
use Rattle.cdr_lists.proofs.ConsRefusals.{fault-refuses_none, refuses_none}
use Rattle.cdr_lists.proofs.ConsReferences.{can_find, code_after, reads_keep_cons}
use Rattle.cdr_lists.proofs.PartStores.{on_err, cell_at_most, can_set_there, sets_cdr_there, keeps_cons_there, second_inside, cdr_set, cdr_written, no_cell_there, no_pair_there, relaid_there}
use Rattle.transporter.specs.Marking.{MarksFollowBut}
use Rattle.transporter.proofs.TransportSequences.{moves-after_read, read-once, stored-writes, writes-moves}
use Rattle.transporter.proofs.PageMarks.{marks-read, marks-stored, marks-then, marks-then_but}
use Rattle.cdr_lists.proofs.FreshWords.{young_stored}
use Rattle.cdr_lists.proofs.ConsReferences.{code_there, same_place}
use Rattle.cdr_lists.proofs.PartStores.{marks_cdr, no_pair_else, second_plain}
use Rattle.cdr_lists.proofs.PartReads.{cdr_live}
use Rattle.cdr_lists.proofs.parts.set_cdr.Goals as goal

-- If the cons isn't found

pub read_cons-requires : goal.read_cons-requires
read_cons-requires g c = can_find _ _ c.args.of c.requires.can

pub returns-in_err-cons-clause-fault : goal.returns-in_err-cons-clause-fault
returns-in_err-cons-clause-fault g c =
    on_err c.from_residual.result _ (record {
      fault = reads_keep_cons c.args.ground.now.table c.args.of.content c.in_err-cons.ensures.unchanged;
      registers = inl (live-read c.in_err-cons.ensures.unchanged);
      moves = read-once _ c.in_err-cons.ensures.unchanged;
    })

pub returns-in_err-cons-clause-stays_ground : goal.returns-in_err-cons-clause-stays_ground
returns-in_err-cons-clause-stays_ground g c =
    record {
      preserves = read-preserves _ c.in_err-cons.ensures.unchanged;
      stays_fresh = read-stays_fresh _ c.in_err-cons.ensures.unchanged;
      marks = marks_cdr (marks-read c.args.ground.now.table c.in_err-cons.ensures.unchanged);
    }

-- The second word of a pair is read

pub read-requires : goal.read-requires
read-requires g c =
    let cons = c.in_ok-cons.ensures in
    let p = cons.value.place in
    second_inside _ _ _ _ (settable_at _ _ c.args.of c.args.value p.reference p.is c.requires) _ cons.unchanged c.in_ok-cons.cons.at p.final p.last (code_after cons.value cons.unchanged ∙ c.in-Normal.is)

pub returns-in_err-second-in-Normal-clause-fault : goal.returns-in_err-second-in-Normal-clause-fault
returns-in_err-second-in-Normal-clause-fault g c =
    on_err c.from_residual-in_err-second-in-Normal.result _ (record {
      fault = reads_keep_cons c.args.ground.now.table c.args.of.content (stores_nothing-twice c.in_ok-cons.ensures.unchanged c.in_err-second-in-Normal.ensures.unchanged);
      registers = inl (live-read (stores_nothing-twice c.in_ok-cons.ensures.unchanged c.in_err-second-in-Normal.ensures.unchanged));
      moves = read-once _ (stores_nothing-twice c.in_ok-cons.ensures.unchanged c.in_err-second-in-Normal.ensures.unchanged);
    })

pub returns-in_err-second-in-Normal-clause-refused : goal.returns-in_err-second-in-Normal-clause-refused
returns-in_err-second-in-Normal-clause-refused g c =
    let is : is_fault c.from_residual-in_err-second-in-Normal.result ≡ true =
    (let was = c.in_err-second-in-Normal.was in let from = c.from_residual-in_err-second-in-Normal.ensures in let branch = c.branch-second.ensures in let is = c.in_err-second-in-Normal.is in grind arith) in
    refuses_none _ _ _ _ _ _ (fault-refuses_none _ is) (λ other. let e = c.in_ok-cons.ensures.refused.1 other in cc)

pub returns-in_err-second-in-Normal-clause-stays_ground : goal.returns-in_err-second-in-Normal-clause-stays_ground
returns-in_err-second-in-Normal-clause-stays_ground g c =
    record {
      preserves = read-preserves _ (stores_nothing-twice c.in_ok-cons.ensures.unchanged c.in_err-second-in-Normal.ensures.unchanged);
      stays_fresh = read-stays_fresh _ (stores_nothing-twice c.in_ok-cons.ensures.unchanged c.in_err-second-in-Normal.ensures.unchanged);
      marks = marks_cdr (marks-read c.args.ground.now.table (stores_nothing-twice c.in_ok-cons.ensures.unchanged c.in_err-second-in-Normal.ensures.unchanged));
    }

pub returns-in_err-second-in-Normal-clause-accounted : goal.returns-in_err-second-in-Normal-clause-accounted
returns-in_err-second-in-Normal-clause-accounted g c =
    let second = c.in_err-second-in-Normal.ensures in
    let is : is_fault c.from_residual-in_err-second-in-Normal.result ≡ true =
    (let was = c.in_err-second-in-Normal.was in let from = c.from_residual-in_err-second-in-Normal.ensures in let branch = c.branch-second.ensures in let is = c.in_err-second-in-Normal.is in grind arith) in
    asked-then_fault c.in_err-second-in-Normal.field-0.0 (answered-if c.in_ok-cons.ensures.accounted) second.cause second.taken second.cost second.room second.sound _ is

-- And written

pub write-requires : goal.write-requires
write-requires g c =
    let cons = c.in_ok-cons.ensures in
    let p = cons.value.place in
    let reads = stores_nothing-twice cons.unchanged c.in_ok-second-in-Normal.ensures.unchanged in
    second_inside _ _ _ _ (settable_at _ _ c.args.of c.args.value p.reference p.is c.requires) _ reads c.in_ok-cons.cons.at p.final p.last (code_after cons.value reads ∙ c.in-Normal.is)

pub returns-in_err-write-in-Normal-clause-fault : goal.returns-in_err-write-in-Normal-clause-fault
returns-in_err-write-in-Normal-clause-fault g c =
    let reads = stores_nothing-twice (stores_nothing-twice c.in_ok-cons.ensures.unchanged c.in_ok-second-in-Normal.ensures.unchanged) c.in_err-write-in-Normal.ensures.err in
    on_err c.from_residual-in_err-write-in-Normal.result _ (record {
      fault = reads_keep_cons c.args.ground.now.table c.args.of.content reads;
      registers = inl (live-read reads);
      moves = read-once _ reads;
    })

pub returns-in_err-write-in-Normal-clause-refused : goal.returns-in_err-write-in-Normal-clause-refused
returns-in_err-write-in-Normal-clause-refused g c =
    let is : is_fault c.from_residual-in_err-write-in-Normal.result ≡ true =
    (let was = c.in_err-write-in-Normal.was in let from = c.from_residual-in_err-write-in-Normal.ensures in let branch = c.branch-write.ensures in let is = c.in_err-write-in-Normal.is in grind arith) in
    refuses_none _ _ _ _ _ _ (fault-refuses_none _ is) (λ other. let e = c.in_ok-cons.ensures.refused.1 other in cc)

pub returns-in_err-write-in-Normal-clause-stays_ground : goal.returns-in_err-write-in-Normal-clause-stays_ground
returns-in_err-write-in-Normal-clause-stays_ground g c =
    record {
      preserves = read-preserves _ (stores_nothing-twice (stores_nothing-twice c.in_ok-cons.ensures.unchanged c.in_ok-second-in-Normal.ensures.unchanged) c.in_err-write-in-Normal.ensures.err);
      stays_fresh = read-stays_fresh _ (stores_nothing-twice (stores_nothing-twice c.in_ok-cons.ensures.unchanged c.in_ok-second-in-Normal.ensures.unchanged) c.in_err-write-in-Normal.ensures.err);
      marks =
          marks_cdr (marks-read c.args.ground.now.table (stores_nothing-twice (stores_nothing-twice c.in_ok-cons.ensures.unchanged c.in_ok-second-in-Normal.ensures.unchanged) c.in_err-write-in-Normal.ensures.err));
    }

pub returns-in_err-write-in-Normal-clause-accounted : goal.returns-in_err-write-in-Normal-clause-accounted
returns-in_err-write-in-Normal-clause-accounted g c =
    let second = c.in_ok-second-in-Normal.ensures in
    let before = asked-then {v'' = shown g.M.Memory c.read.new.self} {n'' = c.read.new.steps} (answered-if c.in_ok-cons.ensures.accounted) second.cause.quiet second.taken second.cost second.room.answered second.sound in
    let write = c.in_err-write-in-Normal.ensures in
    let is : is_fault c.from_residual-in_err-write-in-Normal.result ≡ true =
    (let was = c.in_err-write-in-Normal.was in let from = c.from_residual-in_err-write-in-Normal.ensures in let branch = c.branch-write.ensures in let is = c.in_err-write-in-Normal.is in grind arith) in
    asked-then_fault c.in_err-write-in-Normal.field-0.0 before write.cause write.taken write.cost write.room write.sound _ is

pub returns-in_ok-write-in-Normal-clause-set : goal.returns-in_ok-write-in-Normal-clause-set
returns-in_ok-write-in-Normal-clause-set g c =
    let cons = c.in_ok-cons.ensures in
    let p = cons.value.place in
    let second = c.in_ok-second-in-Normal.ensures in
    let reads = stores_nothing-twice cons.unchanged second.unchanged in
    let code = code_after cons.value reads ∙ c.in-Normal.is in
    let can = settable_at _ _ c.args.of c.args.value p.reference p.is c.requires in
    let found = word_at-read (g.M.Memory.seen c.args.ground.now.mem).words _ (c.in_ok-cons.cons.at + 1) _ cons.unchanged.words second.value in
    let found_then = word_at-read (g.M.Memory.seen c.read.new.self).words _ (c.in_ok-cons.cons.at + 1) _ (sym second.unchanged.words) second.value in
    let written_code = ap (λ (w : Parts). w.cdr) c.with_cdr.ensures ∙ c.cdr_code.ensures ∙ sym (ap (λ (w : Parts). w.cdr) found_then) in
    let alive = cdr_live _ _ _ p.reference (readable_at _ _ c.args.of p.reference p.is c.requires.can) reads c.in_ok-cons.cons.at p.final p.last code (c.in_ok-cons.cons.at + 1) (omega arith) in
    let inside = second_inside _ _ _ _ can _ reads c.in_ok-cons.cons.at p.final p.last code in
    record {
      set = sets_cdr _ _ c.args.of.content p.reference p.is _ _ c.args.value.content
          (cdr_set _ _ _ _ can _ reads c.in_ok-cons.cons.at p.final p.last _ _ c.with_cdr.result code written_code (ap (λ (w : Parts). w.content) c.with_cdr.ensures) c.in_ok-write-in-Normal.ensures.ok);
      written = cdr_written _ _ _ c.args.of.content c.in_ok-cons.cons.at p reads c.with_cdr.result c.args.value c.cdr_code.result c.with_cdr.ensures (ap (λ (w : Parts). w.cdr) found ∙ sym c.cdr_code.ensures) c.in_ok-write-in-Normal.ensures.ok;
      laid = no_cell_there _ _ _ _ c.args.of.content c.in_ok-cons.cons.at c.args.value p (cons.value.code ∙ c.in-Normal.is);
      table = λ to there normal. refl;
      cells = λ to there normal. moves-after_read reads (writes-moves (stored-writes (c.in_ok-cons.cons.at + 1) c.with_cdr.result alive inside written_code c.in_ok-write-in-Normal.ensures.ok.words));
    }

pub returns-in_ok-write-in-Normal-clause-refused : goal.returns-in_ok-write-in-Normal-clause-refused
returns-in_ok-write-in-Normal-clause-refused g c =
    refuses_none _ _ _ _ _ _ (λ e. cc) (λ other. let e = c.in_ok-cons.ensures.refused.1 other in cc)

pub returns-in_ok-write-in-Normal-clause-stays_ground : goal.returns-in_ok-write-in-Normal-clause-stays_ground
returns-in_ok-write-in-Normal-clause-stays_ground g c =
    let cons = c.in_ok-cons.ensures in
    let p = cons.value.place in
    let second = c.in_ok-second-in-Normal.ensures in
    let reads = stores_nothing-twice cons.unchanged second.unchanged in
    let code = code_after cons.value reads ∙ c.in-Normal.is in
    let can = settable_at _ _ c.args.of c.args.value p.reference p.is c.requires in
    let inside = second_inside _ _ _ _ can _ reads c.in_ok-cons.cons.at p.final p.last code in
    let content = ap (λ (w : Parts). w.content) c.with_cdr.ensures in
    let t = c.args.ground.now.table in
    let r = c.requires in
    let fresh = subst (FreshOn t) (sym content) (fresh-value r.can.it.map.role t c.args.value.content r.new r.new_is r.young) in
    let preserves = preserves-then (read-preserves t reads) (stored-preserves t (c.in_ok-cons.cons.at + 1) c.with_cdr.result c.in_ok-write-in-Normal.ensures.ok inside fresh) in
    let here = marks-then_but (marks-read t reads)
    (marks-stored t (c.in_ok-cons.cons.at + 1) c.with_cdr.result c.in_ok-write-in-Normal.ensures.ok inside (second_plain _ _ _ _ can _ reads c.in_ok-cons.cons.at p.final p.last code) (young_stored t c.with_cdr.result c.args.value content r.young)) in
    record {
      preserves = preserves;
      stays_fresh = still_stays_fresh t preserves;
      marks = record {
        pair = λ at there normal.
            let place : c.in_ok-cons.cons.at + 1 ≡ suc at = (let e = same_place _ c.args.of.content c.in_ok-cons.cons.at at p there in omega arith) in
            subst (MarksFollowBut (g.M.Memory.seen c.args.ground.now.mem) t (g.M.Memory.seen c.write.new.self) t) place here;
        cell = λ at there ne. absurd (ne (code_there at cons.value there ∙ c.in-Normal.is));
      };
    }

pub returns-in_ok-write-in-Normal-clause-accounted : goal.returns-in_ok-write-in-Normal-clause-accounted
returns-in_ok-write-in-Normal-clause-accounted g c =
    let second = c.in_ok-second-in-Normal.ensures in
    let before = asked-then {v'' = shown g.M.Memory c.read.new.self} {n'' = c.read.new.steps} (answered-if c.in_ok-cons.ensures.accounted) second.cause.quiet second.taken second.cost second.room.answered second.sound in
    let write = c.in_ok-write-in-Normal.ensures in
    answers (asked-then {v'' = shown g.M.Memory c.write.new.self} {n'' = c.write.new.steps} before write.cause.quiet write.taken write.cost write.room.answered write.sound)

pub invariant_of-ground-in-Normal : goal.invariant_of-ground-in-Normal
invariant_of-ground-in-Normal g c = record { sound = c.write.ensures.sound }

-- A cell

pub lay_pair-requires-clause-can : goal.lay_pair-requires-clause-can
lay_pair-requires-clause-can g c =
    let cons = c.in_ok-cons.ensures in
    let p = cons.value.place in
    settable_word _ _ c.in_ok-cons.cons.at _ (can_set_there _ _ _ _ (settable_at _ _ c.args.of c.args.value p.reference p.is c.requires) _ cons.unchanged c.in_ok-cons.cons.at p.final p.last)

pub lay_pair-requires-clause-cell : goal.lay_pair-requires-clause-cell
lay_pair-requires-clause-cell g c =
    let cons = c.in_ok-cons.ensures in
    record {
      final = subst (λ (ws : List Parts). IsFinal ws c.in_ok-cons.cons.at) (sym cons.unchanged.words) cons.value.place.last;
      is = refl;
      no_pair = λ e. c.in_default.not-Normal (sym (code_after cons.value cons.unchanged) ∙ e);
    }

pub returns-in_err-lay_pair-in_default-clause-fault : goal.returns-in_err-lay_pair-in_default-clause-fault
returns-in_err-lay_pair-in_default-clause-fault g c =
    let cons = c.in_ok-cons.ensures in
    let p = cons.value.place in
    on_err c.from_residual-in_err-lay_pair-in_default.result _ (record {
      fault =
          (keeps_cons _ _ c.args.of.content p.reference p.is _ _
          (keeps_cons_there _ _ _ _ (settable_at _ _ c.args.of c.args.value p.reference p.is c.requires) _ cons.unchanged c.in_ok-cons.cons.at p.final p.last _ _ (keeps_at _ _ c.in_ok-cons.cons.at _ _ c.in_err-lay_pair-in_default.ensures.fault.fault)));
      registers = cell_at_most _ _ _ _ _ c.args.of.content c.in_ok-cons.cons.at p (λ e. c.in_default.not-Normal (sym cons.value.code ∙ e)) cons.unchanged c.in_err-lay_pair-in_default.ensures.fault.registers;
      moves = moves-after_read c.in_ok-cons.ensures.unchanged c.in_err-lay_pair-in_default.ensures.fault.moves;
    })

pub returns-in_err-lay_pair-in_default-clause-refused : goal.returns-in_err-lay_pair-in_default-clause-refused
returns-in_err-lay_pair-in_default-clause-refused g c =
    let is : is_fault c.from_residual-in_err-lay_pair-in_default.result ≡ true =
    (let was = c.in_err-lay_pair-in_default.was in let from = c.from_residual-in_err-lay_pair-in_default.ensures in let branch = c.branch-lay_pair.ensures in let is = c.in_err-lay_pair-in_default.is in grind arith) in
    refuses_none _ _ _ _ _ _ (fault-refuses_none _ is) (λ other. let e = c.in_ok-cons.ensures.refused.1 other in cc)

pub returns-in_err-lay_pair-in_default-clause-stays_ground : goal.returns-in_err-lay_pair-in_default-clause-stays_ground
returns-in_err-lay_pair-in_default-clause-stays_ground g c =
    record {
      preserves = preserves-then (read-preserves _ c.in_ok-cons.ensures.unchanged) c.in_err-lay_pair-in_default.ensures.preserves;
      stays_fresh = λ all. c.in_err-lay_pair-in_default.ensures.stays_fresh (read-stays_fresh _ c.in_ok-cons.ensures.unchanged all);
      marks = marks_cdr (marks-then (marks-read c.args.ground.now.table c.in_ok-cons.ensures.unchanged) c.in_err-lay_pair-in_default.ensures.marks);
    }

pub returns-in_err-lay_pair-in_default-clause-accounted : goal.returns-in_err-lay_pair-in_default-clause-accounted
returns-in_err-lay_pair-in_default-clause-accounted g c =
    let is : is_fault c.from_residual-in_err-lay_pair-in_default.result ≡ true =
    (let was = c.in_err-lay_pair-in_default.was in let from = c.from_residual-in_err-lay_pair-in_default.ensures in let branch = c.branch-lay_pair.ensures in let is = c.in_err-lay_pair-in_default.is in grind arith) in
    quiet-then_fault c.in_err-lay_pair-in_default.field-0.0 (answered-if c.in_ok-cons.ensures.accounted) c.in_err-lay_pair-in_default.ensures.accounted _ is

pub returns-in_ok-lay_pair-in_default-clause-set : goal.returns-in_ok-lay_pair-in_default-clause-set
returns-in_ok-lay_pair-in_default-clause-set g c =
    let cons = c.in_ok-cons.ensures in
    let p = cons.value.place in
    let no_pair : (word_at (g.M.Memory.seen c.args.ground.now.mem).words c.in_ok-cons.cons.at).cdr ≡ Normal → ⊥ = λ e. c.in_default.not-Normal (sym cons.value.code ∙ e) in
    record {
      set =
          sets_cdr _ _ c.args.of.content p.reference p.is _ _ c.args.value.content
          (sets_cdr_there _ _ _ _ (settable_at _ _ c.args.of c.args.value p.reference p.is c.requires) _ cons.unchanged c.in_ok-cons.cons.at p.final p.last _ _ _ (sets_cdr_at _ _ c.in_ok-cons.cons.at _ _ c.args.value.content c.in_ok-lay_pair-in_default.ensures.set));
      written = no_pair_there _ _ c.args.of.content c.in_ok-cons.cons.at c.args.value p no_pair;
      laid = relaid_there _ _ _ _ _ c.args.of.content c.in_ok-cons.cons.at c.args.value p cons.unchanged c.in_ok-lay_pair-in_default.ensures.laid;
      table = no_pair_else (g.M.Memory.seen c.args.ground.now.mem) c.args.of.content c.in_ok-cons.cons.at p no_pair;
      cells = no_pair_else (g.M.Memory.seen c.args.ground.now.mem) c.args.of.content c.in_ok-cons.cons.at p no_pair;
    }

pub returns-in_ok-lay_pair-in_default-clause-refused : goal.returns-in_ok-lay_pair-in_default-clause-refused
returns-in_ok-lay_pair-in_default-clause-refused g c =
    refuses_none _ _ _ _ _ _ (λ e. cc) (λ other. let e = c.in_ok-cons.ensures.refused.1 other in cc)

pub returns-in_ok-lay_pair-in_default-clause-stays_ground : goal.returns-in_ok-lay_pair-in_default-clause-stays_ground
returns-in_ok-lay_pair-in_default-clause-stays_ground g c =
    record {
      preserves = preserves-then (read-preserves _ c.in_ok-cons.ensures.unchanged) c.in_ok-lay_pair-in_default.ensures.preserves;
      stays_fresh = λ all. c.in_ok-lay_pair-in_default.ensures.stays_fresh (read-stays_fresh _ c.in_ok-cons.ensures.unchanged all);
      marks = marks_cdr (marks-then (marks-read c.args.ground.now.table c.in_ok-cons.ensures.unchanged) c.in_ok-lay_pair-in_default.ensures.marks);
    }

pub returns-in_ok-lay_pair-in_default-clause-accounted : goal.returns-in_ok-lay_pair-in_default-clause-accounted
returns-in_ok-lay_pair-in_default-clause-accounted g c = answers (quiet-twice (answered-if c.in_ok-cons.ensures.accounted) (answered c.in_ok-lay_pair-in_default.field-0 c.in_ok-lay_pair-in_default.ensures.accounted))
