use Rattle.std.proofs.Common.{◌≡◌, true, suc, ◌+◌, length, refl, ◌∙◌, ap, arith, slice_get, List}
use Rattle.store_word.specs.Words.{Parts}
use Rattle.store_word.specs.declared.word.CdrCode.{CdrCode}
use Rattle.obj_layout.proofs.ForwardChains.{stores_nothing-twice}
use Rattle.transporter.proofs.ScannedWords.{read-stays_fresh, read-preserves}
use Rattle.block_store.proofs.ScannedWords.{stored-stays_fresh}
use Rattle.block_store.proofs.BlockReferences.{can_find}
use Rattle.block_store.proofs.FieldStores.{field_set, field_preserves, field_written, lack_tells, place_tells, set_meaning}
use Rattle.block_store.specs.Faults.{is_fault}
use Rattle.mem_port.proofs.CallReports.{answered-if, answers, quiet-then_fault, quiet-twice, size-kept}
use Rattle.mem_port.specs.View.{WithoutFault, shown}
use Rattle.transporter.proofs.PageMarks.{marks-but, marks-read}
use Rattle.block_store.proofs.FieldMarks.{field_marks}
use Rattle.transporter.proofs.TransportSequences.{read-writes, writes-moves}
use Rattle.block_store.proofs.FieldReads.{field_moves}
use Rattle.block_store.proofs.fields.set_field.Goals as goal

pub find_field-requires-clause-can : goal.find_field-requires-clause-can
find_field-requires-clause-can g c = can_find _ c.args.ground.now.table c.args.of.content (set_meaning _ c.args.ground.now.table c.args.of.content c.args.value c.requires)

pub returns-in_err-at-clause-no_field : goal.returns-in_err-at-clause-no_field
returns-in_err-at-clause-no_field g c = λ count e. lack_tells _ c.args.ground.now.table c.args.of.content c.args.index count
    (c.in_err-at.ensures.no_field count (let was = c.in_err-at.was in let from = c.from_residual.ensures in let branch = c.branch-at.ensures in let is = c.in_err-at.is in grind arith))

pub returns-clause-set : goal.returns-clause-set
returns-clause-set g c =
    let at = c.in_ok-at.ensures in
    let read = c.in_ok-old.ensures in
    let found = ap (λ (ws : List Parts). slice_get ws c.in_ok-at.at) read.unchanged.words ∙ read.value in
    let is = c.with_cdr.ensures ∙ ap (λ (code : CdrCode). record c.args.value { cdr = code }) c.cdr_code.ensures in
    field_set _ _ _ c.args.ground.now.table c.args.of.content c.args.index c.in_ok-at.at at.place (stores_nothing-twice at.unchanged read.unchanged) c.in_ok-old.old c.with_cdr.result c.args.value found is c.in_ok-write.ensures.ok

pub returns-clause-written : goal.returns-clause-written
returns-clause-written g c =
    let at = c.in_ok-at.ensures in
    let read = c.in_ok-old.ensures in
    let found = ap (λ (ws : List Parts). slice_get ws c.in_ok-at.at) read.unchanged.words ∙ read.value in
    let is = c.with_cdr.ensures ∙ ap (λ (code : CdrCode). record c.args.value { cdr = code }) c.cdr_code.ensures in
    field_written _ _ _ c.args.ground.now.table c.args.of.content c.args.index c.in_ok-at.at at.place (stores_nothing-twice at.unchanged read.unchanged) c.in_ok-old.old c.with_cdr.result c.args.value found is c.in_ok-write.ensures.ok

pub returns-clause-in_range : goal.returns-clause-in_range
returns-clause-in_range g c = place_tells _ c.args.ground.now.table c.args.of.content c.args.index c.in_ok-at.at c.in_ok-at.ensures.place

pub returns-in_err-old-clause-preserves : goal.returns-in_err-old-clause-preserves
returns-in_err-old-clause-preserves g c = read-preserves c.args.ground.now.table (stores_nothing-twice c.in_ok-at.ensures.unchanged c.in_err-old.ensures.unchanged)

pub returns-in_err-old-clause-stays_fresh : goal.returns-in_err-old-clause-stays_fresh
returns-in_err-old-clause-stays_fresh g c = read-stays_fresh c.args.ground.now.table (stores_nothing-twice c.in_ok-at.ensures.unchanged c.in_err-old.ensures.unchanged)

pub returns-in_err-write-clause-preserves : goal.returns-in_err-write-clause-preserves
returns-in_err-write-clause-preserves g c = read-preserves c.args.ground.now.table (stores_nothing-twice (stores_nothing-twice c.in_ok-at.ensures.unchanged c.in_ok-old.ensures.unchanged) c.in_err-write.ensures.err)

pub returns-in_err-write-clause-stays_fresh : goal.returns-in_err-write-clause-stays_fresh
returns-in_err-write-clause-stays_fresh g c = read-stays_fresh c.args.ground.now.table (stores_nothing-twice (stores_nothing-twice c.in_ok-at.ensures.unchanged c.in_ok-old.ensures.unchanged) c.in_err-write.ensures.err)

pub returns-clause-preserves : goal.returns-clause-preserves
returns-clause-preserves g c =
    let at = c.in_ok-at.ensures in
    field_preserves _ _ _ c.args.ground.now.table c.args.of.content c.args.index c.in_ok-at.at c.args.value c.requires at.place (stores_nothing-twice at.unchanged c.in_ok-old.ensures.unchanged) c.with_cdr.result (ap (λ (w : Parts). w.content) c.with_cdr.ensures) c.in_ok-write.ensures.ok

pub returns-clause-stays_fresh : goal.returns-clause-stays_fresh
returns-clause-stays_fresh g c =
    let at = c.in_ok-at.ensures in
    stored-stays_fresh c.args.ground.now.table c.requires.kept.table (field_preserves _ _ _ c.args.ground.now.table c.args.of.content c.args.index c.in_ok-at.at c.args.value c.requires at.place (stores_nothing-twice at.unchanged c.in_ok-old.ensures.unchanged) c.with_cdr.result (ap (λ (w : Parts). w.content) c.with_cdr.ensures) c.in_ok-write.ensures.ok)

pub invariant_of-ground-2 : goal.invariant_of-ground-2
invariant_of-ground-2 g c = record { sound = c.write.ensures.sound }

pub returns-in_err-write-clause-accounted : goal.returns-in_err-write-clause-accounted
returns-in_err-write-clause-accounted g c =
    let read = c.in_ok-old.ensures in
    let write = c.in_err-write.ensures in
    let before : WithoutFault (shown g.M.Memory c.args.ground.now.mem) (shown g.M.Memory c.read.new.self) c.args.steps.now c.read.new.steps = quiet-twice (answered-if c.in_ok-at.ensures.accounted) (record { faults = read.cause.quiet; honest = (let a = read.taken in let b = read.cost in omega arith); room = read.room.answered; sound = λ _. read.sound }) in
    let is : is_fault c.from_residual-in_err-write.result ≡ true =
    (let was = c.in_err-write.was in let from = c.from_residual-in_err-write.ensures in let branch = c.branch-write.ensures in let is = c.in_err-write.is in grind arith) in
    quiet-then_fault c.in_err-write.field-0.0 before (record { cause = write.cause; honest = (let a = write.taken in let b = write.cost in omega arith); room = write.room; sound = λ _. write.sound }) _ is

pub returns-clause-accounted : goal.returns-clause-accounted
returns-clause-accounted g c =
    let read = c.in_ok-old.ensures in
    let write = c.in_ok-write.ensures in
    answers (record {
      faults = write.cause.quiet ∙ read.cause.quiet ∙ c.in_ok-at.ensures.accounted.quiet refl;
      honest = (let a = c.in_ok-at.ensures.accounted.honest in let b = read.taken in let d = read.cost in let e = write.taken in let f = write.cost in omega arith);
      room = (let a = c.in_ok-at.ensures.accounted.room refl in let b = read.room.answered in let d = write.room.answered in omega arith);
      sound = λ _. write.sound;
    })

pub returns-in_err-at-clause-marks : goal.returns-in_err-at-clause-marks
returns-in_err-at-clause-marks g c = λ reference to refers final. marks-but (suc to + c.args.index) (marks-read c.args.ground.now.table c.in_err-at.ensures.unchanged)

pub returns-in_err-old-clause-marks : goal.returns-in_err-old-clause-marks
returns-in_err-old-clause-marks g c = λ reference to refers final. marks-but (suc to + c.args.index) (marks-read c.args.ground.now.table (stores_nothing-twice c.in_ok-at.ensures.unchanged c.in_err-old.ensures.unchanged))

pub returns-in_err-write-clause-marks : goal.returns-in_err-write-clause-marks
returns-in_err-write-clause-marks g c = λ reference to refers final.
    marks-but (suc to + c.args.index) (marks-read c.args.ground.now.table (stores_nothing-twice (stores_nothing-twice c.in_ok-at.ensures.unchanged c.in_ok-old.ensures.unchanged) c.in_err-write.ensures.err))

pub returns-clause-marks : goal.returns-clause-marks
returns-clause-marks g c =
    let at = c.in_ok-at.ensures in
    field_marks _ _ _ c.args.ground.now.table c.args.of.content c.args.index c.in_ok-at.at c.args.value c.requires at.place (stores_nothing-twice at.unchanged c.in_ok-old.ensures.unchanged) c.with_cdr.result (ap (λ (w : Parts). w.content) c.with_cdr.ensures) c.in_ok-write.ensures.ok

-- What moves

pub returns-in_err-at-clause-moves : goal.returns-in_err-at-clause-moves
returns-in_err-at-clause-moves g c = λ fresh. writes-moves (read-writes c.args.ground.now.table c.in_err-at.ensures.unchanged)

pub returns-in_err-old-clause-moves : goal.returns-in_err-old-clause-moves
returns-in_err-old-clause-moves g c = λ fresh. writes-moves (read-writes c.args.ground.now.table (stores_nothing-twice c.in_ok-at.ensures.unchanged c.in_err-old.ensures.unchanged))

pub returns-in_err-write-clause-moves : goal.returns-in_err-write-clause-moves
returns-in_err-write-clause-moves g c = λ fresh. writes-moves (read-writes c.args.ground.now.table (stores_nothing-twice (stores_nothing-twice c.in_ok-at.ensures.unchanged c.in_ok-old.ensures.unchanged) c.in_err-write.ensures.err))

pub returns-clause-moves : goal.returns-clause-moves
returns-clause-moves g c = λ fresh.
    let at = c.in_ok-at.ensures in
    let read = c.in_ok-old.ensures in
    let found = ap (λ (ws : List Parts). slice_get ws c.in_ok-at.at) read.unchanged.words ∙ read.value in
    let is = c.with_cdr.ensures ∙ ap (λ (code : CdrCode). record c.args.value { cdr = code }) c.cdr_code.ensures in
    field_moves _ c.args.ground.now.table c.args.of.content c.args.index c.in_ok-at.at c.args.value c.requires at.place (λ a ref old. fresh (a, ref, old))
    _ _ (stores_nothing-twice at.unchanged read.unchanged) c.in_ok-old.old c.with_cdr.result found is c.in_ok-write.ensures.ok
