use Rattle.std.proofs.Common.{◌≡◌, ◌∙◌, true, ap, arith, refl, sym}
use Rattle.obj_layout.specs.Forwards.{word_at}
use Rattle.transporter.proofs.LiveObjects.{live-read}
use Rattle.store_word.specs.Words.{Parts}
use Rattle.transporter.proofs.Places.{on-err}
use Rattle.transporter.proofs.GroundReads.{fetched-costs, fetched-keeps, read-costs, read-keeps}
use Rattle.transporter.proofs.ScannedWords.{read-stays_fresh}
use Rattle.block_store.proofs.ScannedWords.{fresh-young}
use Rattle.block_store.proofs.FieldStores.{lack_tells, place_tells}
use Rattle.mem_port.proofs.CallReports.{answered, answered-if, answers, quiet-then_fault, quiet-twice}
use Rattle.block_store.specs.Faults.{is_fault}
use Rattle.block_store.proofs.MovedFields.{field_moved}
use Rattle.block_store.proofs.FieldReads.{read_can_find, reads_block, field_fetched, field_faulted, field_is_live, field_is_settleable, field_settled}
use Rattle.block_store.proofs.fields.field.Goals as goal

pub find_field-requires-clause-can : goal.find_field-requires-clause-can
find_field-requires-clause-can g c = read_can_find _ _ _ c.requires

pub returns-in_err-at-clause-no_field : goal.returns-in_err-at-clause-no_field
returns-in_err-at-clause-no_field g c = λ count e. lack_tells _ c.args.ground.now.table c.args.of.content c.args.index count
    (c.in_err-at.ensures.no_field count (let was = c.in_err-at.was in let from = c.from_residual.ensures in let branch = c.branch-at.ensures in let is = c.in_err-at.is in grind arith))

pub returns-in_err-at-clause-fault : goal.returns-in_err-at-clause-fault
returns-in_err-at-clause-fault g c = on-err c.from_residual.result (reads_block _ _ c.args.ground.now.table c.args.of.content c.in_err-at.ensures.unchanged)

pub fetch-requires-clause-in_range : goal.fetch-requires-clause-in_range
fetch-requires-clause-in_range g c = let at = c.in_ok-at.ensures in field_is_live _ _ _ c.args.of c.args.index c.in_ok-at.at c.requires at.place at.unchanged

pub fetch-requires-clause-can : goal.fetch-requires-clause-can
fetch-requires-clause-can g c = let at = c.in_ok-at.ensures in field_is_settleable _ _ _ c.args.of c.args.index c.in_ok-at.at c.requires at.place at.unchanged

pub returns-in_err-word-clause-fault : goal.returns-in_err-word-clause-fault
returns-in_err-word-clause-fault g c =
    let at = c.in_ok-at.ensures in
    on-err c.from_residual-in_err-word.result (field_faulted _ c.args.ground.now.table c.args.of.content c.args.index c.in_ok-at.at at.place _ at.unchanged _ _ c.in_err-word.ensures.fault)

pub returns-clause-value : goal.returns-clause-value
returns-clause-value g c =
    let at = c.in_ok-at.ensures in
    field_fetched _ c.args.ground.now.table c.args.of.content c.args.index c.in_ok-at.at at.place _ at.unchanged _ _ c.in_ok-word.word c.with_cdr.result c.in_ok-word.ensures.settles (ap (λ (w : Parts). w.content) c.with_cdr.ensures)

pub returns-clause-written : goal.returns-clause-written
returns-clause-written g c =
    let at = c.in_ok-at.ensures in
    let word = c.in_ok-word.ensures in
    field_settled _ _ _ _ _ c.args.of.content c.args.index c.in_ok-at.at at.place c.in_ok-word.word _ at.unchanged word.word word.written word.registers (ap (λ (w : Parts). w.content) c.with_cdr.ensures)

pub returns-clause-in_range : goal.returns-clause-in_range
returns-clause-in_range g c = place_tells _ c.args.ground.now.table c.args.of.content c.args.index c.in_ok-at.at c.in_ok-at.ensures.place

pub returns-in_err-at-clause-grows : goal.returns-in_err-at-clause-grows
returns-in_err-at-clause-grows g c = (live-read {t = c.args.ground.now.table} c.in_err-at.ensures.unchanged).table

pub returns-in_err-word-clause-grows : goal.returns-in_err-word-clause-grows
returns-in_err-word-clause-grows g c = c.in_err-word.ensures.live.table

pub returns-clause-grows : goal.returns-clause-grows
returns-clause-grows g c = c.in_ok-word.ensures.registers.table

pub returns-in_err-word-clause-stays_ground : goal.returns-in_err-word-clause-stays_ground
returns-in_err-word-clause-stays_ground g c =
    let at = c.in_ok-at.ensures in
    let word = c.in_err-word.ensures in
    let live = field_is_live _ _ _ c.args.of c.args.index c.in_ok-at.at c.requires at.place at.unchanged in
    fetched-keeps _ _ _ _ at.unchanged word.table word.moves word.preserves word.marks
    (λ all. let there = read-stays_fresh c.args.ground.now.table at.unchanged all in word.stays_fresh (fresh-young c.args.ground.now.table (word_at (g.M.Memory.seen c.find_field.new.mem).words c.in_ok-at.at) (there c.in_ok-at.at live)) there)

pub returns-clause-stays_ground : goal.returns-clause-stays_ground
returns-clause-stays_ground g c =
    let at = c.in_ok-at.ensures in
    let word = c.in_ok-word.ensures in
    let live = field_is_live _ _ _ c.args.of c.args.index c.in_ok-at.at c.requires at.place at.unchanged in
    fetched-keeps _ _ _ _ at.unchanged word.table word.moves word.preserves word.marks
    (λ all. let there = read-stays_fresh c.args.ground.now.table at.unchanged all in word.stays_fresh (fresh-young c.args.ground.now.table (word_at (g.M.Memory.seen c.find_field.new.mem).words c.in_ok-at.at) (there c.in_ok-at.at live)) there)

pub returns-clause-accounted : goal.returns-clause-accounted
returns-clause-accounted g c = answers (quiet-twice (answered-if c.in_ok-at.ensures.accounted) (answered c.in_ok-word.word c.in_ok-word.ensures.accounted))

pub returns-clause-words : goal.returns-clause-words
returns-clause-words g c =
    let at = c.in_ok-at.ensures in
    field_moved _ _ _ c.args.ground.now.table _ c.args.of.content c.args.index c.in_ok-at.at at.place at.unchanged c.in_ok-word.ensures.words

pub returns-in_err-word-clause-accounted : goal.returns-in_err-word-clause-accounted
returns-in_err-word-clause-accounted g c =
    let is : is_fault c.from_residual-in_err-word.result ≡ true =
    (let was = c.in_err-word.was in let from = c.from_residual-in_err-word.ensures in let branch = c.branch-word.ensures in let is = c.in_err-word.is in grind arith) in
    quiet-then_fault c.in_err-word.field-0.0 (answered-if c.in_ok-at.ensures.accounted) c.in_err-word.ensures.accounted _ is

pub returns-in_err-at-clause-stays_ground : goal.returns-in_err-at-clause-stays_ground
returns-in_err-at-clause-stays_ground g c = read-keeps _ _ c.args.ground.now.table c.in_err-at.ensures.unchanged

pub returns-in_err-at-clause-costs : goal.returns-in_err-at-clause-costs
returns-in_err-at-clause-costs g c = let at = c.in_err-at.ensures.cost in read-costs _ _ _ _ _ 61 refl (omega arith)

pub returns-clause-costs : goal.returns-clause-costs
returns-clause-costs g c =
    let at = c.in_ok-at.ensures.cost in
    let word = c.in_ok-word.ensures in
    fetched-costs _ _ _ c.find_field.new.steps _ _ 61 (omega arith) word.at_most (λ calm. word.cost) word.cost_at_most

pub returns-in_err-word-clause-costs : goal.returns-in_err-word-clause-costs
returns-in_err-word-clause-costs g c =
    let is : is_fault c.from_residual-in_err-word.result ≡ true =
    (let was = c.in_err-word.was in let from = c.from_residual-in_err-word.ensures in let branch = c.branch-word.ensures in let is = c.in_err-word.is in grind arith) in
    let at = c.in_ok-at.ensures.cost in
    let word = c.in_err-word.ensures in
    fetched-costs _ _ _ c.find_field.new.steps _ _ 61 (omega arith) word.at_most (λ calm. let both = sym is ∙ calm in absurd cc) word.cost_at_most
