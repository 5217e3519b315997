use Rattle.std.proofs.Common.{refl, inl, inr, arith}
use Rattle.std.proofs.lemmas.Result.{on_ok_weaker, on_err_weaker}
use Rattle.store_word.specs.declared.word.Content.TheVariants.{List as ListAt}
use Rattle.transporter.proofs.ScannedWords.{preserves-then}
use Rattle.cdr_lists.proofs.ConsAddresses.{keeps_cons, set_here, sets_cdr, sets_cdr_at, settable_word}
use Rattle.cdr_lists.proofs.FreshWords.{live_fresh}
use Rattle.cdr_lists.proofs.PartStores.{on_err}
use Rattle.cdr_lists.proofs.SettledCell.{cell_live, cell_relaid, cell_settleable, cell_faulted, cell_settled, fetched_set, fetched_cell, fetched_fresh, laid_set, laid_faulted, on_ok}
use Rattle.transporter.proofs.PageMarks.{marks-then}
use Rattle.transporter.proofs.TransportSequences.{moves-then}
use Rattle.cdr_lists.proofs.parts.lay_pair.Goals as goal

pub fetch-requires-clause-in_range : goal.fetch-requires-clause-in_range
fetch-requires-clause-in_range g c = cell_live _ _ _ _ (set_here _ _ c.args.cell c.args.cdr c.requires.can) c.requires.cell

pub fetch-requires-clause-can : goal.fetch-requires-clause-can
fetch-requires-clause-can g c = cell_settleable _ _ _ _ (set_here _ _ c.args.cell c.args.cdr c.requires.can) c.requires.cell

pub returns-in_err-car-clause-fault : goal.returns-in_err-car-clause-fault
returns-in_err-car-clause-fault g c =
    on_err c.from_residual.result _ (record {
      fault = keeps_cons _ _ (ListAt c.args.cell) c.args.cell refl _ _ (cell_faulted _ _ _ _ (set_here _ _ c.args.cell c.args.cdr c.requires.can) c.requires.cell _ _ c.in_err-car.ensures.fault);
      registers = inl c.in_err-car.ensures.live;
      moves = c.in_err-car.ensures.moves;
    })

pub returns-in_err-car-clause-stays_fresh : goal.returns-in_err-car-clause-stays_fresh
returns-in_err-car-clause-stays_fresh g c = λ all.
    let live = cell_live _ _ _ _ (set_here _ _ c.args.cell c.args.cdr c.requires.can) c.requires.cell in
    c.in_err-car.ensures.stays_fresh (live_fresh (g.M.Memory.seen c.args.ground.now.mem) _ c.args.cell all live) all

pub lay_settled-requires-clause-can : goal.lay_settled-requires-clause-can
lay_settled-requires-clause-can g c =
    let f = c.in_ok-car.ensures in
    settable_word _ _ c.args.cell c.args.cdr (fetched_set _ _ _ _ (set_here _ _ c.args.cell c.args.cdr c.requires.can) c.requires.cell _ _ c.in_ok-car.car f.settles f.word f.written f.registers.table)

pub lay_settled-requires-clause-cell : goal.lay_settled-requires-clause-cell
lay_settled-requires-clause-cell g c =
    let f = c.in_ok-car.ensures in
    fetched_cell _ _ _ _ (set_here _ _ c.args.cell c.args.cdr c.requires.can) c.requires.cell _ _ c.in_ok-car.car f.settles f.word f.written f.registers.table

pub returns-clause-set : goal.returns-clause-set
returns-clause-set g c =
    let f = c.in_ok-car.ensures in
    on_ok_weaker c.lay_settled.result
    (λ set. sets_cdr _ _ (ListAt c.args.cell) c.args.cell refl _ _ c.args.cdr.content
    (laid_set _ _ _ _ (set_here _ _ c.args.cell c.args.cdr c.requires.can) c.requires.cell _ _ c.in_ok-car.car f.settles f.word f.written f.registers.table _ _ c.args.cdr.content (sets_cdr_at _ _ c.args.cell _ _ c.args.cdr.content set)))
    c.lay_settled.ensures.set

pub returns-clause-laid : goal.returns-clause-laid
returns-clause-laid g c =
    let f = c.in_ok-car.ensures in
    on_ok_weaker c.lay_settled.result (cell_relaid f.word f.written f.words f.moves f.table f.registers) c.lay_settled.ensures.laid

pub returns-clause-fault : goal.returns-clause-fault
returns-clause-fault g c =
    let f = c.in_ok-car.ensures in
    let here = set_here _ _ c.args.cell c.args.cdr c.requires.can in
    let live = cell_live _ _ _ _ here c.requires.cell in
    on_err_weaker c.lay_settled.result
    (λ still. record {
      fault = keeps_cons _ _ (ListAt c.args.cell) c.args.cell refl _ _ (laid_faulted _ _ _ _ here c.requires.cell _ _ c.in_ok-car.car f.settles f.word f.written f.registers.table _ _ still.fault);
      registers = inr (cell_settled f.word f.written f.registers live still.live);
      moves = moves-then f.moves still.moves;
    })
    c.lay_settled.ensures.fault

pub returns-clause-preserves : goal.returns-clause-preserves
returns-clause-preserves g c = preserves-then c.in_ok-car.ensures.preserves c.lay_settled.ensures.preserves

pub returns-clause-stays_fresh : goal.returns-clause-stays_fresh
returns-clause-stays_fresh g c = λ all.
    let f = c.in_ok-car.ensures in
    let live = cell_live _ _ _ _ (set_here _ _ c.args.cell c.args.cdr c.requires.can) c.requires.cell in
    let mid = f.stays_fresh (live_fresh (g.M.Memory.seen c.args.ground.now.mem) _ c.args.cell all live) all in
    c.lay_settled.ensures.stays_fresh (fetched_fresh (g.M.Memory.seen c.fetch.new.ground.mem) f.registers.table live f.written mid) mid

pub returns-clause-cost : goal.returns-clause-cost
returns-clause-cost g c =
    let settled = c.in_ok-car.ensures.cost in
    let laid = c.lay_settled.ensures.cost in
    let first = c.in_ok-car.ensures.registers.table.placed in
    let second = c.lay_settled.ensures.preserves.grows.placed in
    on_ok c.lay_settled.result _ (omega arith)

pub returns-clause-marks : goal.returns-clause-marks
returns-clause-marks g c = marks-then c.in_ok-car.ensures.marks c.lay_settled.ensures.marks
