use Rattle.std.proofs.Common.{refl, sym, ap, subst, arith, length, Ok}
use Rattle.std.proofs.lemmas.Result.{err_from_is_err_and}
use Rattle.mem_port.specs.View.{AccountsForFaults, shown}
use Rattle.cdr_lists.proofs.CallReports.{placed-then, placed-then_fault}
use Rattle.store_word.specs.declared.word.Content.TheVariants.{List as ListAt}
use Rattle.mem_port.specs.Store.{Store}
use Rattle.area_space.specs.Table.{Table}
use Rattle.transporter.specs.LiveWordsUnchanged.{LiveWordsUnchangedExcept}
use Rattle.transporter.specs.Preserving.{NoOldAddresses, PreservesScanned}
use Rattle.transporter.proofs.ScannedWords.{opened-preserves}
use Rattle.cdr_lists.specs.Parts.{LaysPair, SetsCdr}
use Rattle.cdr_lists.proofs.ConsAddresses.{set_here, sets_cdr}
use Rattle.cdr_lists.proofs.NewPlaces.{end_there, none_placed, opened_stays_fresh, opened_live, opened_marks, opened_moves, opened_or_same, opened_stays, opens_if_needed, words_inside}
use Rattle.cdr_lists.proofs.CellRelocations.{cell_stays_fresh, cell_classed, class_found, cell_inside, cell_laid, cell_marks, cell_others, cell_set, cell_preserves, room_for_relay}
use Rattle.cdr_lists.proofs.PartStores.{on_err}
use Rattle.transporter.specs.Marking.{MarksFollow}
use Rattle.transporter.proofs.PageMarks.{marks-read, marks-then}
use Rattle.cdr_lists.proofs.parts.lay_settled.Goals as goal

pub unwrap-class-requires : goal.unwrap-class-requires
unwrap-class-requires g c = cell_classed _ _ _ c.args.car c.args.cdr (set_here _ _ c.args.cell c.args.cdr c.requires.can) c.requires.cell c.class_of.result c.class_of.ensures.none

pub place_for-placed-requires-clause-in_range : goal.place_for-placed-requires-clause-in_range
place_for-placed-requires-clause-in_range g c = let class = class_found c.args.ground.now.table c.class_of.result c.unwrap-class.ensures c.class_of.ensures.area c.class_of.ensures.level c.class_of.ensures.some in room_for_relay _ _ _ c.args.car c.args.cdr (set_here _ _ c.args.cell c.args.cdr c.requires.can) c.requires.cell c.unwrap-class.result class.area class.level class.some

pub write_relay-requires-clause-cell : goal.write_relay-requires-clause-cell
write_relay-requires-clause-cell g c =
    let class = class_found c.args.ground.now.table c.class_of.result c.unwrap-class.ensures c.class_of.ensures.area c.class_of.ensures.level c.class_of.ensures.some in
    let p = c.place_for-placed.ensures in
    cell_inside _ _ _ c.args.car c.args.cdr (set_here _ _ c.args.cell c.args.cdr c.requires.can) c.requires.cell c.unwrap-class.result class.area class.level class.some _ _ _ p.opened c.place_for-placed.result.at p.end

pub write_relay-requires-clause-pair : goal.write_relay-requires-clause-pair
write_relay-requires-clause-pair g c =
    let class = class_found c.args.ground.now.table c.class_of.result c.unwrap-class.ensures c.class_of.ensures.area c.class_of.ensures.level c.class_of.ensures.some in
    let p = c.place_for-placed.ensures in
    let inside = words_inside _ _ _ c.requires.can.can.can.kept c.unwrap-class.result.area c.unwrap-class.result.level class.area class.level _ _ _ p.opened c.place_for-placed.result.at p.end in
    omega arith

pub returns-in_err-write_relay-clause-fault : goal.returns-in_err-write_relay-clause-fault
returns-in_err-write_relay-clause-fault g c =
    let class = class_found c.args.ground.now.table c.class_of.result c.unwrap-class.ensures c.class_of.ensures.area c.class_of.ensures.level c.class_of.ensures.some in
    let p = c.place_for-placed.ensures in
    on_err c.from_residual.result _ (record {
      fault = opened_stays _ _ _ c.requires.can.can.can.kept c.unwrap-class.result.area c.unwrap-class.result.level class.area class.level _ _ _ p.opened c.place_for-placed.result.at p.end (g.M.Memory.seen c.write_relay.new.mem) c.in_err-write_relay.ensures.err;
      live = opened_live _ _ _ c.requires.can.can.can.kept c.unwrap-class.result.area c.unwrap-class.result.level class.area class.level _ _ _ p.opened c.place_for-placed.result.at p.end (g.M.Memory.seen c.write_relay.new.mem) c.in_err-write_relay.ensures.err;
      moves = opened_moves _ _ _ c.requires.can.can.can.kept c.unwrap-class.result.area c.unwrap-class.result.level class.area class.level _ _ _ p.opened c.place_for-placed.result.at p.end (g.M.Memory.seen c.write_relay.new.mem) c.in_err-write_relay.ensures.err;
    })

pub returns-in_err-write_relay-clause-preserves : goal.returns-in_err-write_relay-clause-preserves
returns-in_err-write_relay-clause-preserves g c =
    let class = class_found c.args.ground.now.table c.class_of.result c.unwrap-class.ensures c.class_of.ensures.area c.class_of.ensures.level c.class_of.ensures.some in
    let p = c.place_for-placed.ensures in
    opened-preserves (opened_live _ _ _ c.requires.can.can.can.kept c.unwrap-class.result.area c.unwrap-class.result.level class.area class.level _ _ _ p.opened c.place_for-placed.result.at p.end (g.M.Memory.seen c.write_relay.new.mem) c.in_err-write_relay.ensures.err) (opened_or_same _ _ _ c.requires.can.can.can.kept c.unwrap-class.result.area c.unwrap-class.result.level class.area class.level _ _ _ p.opened c.place_for-placed.result.at p.end)

pub returns-in_err-write_relay-clause-stays_fresh : goal.returns-in_err-write_relay-clause-stays_fresh
returns-in_err-write_relay-clause-stays_fresh g c = λ fresh.
    let class = class_found c.args.ground.now.table c.class_of.result c.unwrap-class.ensures c.class_of.ensures.area c.class_of.ensures.level c.class_of.ensures.some in
    let p = c.place_for-placed.ensures in
    opened_stays_fresh _ _ _ c.requires.can.can.can.kept c.unwrap-class.result.area c.unwrap-class.result.level class.area class.level _ _ _ p.opened c.place_for-placed.result.at p.end (g.M.Memory.seen c.write_relay.new.mem) c.in_err-write_relay.ensures.err

pub returns-in_err-write_relay-clause-at_most : goal.returns-in_err-write_relay-clause-at_most
returns-in_err-write_relay-clause-at_most g c =
    let class = class_found c.args.ground.now.table c.class_of.result c.unwrap-class.ensures c.class_of.ensures.area c.class_of.ensures.level c.class_of.ensures.some in
    let p = c.place_for-placed.ensures in
    let none = none_placed _ _ _ c.requires.can.can.can.kept c.unwrap-class.result.area c.unwrap-class.result.level class.area class.level _ _ _ p.opened c.place_for-placed.result.at p.end in
    omega arith

pub returns-clause-set : goal.returns-clause-set
returns-clause-set g c =
    let class = class_found c.args.ground.now.table c.class_of.result c.unwrap-class.ensures c.class_of.ensures.area c.class_of.ensures.level c.class_of.ensures.some in
    let p = c.place_for-placed.ensures in
    let end = end_there _ _ _ c.requires.can.can.can.kept c.unwrap-class.result.area c.unwrap-class.result.level class.area class.level _ _ _ p.opened c.place_for-placed.result.at p.end in
    let set = cell_set _ _ _ c.args.car c.args.cdr (set_here _ _ c.args.cell c.args.cdr c.requires.can) c.requires.cell c.unwrap-class.result class.area class.level class.some _ _ _ p.opened c.place_for-placed.result.at p.end (g.M.Memory.seen c.write_relay.new.mem) c.commit.new.self.table
    c.with_cdr-first.result c.with_cdr-second.result c.in_ok-write_relay.ensures.ok c.with_cdr-first.ensures c.with_cdr-second.ensures (c.commit.ensures.table _ end) c.commit.ensures.sound in
    let memory = ap g.M.Memory.seen c.commit.ensures.memory in
    subst (λ (m : Store). SetsCdr (g.M.Memory.seen c.args.ground.now.mem) c.args.ground.now.table m c.commit.new.self.table (ListAt c.args.cell) c.args.cdr.content) (sym memory)
    (sets_cdr _ _ (ListAt c.args.cell) c.args.cell refl _ _ c.args.cdr.content set)

pub returns-clause-laid : goal.returns-clause-laid
returns-clause-laid g c =
    let class = class_found c.args.ground.now.table c.class_of.result c.unwrap-class.ensures c.class_of.ensures.area c.class_of.ensures.level c.class_of.ensures.some in
    let p = c.place_for-placed.ensures in
    let end = end_there _ _ _ c.requires.can.can.can.kept c.unwrap-class.result.area c.unwrap-class.result.level class.area class.level _ _ _ p.opened c.place_for-placed.result.at p.end in
    let laid = cell_laid _ _ _ c.args.car c.args.cdr (set_here _ _ c.args.cell c.args.cdr c.requires.can) c.requires.cell c.unwrap-class.result class.area class.level class.some _ _ _ p.opened c.place_for-placed.result.at p.end (g.M.Memory.seen c.write_relay.new.mem) c.commit.new.self.table
    c.with_cdr-first.result c.with_cdr-second.result c.in_ok-write_relay.ensures.ok c.commit.ensures.sound (c.commit.ensures.table _ end) c.commit.ensures.pages (opens_if_needed c.place_for-placed.result.opened p.opened p.needed) c.with_cdr-first.ensures c.with_cdr-second.ensures in
    let others = cell_others _ _ _ c.args.car c.args.cdr (set_here _ _ c.args.cell c.args.cdr c.requires.can) c.requires.cell c.unwrap-class.result class.area class.level class.some _ _ _ p.opened c.place_for-placed.result.at p.end (g.M.Memory.seen c.write_relay.new.mem) c.commit.new.self.table
    c.with_cdr-first.result c.with_cdr-second.result c.in_ok-write_relay.ensures.ok c.commit.ensures.sound (c.commit.ensures.table _ end) c.commit.ensures.pages in
    let memory = ap g.M.Memory.seen c.commit.ensures.memory in
    subst (λ (m : Store). LaysPair (g.M.Memory.seen c.args.ground.now.mem) c.args.ground.now.table m c.commit.new.self.table c.args.cell c.args.car c.args.cdr × LiveWordsUnchangedExcept (g.M.Memory.seen c.args.ground.now.mem) c.args.ground.now.table m c.commit.new.self.table c.args.cell) (sym memory) (laid, others)

pub returns-clause-preserves : goal.returns-clause-preserves
returns-clause-preserves g c =
    let class = class_found c.args.ground.now.table c.class_of.result c.unwrap-class.ensures c.class_of.ensures.area c.class_of.ensures.level c.class_of.ensures.some in
    let p = c.place_for-placed.ensures in
    let end = end_there _ _ _ c.requires.can.can.can.kept c.unwrap-class.result.area c.unwrap-class.result.level class.area class.level _ _ _ p.opened c.place_for-placed.result.at p.end in
    let preserves = cell_preserves _ _ _ c.args.car c.args.cdr (set_here _ _ c.args.cell c.args.cdr c.requires.can) c.requires.cell c.unwrap-class.result class.area class.level class.some _ _ _ p.opened c.place_for-placed.result.at p.end (g.M.Memory.seen c.write_relay.new.mem) c.commit.new.self.table
    c.with_cdr-first.result c.with_cdr-second.result c.in_ok-write_relay.ensures.ok c.commit.ensures.sound (c.commit.ensures.table _ end) c.commit.ensures.pages in
    let memory = ap g.M.Memory.seen c.commit.ensures.memory in
    subst (λ (m : Store). PreservesScanned (g.M.Memory.seen c.args.ground.now.mem) c.args.ground.now.table m c.commit.new.self.table) (sym memory) preserves

pub returns-clause-stays_fresh : goal.returns-clause-stays_fresh
returns-clause-stays_fresh g c = λ fresh all.
    let class = class_found c.args.ground.now.table c.class_of.result c.unwrap-class.ensures c.class_of.ensures.area c.class_of.ensures.level c.class_of.ensures.some in
    let p = c.place_for-placed.ensures in
    let end = end_there _ _ _ c.requires.can.can.can.kept c.unwrap-class.result.area c.unwrap-class.result.level class.area class.level _ _ _ p.opened c.place_for-placed.result.at p.end in
    let stays_fresh = cell_stays_fresh _ _ _ c.args.car c.args.cdr (set_here _ _ c.args.cell c.args.cdr c.requires.can) c.requires.cell c.unwrap-class.result class.area class.level class.some _ _ _ p.opened c.place_for-placed.result.at p.end (g.M.Memory.seen c.write_relay.new.mem) c.commit.new.self.table
    c.with_cdr-first.result c.with_cdr-second.result c.in_ok-write_relay.ensures.ok c.commit.ensures.sound (c.commit.ensures.table _ end) c.commit.ensures.pages c.with_cdr-first.ensures c.with_cdr-second.ensures fresh all in
    let memory = ap g.M.Memory.seen c.commit.ensures.memory in
    subst (λ (m : Store). NoOldAddresses m c.commit.new.self.table) (sym memory) stays_fresh

pub returns-clause-at_most : goal.returns-clause-at_most
returns-clause-at_most g c =
    let class = class_found c.args.ground.now.table c.class_of.result c.unwrap-class.ensures c.class_of.ensures.area c.class_of.ensures.level c.class_of.ensures.some in
    let p = c.place_for-placed.ensures in
    let end = end_there _ _ _ c.requires.can.can.can.kept c.unwrap-class.result.area c.unwrap-class.result.level class.area class.level _ _ _ p.opened c.place_for-placed.result.at p.end in
    let none = none_placed _ _ _ c.requires.can.can.can.kept c.unwrap-class.result.area c.unwrap-class.result.level class.area class.level _ _ _ p.opened c.place_for-placed.result.at p.end in
    let some = ap (λ (x : Table). x.placed) (c.commit.ensures.table _ end) in
    omega arith

pub invariant_of-ground : goal.invariant_of-ground
invariant_of-ground g c = record { sound = c.write_relay.ensures.accounted.sound c.place_for-placed.new.ground.sound }

pub returns-in_err-write_relay-clause-marks : goal.returns-in_err-write_relay-clause-marks
returns-in_err-write_relay-clause-marks g c =
    let class = class_found c.args.ground.now.table c.class_of.result c.unwrap-class.ensures c.class_of.ensures.area c.class_of.ensures.level c.class_of.ensures.some in
    let p = c.place_for-placed.ensures in
    marks-then (opened_marks _ _ _ c.requires.can.can.can.kept c.unwrap-class.result.area c.unwrap-class.result.level class.area class.level _ _ _ p.opened c.place_for-placed.result.at p.end) (marks-read c.place_for-placed.new.ground.table c.in_err-write_relay.ensures.err)

pub returns-clause-marks : goal.returns-clause-marks
returns-clause-marks g c =
    let class = class_found c.args.ground.now.table c.class_of.result c.unwrap-class.ensures c.class_of.ensures.area c.class_of.ensures.level c.class_of.ensures.some in
    let p = c.place_for-placed.ensures in
    let end = end_there _ _ _ c.requires.can.can.can.kept c.unwrap-class.result.area c.unwrap-class.result.level class.area class.level _ _ _ p.opened c.place_for-placed.result.at p.end in
    let marks = cell_marks _ _ _ c.args.car c.args.cdr (set_here _ _ c.args.cell c.args.cdr c.requires.can) c.requires.cell c.unwrap-class.result class.area class.level class.some _ _ _ p.opened c.place_for-placed.result.at p.end (g.M.Memory.seen c.write_relay.new.mem) c.commit.new.self.table
    c.with_cdr-first.result c.with_cdr-second.result c.in_ok-write_relay.ensures.ok c.commit.ensures.sound (c.commit.ensures.table _ end) c.commit.ensures.pages in
    let memory = ap g.M.Memory.seen c.commit.ensures.memory in
    subst (λ (m : Store). MarksFollow (g.M.Memory.seen c.args.ground.now.mem) c.args.ground.now.table m c.commit.new.self.table) (sym memory) marks

pub returns-in_err-write_relay-clause-accounted : goal.returns-in_err-write_relay-clause-accounted
returns-in_err-write_relay-clause-accounted g c =
    let p = c.place_for-placed.ensures in
    placed-then_fault p.no_fault p.taken (ap length p.resident) c.place_for-placed.new.ground.sound _ c.from_residual.result (err_from_is_err_and c.from_residual.result c.from_residual.ensures.1).1 c.in_err-write_relay.ensures.accounted

pub returns-clause-accounted : goal.returns-clause-accounted
returns-clause-accounted g c =
    let p = c.place_for-placed.ensures in
    let tells = placed-then {v = shown g.M.Memory c.args.ground.now.mem} {v' = shown g.M.Memory c.place_for-placed.new.ground.mem} {v'' = shown g.M.Memory c.write_relay.new.mem} p.no_fault p.taken (ap length p.resident) c.place_for-placed.new.ground.sound _ (tt {0}) c.in_ok-write_relay.ensures.accounted in
    subst (λ m. AccountsForFaults (shown g.M.Memory c.args.ground.now.mem) (shown g.M.Memory m) c.args.steps.now c.write_relay.new.steps (Ok (tt {0}))) (sym c.commit.ensures.memory) tells
