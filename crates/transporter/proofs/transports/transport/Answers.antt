use Rattle.transporter.proofs.Places.{on-err, is_old}
use Rattle.transporter.proofs.TableGrowth.{grows-moved, opens-faulted, grows-faulted}
use Rattle.transporter.proofs.PageMarks.{marks-read, marks-after, marks-after_fault}
use Rattle.transporter.proofs.TransportSequences.{read-once, moved-once, faulted-once}
use Rattle.transporter.proofs.Parcels.{first-stays}
use Rattle.transporter.proofs.MovableParcels.{if-ok, on_err-map, whichever}
use Rattle.transporter.proofs.ScannedWords.{read-preserves, opened-preserves, grows-preserves}
use Rattle.transporter.proofs.TransportClauses.{can-final, can-whole, can-movable, reaches-there, reaches-moved, moves-from, live-after, live-after_fault, stays-read, stays-faulted}
use Rattle.transporter.proofs.transports.transport.Goals as goal

pub resolve_first-requires : goal.resolve_first-requires
resolve_first-requires g c = can-final c.requires

pub returns-in_err-found-clause-fault : goal.returns-in_err-found-clause-fault
returns-in_err-found-clause-fault g c = on-err c.from_residual.result (stays-read c.in_err-found.ensures.unchanged)

pub returns-in-None-clause-settles : goal.returns-in-None-clause-settles
returns-in-None-clause-settles g c = λ it registers kind n can.
    let read = c.in_ok-found.ensures in
    reaches-there (g.M.Memory.seen c.args.ground.now.mem) (g.M.Memory.seen c.resolve_first.new.mem) c.args.ground.now.table it registers kind c.args.at c.in_ok-found.found.at n can read.value read.last read.unchanged
    c.in-None.ensures.none

pub move_from-requires-clause-whole : goal.move_from-requires-clause-whole
move_from-requires-clause-whole g c = can-whole c.in_ok-found.found.at c.requires c.in_ok-found.ensures.value c.in_ok-found.ensures.last c.in_ok-found.ensures.unchanged

pub move_from-requires-clause-first : goal.move_from-requires-clause-first
move_from-requires-clause-first g c = first-stays c.in_ok-found.found.at c.in_ok-found.found.first c.in_ok-found.ensures.unchanged c.in_ok-found.ensures.first

pub move_from-requires-clause-can : goal.move_from-requires-clause-can
move_from-requires-clause-can g c =
    can-movable c.in_ok-found.found.at c.requires c.in_ok-found.ensures.value c.in_ok-found.ensures.last c.in_ok-found.ensures.unchanged (is_old c.in-Some.ensures.some.old)

pub returns-in-Some-clause-settles : goal.returns-in-Some-clause-settles
returns-in-Some-clause-settles g c =
    let read = c.in_ok-found.ensures in
    if-ok c.move_from.result (λ to moved it registers kind n can.
    reaches-moved (g.M.Memory.seen c.args.ground.now.mem) (g.M.Memory.seen c.resolve_first.new.mem) (g.M.Memory.seen c.move_from.new.ground.mem) c.args.ground.now.table c.move_from.new.ground.table it registers kind
    c.args.at c.in_ok-found.found.at to n can read.value read.last read.unchanged moved) c.move_from.ensures.moved

pub returns-in-Some-clause-words : goal.returns-in-Some-clause-words
returns-in-Some-clause-words g c =
    let read = c.in_ok-found.ensures in
    if-ok c.move_from.result (λ to moved. moves-from c.in_ok-found.found.at to read.value read.unchanged (is_old c.in-Some.ensures.some.old) moved) c.move_from.ensures.moved

pub returns-in-Some-clause-live : goal.returns-in-Some-clause-live
returns-in-Some-clause-live g c =
    let read = c.in_ok-found.ensures in
    whichever c.move_from.result (λ to moved. live-after c.in_ok-found.found.at to c.requires read.unchanged moved) (λ o. live-after_fault c.requires read.unchanged o) c.move_from.ensures.moved c.move_from.ensures.fault

pub returns-in-Some-clause-fault : goal.returns-in-Some-clause-fault
returns-in-Some-clause-fault g c = on_err-map c.move_from.result (λ o. stays-faulted c.in_ok-found.ensures.unchanged o) c.move_from.ensures.fault

pub returns-in-Some-clause-table : goal.returns-in-Some-clause-table
returns-in-Some-clause-table g c = whichever c.move_from.result (λ to moved. grows-moved to moved) grows-faulted c.move_from.ensures.moved c.move_from.ensures.fault

pub returns-in-None-clause-preserves : goal.returns-in-None-clause-preserves
returns-in-None-clause-preserves g c = read-preserves c.args.ground.now.table c.in_ok-found.ensures.unchanged

pub returns-in-Some-clause-preserves : goal.returns-in-Some-clause-preserves
returns-in-Some-clause-preserves g c =
    let read = c.in_ok-found.ensures in
    whichever c.move_from.result (λ to moved. grows-preserves moved.relocates.sound (live-after c.in_ok-found.found.at to c.requires read.unchanged moved) (grows-moved to moved)) (λ o. opened-preserves (live-after_fault c.requires read.unchanged o) (opens-faulted o))
    c.move_from.ensures.moved c.move_from.ensures.fault

pub returns-in_err-found-clause-moves : goal.returns-in_err-found-clause-moves
returns-in_err-found-clause-moves g c = read-once c.args.ground.now.table c.in_err-found.ensures.unchanged

pub returns-in-None-clause-moves : goal.returns-in-None-clause-moves
returns-in-None-clause-moves g c = read-once c.args.ground.now.table c.in_ok-found.ensures.unchanged

pub returns-in-Some-clause-moves : goal.returns-in-Some-clause-moves
returns-in-Some-clause-moves g c =
    let read = c.in_ok-found.ensures in
    whichever c.move_from.result (λ to moved. moved-once c.in_ok-found.found.at to read.value read.unchanged (is_old c.in-Some.ensures.some.old) moved) (λ o. faulted-once read.unchanged o) c.move_from.ensures.moved c.move_from.ensures.fault

pub returns-in_err-found-clause-marks : goal.returns-in_err-found-clause-marks
returns-in_err-found-clause-marks g c = marks-read c.args.ground.now.table c.in_err-found.ensures.unchanged

pub returns-in-None-clause-marks : goal.returns-in-None-clause-marks
returns-in-None-clause-marks g c = marks-read c.args.ground.now.table c.in_ok-found.ensures.unchanged

pub returns-in-Some-clause-marks : goal.returns-in-Some-clause-marks
returns-in-Some-clause-marks g c =
    let read = c.in_ok-found.ensures in
    whichever c.move_from.result (λ to moved. marks-after c.in_ok-found.found.at to c.requires read.last read.unchanged moved) (λ o. marks-after_fault c.requires read.unchanged o) c.move_from.ensures.moved c.move_from.ensures.fault
