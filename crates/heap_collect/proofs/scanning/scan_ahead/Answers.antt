use Rattle.std.proofs.Common.{◌∙◌, ap}
use Rattle.scavenger.specs.Scan.{Scan}
use Rattle.heap_state.proofs.transporter.Places.{on-err}
use Rattle.heap_collect.specs.MachineView.{machine}
use Rattle.heap_collect.proofs.ScanSequences.{idle_units, none_of, nothing_scanned, scanned_units, some_of, stopped_ahead}
use Rattle.heap_collect.proofs.scanning.scan_ahead.Goals as goal

pub returns-then-is_none-clause-ok : goal.returns-then-is_none-clause-ok
returns-then-is_none-clause-ok g c = idle_units c.requires.represented (none_of c.args.ground.now.table.aim c.condemned.result c.is_none.result c.condemned.ensures c.is_none.ensures c.if-is_none.true)

pub returns-then-is_none-clause-goes_on : goal.returns-then-is_none-clause-goes_on
returns-then-is_none-clause-goes_on g c = nothing_scanned

pub returns-clause-ok : goal.returns-clause-ok
returns-clause-ok g c =
    let x = c.scan_up_to.ensures in
    scanned_units (machine c.args.ground.now c.args.scan.now c.args.registers.now) (machine c.scan_up_to.new.ground c.scan_up_to.new.self c.scan_up_to.new.registers) x.unchanged (λ over. ap (λ (y : Scan). y.over) (x.over over).1 ∙ over)
    (some_of c.args.ground.now.table.aim c.condemned.result c.is_none.result c.condemned.ensures c.is_none.ensures c.if-is_none.false) c.args.limit c.args.steps.now c.scan_up_to.new.steps c.scan_up_to.result x.some x.scans x.count x.placed x.cost

pub returns-clause-fault : goal.returns-clause-fault
returns-clause-fault g c =
    let x = c.scan_up_to.ensures in
    on-err c.scan_up_to.result (stopped_ahead (machine c.args.ground.now c.args.scan.now c.args.registers.now) (machine c.scan_up_to.new.ground c.scan_up_to.new.self c.scan_up_to.new.registers) x.unchanged (λ over. ap (λ (y : Scan). y.over) (x.over over).1 ∙ over)
    (some_of c.args.ground.now.table.aim c.condemned.result c.is_none.result c.condemned.ensures c.is_none.ensures c.if-is_none.false))

pub returns-clause-goes_on : goal.returns-clause-goes_on
returns-clause-goes_on g c =
    let x = c.scan_up_to.ensures in
    record { some = x.some; over = λ over. ap (λ (y : Scan). y.over) (x.over over).1 ∙ over; units = x.units; placed = x.preserves.placed; moves = x.moves; marks = x.marks; registers = x.registers; table = x.preserves.grows }
