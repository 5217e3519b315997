use Rattle.std.proofs.Common.{refl, sym, ◌∙◌, ap, subst, get_or, arith}
use Rattle.store_word.specs.Words.{null_word}
use Rattle.lisp_graph.specs.declared.command.Command.TheVariants as C
use Rattle.area_space.specs.View.{view}
use Rattle.heap_state.specs.Reads.{reply_of}
use Rattle.heap_state.proofs.transporter.LiveObjects.{grows-then}
use Rattle.heap_state.proofs.transporter.PageMarks.{marks-then}
use Rattle.heap_state.proofs.SettledRegister.{settled_on}
use Rattle.heap_commands.proofs.NewMarks.{made_after}
use Rattle.lisp_heap.specs.Costs.{IsRefused}
use Rattle.lisp_heap.proofs.Allocations.{refused_undone, refused_unmade}
use Rattle.lisp_heap.proofs.BlockGrowth.{can_grow_there, fields_charged, grow_wants, grown_steps, unrefused, spends_charged}
use Rattle.lisp_heap.proofs.PageMarks.{turns_of}
use Rattle.lisp_heap.proofs.MemoryReports.{cost_of, made_fine, made_sure, tells_then}
use Rattle.lisp_heap.proofs.heap.growing.grow_charged.Goals as goal

pub admit-requires-clause-area : goal.admit-requires-clause-area
admit-requires-clause-area g c = c.requires.can.area_in

pub grow-requires-clause-target : goal.grow-requires-clause-target
grow-requires-clause-target g c = let many = c.in-Ok.ensures.goes_on.registers.count in let low = c.requires.target in omega arith

pub grow-requires-clause-settled : goal.grow-requires-clause-settled
grow-requires-clause-settled g c =
    settled_on c.args.ground.now.table c.admit.new.ground.table c.args.registers.now c.admit.new.registers c.args.target c.in-Ok.ensures.goes_on.table c.in-Ok.ensures.goes_on.registers c.requires.target c.requires.can.settled

pub grow-requires-clause-can : goal.grow-requires-clause-can
grow-requires-clause-can g c =
    can_grow_there (g.M.Memory.seen c.args.ground.now.mem) (g.M.Memory.seen c.admit.new.ground.mem) c.args.ground.now.table c.admit.new.ground.table c.args.scan.now c.admit.new.scan c.args.registers.now c.admit.new.registers
    c.args.target c.args.wanted c.args.allocation.area c.args.allocation.charge c.args.rate c.requires.can c.in-Ok.ensures.ok.ahead c.requires.represented c.in-Ok.ensures.left

pub returns-in-Ok-clause-step : goal.returns-in-Ok-clause-step
returns-in-Ok-clause-step g c k s x same =
    rw (c.reply_of.ensures) (grown_steps (g.M.Memory.seen c.args.ground.now.mem) (g.M.Memory.seen c.admit.new.ground.mem) c.args.ground.now.table c.admit.new.ground.table c.args.scan.now c.admit.new.scan c.args.registers.now c.admit.new.registers
    c.args.target c.args.wanted c.args.allocation.area c.args.allocation.charge c.args.rate c.requires.can c.in-Ok.ensures.ok.ahead
    (g.M.Memory.seen c.grow.new.ground.mem) c.grow.new.ground.table c.admit.new.registers (reply_of c.grow.result) c.looks_are_steps.ensures.admitted c.in-Ok.ensures.left c.grow.ensures.performs k s x same)

pub returns-in-Ok-clause-settled : goal.returns-in-Ok-clause-settled
returns-in-Ok-clause-settled g c = rw (c.reply_of.ensures) c.grow.ensures.performs.settled

pub returns-in-Ok-clause-costs : goal.returns-in-Ok-clause-costs
returns-in-Ok-clause-costs g c fine =
    let x = c.requires.represented in
    let y = c.in-Ok.ensures in
    let ahead = y.ok.ahead x.map x.state x.represents in
    let growing = c.requires.can.grows x.map x.state x.represents.represents in
    spends_charged c.args.scan.now c.admit.new.scan c.args.ground.now.table c.admit.new.ground.table c.grow.new.ground.table c.args.rate c.args.allocation.charge c.args.wanted c.args.steps.now c.admit.new.steps c.grow.new.steps
    (fields_charged x.state c.args.target c.args.wanted c.args.allocation.area c.args.allocation.charge growing) y.ok.count y.goes_on.table.placed y.ok.at_most y.ok.cost
    (cost_of c.grow.result c.grow.ensures.placed (made_sure c.grow.result (sym c.reply_of.ensures ∙ fine)) ahead.represented.map x.state c.args.allocation.area c.args.allocation.charge ahead.represented.represents growing) c.grow.ensures.cost

pub returns-in-Ok-clause-refused : goal.returns-in-Ok-clause-refused
returns-in-Ok-clause-refused g c refused = absurd (unrefused (reply_of c.grow.result) (made_fine c.grow.result c.grow.ensures.succeeds) (subst IsRefused c.reply_of.ensures refused))

pub returns-in-Err-clause-step : goal.returns-in-Err-clause-step
returns-in-Err-clause-step g c k s x same =
    c.in-Err.ensures.refused (C.Grow c.args.target c.args.wanted) k s refl
    (grow_wants (g.M.Memory.seen c.args.ground.now.mem) (g.M.Memory.seen c.admit.new.ground.mem) c.args.ground.now.table c.admit.new.ground.table c.args.scan.now c.admit.new.scan c.args.registers.now c.admit.new.registers
    c.args.target c.args.wanted c.args.allocation.area c.args.allocation.charge c.args.rate c.requires.can k s x.represents) x

pub returns-in-Err-clause-settled : goal.returns-in-Err-clause-settled
returns-in-Err-clause-settled g c done = absurd (refused_undone c.in-Err.reply _ _ _ _ (λ e. (c.in-Err.ensures.err e).0) done)

pub returns-in-Err-clause-costs : goal.returns-in-Err-clause-costs
returns-in-Err-clause-costs g c fine = absurd (refused_unmade c.in-Err.reply _ _ _ _ (λ e. (c.in-Err.ensures.err e).0) fine)

pub returns-in-Err-clause-refused : goal.returns-in-Err-clause-refused
returns-in-Err-clause-refused g c refused =
    let same = c.in-Err.ensures.err (λ e. subst IsRefused e refused) in
    (same.2, ap (λ w. w.table) same.1, same.4)

pub returns-in-Err-clause-goes_on : goal.returns-in-Err-clause-goes_on
returns-in-Err-clause-goes_on g c =
    let x = c.in-Err.ensures in
    record { some = x.goes_on.some; begun = λ fine. absurd (refused_unmade c.in-Err.reply _ _ _ _ (λ e. (x.err e).0) fine); stays = x.goes_on.over; grows = x.goes_on.table.placed }

pub returns-in-Ok-clause-goes_on : goal.returns-in-Ok-clause-goes_on
returns-in-Ok-clause-goes_on g c =
    let x = c.in-Ok.ensures in
    record { some = x.goes_on.some; begun = λ fine. x.ok.begun; stays = x.goes_on.over; grows = (let a = x.goes_on.table.placed in let b = c.grow.ensures.performs.preserves.grows.placed in omega arith) }

pub returns-in-Ok-clause-accounted : goal.returns-in-Ok-clause-accounted
returns-in-Ok-clause-accounted g c = rw (c.reply_of.ensures) (tells_then c.in-Ok.ensures.accounted c.grow.ensures.accounted)

pub returns-in-Ok-clause-table : goal.returns-in-Ok-clause-table
returns-in-Ok-clause-table g c = grows-then c.in-Ok.ensures.goes_on.table c.grow.ensures.performs.preserves.grows

pub returns-in-Ok-clause-marks : goal.returns-in-Ok-clause-marks
returns-in-Ok-clause-marks g c = marks-then c.in-Ok.ensures.goes_on.marks c.grow.ensures.performs.marks

pub returns-in-Err-clause-marks : goal.returns-in-Err-clause-marks
returns-in-Err-clause-marks g c = c.in-Err.ensures.goes_on.marks

pub returns-in-Ok-clause-order : goal.returns-in-Ok-clause-order
returns-in-Ok-clause-order g c fine =
    let x = c.requires.represented in
    let y = c.in-Ok.ensures in
    let ahead = y.ok.ahead x.map x.state x.represents in
    record {
      ground = view c.admit.new.ground;
      scans = y.ok.order;
      idle = λ none. (let z = y.idle none in (ap view z.0, z.1, z.2));
      placed = cost_of c.grow.result c.grow.ensures.placed (made_sure c.grow.result (sym c.reply_of.ensures ∙ fine)) ahead.represented.map x.state c.args.allocation.area c.args.allocation.charge ahead.represented.represents (c.requires.can.grows x.map x.state x.represents.represents);
    }

pub returns-in-Err-clause-order : goal.returns-in-Err-clause-order
returns-in-Err-clause-order g c fine = absurd (refused_unmade c.in-Err.reply _ _ _ _ (λ e. (c.in-Err.ensures.err e).0) fine)

pub returns-in-Ok-clause-unmarked : goal.returns-in-Ok-clause-unmarked
returns-in-Ok-clause-unmarked g c fine =
    let x = c.requires.represented in
    let y = c.in-Ok.ensures in
    let ahead = y.ok.ahead x.map x.state x.represents in
    made_after (g.M.Memory.seen c.args.ground.now.mem) (g.M.Memory.seen c.admit.new.ground.mem) (g.M.Memory.seen c.grow.new.ground.mem) c.args.ground.now.table c.admit.new.ground.table c.grow.new.ground.table
    x.represents.represents.kept.ground ahead.represented.represents.kept.ground y.goes_on.marks (turns_of (C.Grow c.args.target c.args.wanted) (reply_of c.grow.result) c.grow.ensures.performs.marks) (get_or c.admit.new.registers c.args.target null_word) c.args.allocation.charge
    (cost_of c.grow.result c.grow.ensures.unmarked (made_sure c.grow.result (sym c.reply_of.ensures ∙ fine)) ahead.represented.map x.state c.args.allocation.area c.args.allocation.charge ahead.represented.represents (c.requires.can.grows x.map x.state x.represents.represents))

pub returns-in-Err-clause-unmarked : goal.returns-in-Err-clause-unmarked
returns-in-Err-clause-unmarked g c fine = absurd (refused_unmade c.in-Err.reply _ _ _ _ (λ e. (c.in-Err.ensures.err e).0) fine)
