use Rattle.std.proofs.Common.{◌*◌, refl, sym, ◌∙◌, subst, get_or, arith}
use Rattle.store_word.specs.Words.{null_word}
use Rattle.lisp_graph.specs.declared.command.Command.TheVariants as C
use Rattle.area_space.specs.View.{view}
use Rattle.heap_state.proofs.transporter.LiveObjects.{grows-then}
use Rattle.heap_state.proofs.transporter.PageMarks.{marks-then}
use Rattle.heap_commands.specs.Views.{MarksMade}
use Rattle.heap_commands.proofs.NewMarks.{made_after}
use Rattle.lisp_heap.specs.Costs.{IsRefused, LookCosts, Spends}
use Rattle.lisp_heap.specs.Growth.{LooksAndWidens}
use Rattle.lisp_heap.proofs.BlockGrowth.{answered_sure, consistent_now, looked, looks_refused, none_wanted, same_charge, some_wanted, spends_looked, standing_looked}
use Rattle.lisp_heap.proofs.MemoryReports.{tells_then}
use Rattle.lisp_heap.proofs.heap.growing.grow_register.Goals as goal

pub find_growing-found-requires-clause-consistent : goal.find_growing-found-requires-clause-consistent
find_growing-found-requires-clause-consistent g c =
    consistent_now (g.M.Memory.seen c.args.ground.now.mem) c.args.ground.now.table c.args.scan.now c.args.registers.now c.requires.represented c.requires.at_least

pub grow_charged-requires-clause-represented : goal.grow_charged-requires-clause-represented
grow_charged-requires-clause-represented g c =
    let x = c.find_growing-found.ensures in
    standing_looked (g.M.Memory.seen c.args.ground.now.mem) (g.M.Memory.seen c.find_growing-found.new.ground.mem) c.args.ground.now.table c.find_growing-found.new.ground.table c.args.scan.now c.args.registers.now c.find_growing-found.new.registers
    c.looks_are_steps.ensures.stands c.find_growing-found.new.ground.sound.marked x.preserves x.registers x.stays_fresh x.represented c.requires.represented

pub grow_charged-requires-clause-target : goal.grow_charged-requires-clause-target
grow_charged-requires-clause-target g c = let many = c.find_growing-found.ensures.registers.count in let low = c.requires.target in omega arith

pub returns-in-Answered-clause-step : goal.returns-in-Answered-clause-step
returns-in-Answered-clause-step g c k s x same =
    c.looks_are_steps.ensures.idle _ _ _ _ _ _ _ k s (C.Grow c.args.target c.args.wanted) c.in-Answered.reply x
    (λ sure. c.in-Answered.ensures.finds.unwanted sure k s x.represents x.reach) c.in-Answered.ensures.finds.performs

pub returns-in-Answered-clause-settled : goal.returns-in-Answered-clause-settled
returns-in-Answered-clause-settled g c = c.in-Answered.ensures.finds.performs.settled

pub returns-in-Answered-clause-registers : goal.returns-in-Answered-clause-registers
returns-in-Answered-clause-registers g c = c.find_growing-found.ensures.registers.count

pub returns-in-Answered-clause-table : goal.returns-in-Answered-clause-table
returns-in-Answered-clause-table g c = c.find_growing-found.ensures.preserves.grows

pub returns-in-Answered-clause-marks : goal.returns-in-Answered-clause-marks
returns-in-Answered-clause-marks g c = c.find_growing-found.ensures.marks

pub returns-in-Answered-clause-costs : goal.returns-in-Answered-clause-costs
returns-in-Answered-clause-costs g c fine k s x area charge some =
    absurd (none_wanted _ _ (c.in-Answered.ensures.finds.unwanted (λ e. cc) k s x.represents x.reach) some)

pub returns-in-Answered-clause-found : goal.returns-in-Answered-clause-found
returns-in-Answered-clause-found g c sure k s x none =
    record { still = refl; grows = c.find_growing-found.ensures.preserves.grows.placed; bound = (let y = c.in-Answered.ensures.cost (answered_sure c.in-Answered.reply sure) in omega arith); copied = c.find_growing-found.ensures.placed }

pub returns-in-Wants-clause-step : goal.returns-in-Wants-clause-step
returns-in-Wants-clause-step g c k s x same =
    let y = c.find_growing-found.ensures in
    c.grow_charged.ensures.step (y.represented k s x.represents x.reach).map s
    (looked (g.M.Memory.seen c.args.ground.now.mem) (g.M.Memory.seen c.find_growing-found.new.ground.mem) c.args.ground.now.table c.find_growing-found.new.ground.table c.args.scan.now c.args.registers.now c.find_growing-found.new.registers
    c.looks_are_steps.ensures.stands c.find_growing-found.new.ground.sound.marked y.preserves y.registers y.stays_fresh y.represented k s x) same

pub returns-in-Wants-clause-registers : goal.returns-in-Wants-clause-registers
returns-in-Wants-clause-registers g c = c.grow_charged.ensures.registers ∙ c.find_growing-found.ensures.registers.count

pub returns-in-Wants-clause-table : goal.returns-in-Wants-clause-table
returns-in-Wants-clause-table g c = grows-then c.find_growing-found.ensures.preserves.grows c.grow_charged.ensures.table

pub returns-in-Wants-clause-marks : goal.returns-in-Wants-clause-marks
returns-in-Wants-clause-marks g c = marks-then c.find_growing-found.ensures.marks c.grow_charged.ensures.marks

pub returns-in-Wants-clause-costs : goal.returns-in-Wants-clause-costs
returns-in-Wants-clause-costs g c fine k s x area charge some =
    let z = c.find_growing-found.ensures in
    let y = z.represented k s x.represents x.reach in
    let same = same_charge s c.args.target c.args.wanted c.in-Wants.area c.in-Wants.charge area charge (c.in-Wants.ensures.finds.grows y.map s y.represents) some in
    subst (λ n. Spends c.args.scan.now c.grow_charged.new.scan c.args.ground.now.table c.grow_charged.new.ground.table c.args.rate n 99 1 c.args.steps.now c.grow_charged.new.steps) (sym same)
    (spends_looked c.args.scan.now c.grow_charged.new.scan c.args.ground.now.table c.find_growing-found.new.ground.table c.grow_charged.new.ground.table c.args.rate c.in-Wants.charge c.args.steps.now c.find_growing-found.new.steps c.grow_charged.new.steps
    z.preserves.grows.placed z.placed (c.in-Wants.ensures.cost (λ e. cc)) (c.grow_charged.ensures.costs fine))

pub returns-in-Wants-clause-found : goal.returns-in-Wants-clause-found
returns-in-Wants-clause-found g c sure k s x none =
    let y = c.find_growing-found.ensures.represented k s x.represents x.reach in
    absurd {A = LookCosts c.args.scan.now c.grow_charged.new.scan c.args.ground.now.table c.grow_charged.new.ground.table c.args.steps.now c.grow_charged.new.steps} (some_wanted s c.args.target c.args.wanted c.in-Wants.area c.in-Wants.charge (c.in-Wants.ensures.finds.grows y.map s y.represents) none)

pub returns-in-Answered-clause-goes_on : goal.returns-in-Answered-clause-goes_on
returns-in-Answered-clause-goes_on g c = record { some = omega arith; begun = λ fine. refl; stays = λ over. over; grows = c.find_growing-found.ensures.preserves.grows.placed }

pub returns-in-Wants-clause-refused : goal.returns-in-Wants-clause-refused
returns-in-Wants-clause-refused g c refused =
    let z = c.find_growing-found.ensures in
    let same = c.grow_charged.ensures.refused refused in
    looks_refused c.args.scan.now c.grow_charged.new.scan c.args.ground.now.table c.find_growing-found.new.ground.table c.grow_charged.new.ground.table c.args.steps.now c.find_growing-found.new.steps c.grow_charged.new.steps
    z.preserves.grows.placed z.placed (c.in-Wants.ensures.cost (λ e. cc)) same.0 same.1 same.2

pub returns-in-Wants-clause-goes_on : goal.returns-in-Wants-clause-goes_on
returns-in-Wants-clause-goes_on g c =
    let x = c.grow_charged.ensures.goes_on in
    record { some = x.some; begun = x.begun; stays = x.stays; grows = (let a = c.find_growing-found.ensures.preserves.grows.placed in let b = x.grows in omega arith) }

pub returns-in-Answered-clause-refused : goal.returns-in-Answered-clause-refused
returns-in-Answered-clause-refused g c refused =
    let y = c.in-Answered.ensures.cost (answered_sure c.in-Answered.reply (λ e. subst IsRefused e refused)) in
    record { still = refl; grows = c.find_growing-found.ensures.preserves.grows.placed; bound = (omega arith); copied = c.find_growing-found.ensures.placed }

pub returns-in-Wants-clause-accounted : goal.returns-in-Wants-clause-accounted
returns-in-Wants-clause-accounted g c = tells_then c.in-Wants.ensures.accounted c.grow_charged.ensures.accounted

pub returns-in-Answered-clause-order : goal.returns-in-Answered-clause-order
returns-in-Answered-clause-order g c fine k s x area charge some = absurd (none_wanted _ _ (c.in-Answered.ensures.finds.unwanted (λ e. cc) k s x.represents x.reach) some)

pub returns-in-Wants-clause-order : goal.returns-in-Wants-clause-order
returns-in-Wants-clause-order g c fine k s x area charge some =
    let z = c.find_growing-found.ensures in
    let y = z.represented k s x.represents x.reach in
    let same = same_charge s c.args.target c.args.wanted c.in-Wants.area c.in-Wants.charge area charge (c.in-Wants.ensures.finds.grows y.map s y.represents) some in
    subst (λ n. LooksAndWidens (view c.args.ground.now) (view c.grow_charged.new.ground) c.args.scan.now c.grow_charged.new.scan c.args.registers.now c.grow_charged.new.registers n (c.args.rate * n)) (sym same)
    (record { ground = view c.find_growing-found.new.ground; words = c.find_growing-found.new.registers; others = z.registers; table = z.preserves.grows; few = z.placed; widens = c.grow_charged.ensures.order fine })

pub returns-in-Answered-clause-unmarked : goal.returns-in-Answered-clause-unmarked
returns-in-Answered-clause-unmarked g c fine k s x area charge some = absurd (none_wanted _ _ (c.in-Answered.ensures.finds.unwanted (λ e. cc) k s x.represents x.reach) some)

pub returns-in-Wants-clause-unmarked : goal.returns-in-Wants-clause-unmarked
returns-in-Wants-clause-unmarked g c fine k s x area charge some =
    let z = c.find_growing-found.ensures in
    let y = z.represented k s x.represents x.reach in
    let same = same_charge s c.args.target c.args.wanted c.in-Wants.area c.in-Wants.charge area charge (c.in-Wants.ensures.finds.grows y.map s y.represents) some in
    subst (MarksMade (view c.args.ground.now) (view c.grow_charged.new.ground) (get_or c.grow_charged.new.registers c.args.target null_word)) (sym same)
    (made_after (g.M.Memory.seen c.args.ground.now.mem) (g.M.Memory.seen c.find_growing-found.new.ground.mem) (g.M.Memory.seen c.grow_charged.new.ground.mem) c.args.ground.now.table c.find_growing-found.new.ground.table c.grow_charged.new.ground.table
    x.represents.kept.ground y.represents.kept.ground z.marks c.grow_charged.ensures.marks.turns (get_or c.grow_charged.new.registers c.args.target null_word) c.in-Wants.charge (c.grow_charged.ensures.unmarked fine))
