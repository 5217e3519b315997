use Rattle.std.proofs.Common.{refl, ap, arith, rules}
use Rattle.std.proofs.lemmas.List.{get_or-set_same}
use Rattle.std.proofs.lemmas.Result.{err_from_is_err_and}
use Rattle.store_word.specs.Words.{Parts, null_word}
use Rattle.mem_port.proofs.CallReports.{answered, answers, quiet-twice}
use Rattle.heap_state.proofs.Allocations.{performs_at, performs_at_after, placed_more}
use Rattle.heap_state.proofs.CommandEffects.{performs_fault}
use Rattle.heap_commands.proofs.NewConses.{can_pair, pair_stays_fresh, pair_performs, stays_leaves_at}
use Rattle.heap_commands.proofs.NewMarks.{made_after, pair_marked}
use Rattle.heap_commands.proofs.SettledRegisters.{settles_two, still_allocates}
use Rattle.heap_commands.proofs.conses.making.cons.Goals as goal

pub make_pair_of-requires : goal.make_pair_of-requires
make_pair_of-requires g c =
    let x = c.in_ok-settle_items.ensures in
    let s = settles_two _ _ _ _ _ _ c.requires.consistent x.represented x.preserves x.registers x.stays_fresh x.marks c.args.car c.args.cdr x.fresh in
    let a = still_allocates _ _ _ _ _ _ c.requires.consistent x.represented x.preserves c.args.object.area c.args.object.level 2 c.requires.area c.requires.level c.requires.fits in
    can_pair _ _ c.settle_items.new.registers c.args.object.area c.args.object.level c.args.car c.args.cdr (s.inside _ c.requires.car) (s.inside _ c.requires.cdr) c.index-registers-car.result c.index-registers-cdr.result c.index-registers-car.is c.index-registers-cdr.is a.area_in a.level_in a.fits s.consistent

pub returns-clause-performs : goal.returns-clause-performs
returns-clause-performs g c =
    let x = c.in_ok-settle_items.ensures in
    let s = settles_two _ _ _ _ _ _ c.requires.consistent x.represented x.preserves x.registers x.stays_fresh x.marks c.args.car c.args.cdr x.fresh in
    let a = still_allocates _ _ _ _ _ _ c.requires.consistent x.represented x.preserves c.args.object.area c.args.object.level 2 c.requires.area c.requires.level c.requires.fits in
    let got = c.in_ok-at.ensures in
    performs_at_after _ _ _ _ _ _ _ _ _ _ _ c.args.object.area c.args.object.level s.leaves
    (pair_performs (g.M.Memory.seen c.settle_items.new.ground.mem) c.settle_items.new.ground.table c.settle_items.new.registers c.args.object.area c.args.object.level c.args.car c.args.cdr (s.inside _ c.requires.car) (s.inside _ c.requires.cdr) c.index-registers-car.result c.index-registers-cdr.result c.index-registers-car.is c.index-registers-cdr.is a.area_in a.level_in a.fits (g.M.Memory.seen c.make_pair_of.new.ground.mem) c.make_pair_of.new.ground.table c.args.object.to c.in_ok-at.at c.list_at.result (s.inside _ c.requires.to) (ap (λ (w : Parts). w.content) c.list_at.ensures)
    got.stays_ground.preserves got.placed.placed (λ car_fresh cdr_fresh. got.stays_ground.stays_fresh (car_fresh, cdr_fresh)) got.stays_ground.marks s.left_settled s.right_settled got.made)

pub returns-clause-costs : goal.returns-clause-costs
returns-clause-costs g c =
    let more = placed_more _ _ c.args.object.area c.args.object.level c.in_ok-at.at 2 2 c.in_ok-at.ensures.placed.placed in
    let few = c.in_ok-settle_items.ensures.at_most in
    record { tells = answers (quiet-twice (answered _ c.in_ok-settle_items.ensures.accounted) (answered _ c.in_ok-at.ensures.fault.accounted)); few = omega arith; cost = search rules }

pub returns-in_err-at-clause-performs : goal.returns-in_err-at-clause-performs
returns-in_err-at-clause-performs g c =
    let x = c.in_ok-settle_items.ensures in
    let s = settles_two _ _ _ _ _ _ c.requires.consistent x.represented x.preserves x.registers x.stays_fresh x.marks c.args.car c.args.cdr x.fresh in
    let a = still_allocates _ _ _ _ _ _ c.requires.consistent x.represented x.preserves c.args.object.area c.args.object.level 2 c.requires.area c.requires.level c.requires.fits in
    let p = err_from_is_err_and c.from_residual-in_err-at.result c.from_residual-in_err-at.ensures.1 in
    let got = c.in_err-at.ensures in
    let stays_fresh = pair_stays_fresh (g.M.Memory.seen c.settle_items.new.ground.mem) c.settle_items.new.ground.table c.settle_items.new.registers c.args.object.area c.args.object.level c.args.car c.args.cdr (s.inside _ c.requires.car) (s.inside _ c.requires.cdr) c.index-registers-car.result c.index-registers-cdr.result c.index-registers-car.is c.index-registers-cdr.is a.area_in a.level_in a.fits (g.M.Memory.seen c.make_pair_of.new.ground.mem) c.make_pair_of.new.ground.table (λ car_fresh cdr_fresh. got.stays_ground.stays_fresh (car_fresh, cdr_fresh)) in
    rw p.1 (performs_at_after _ _ _ _ _ _ _ _ _ _ _ c.args.object.area c.args.object.level s.leaves
    (performs_at _ _ _ _ c.settle_items.new.registers c.settle_items.new.registers _ _ c.args.object.area c.args.object.level (performs_fault _ _ _ _ c.settle_items.new.registers c.settle_items.new.registers _ refl (stays_leaves_at _ _ _ _ c.settle_items.new.registers got.fault.fault got.stays_ground.preserves stays_fresh got.stays_ground.marks))))

pub returns-in_err-settle_items-clause-performs : goal.returns-in_err-settle_items-clause-performs
returns-in_err-settle_items-clause-performs g c =
    let p = err_from_is_err_and c.from_residual.result c.from_residual.ensures.1 in
    let x = c.in_err-settle_items.ensures in
    rw p.1 (performs_at _ _ _ _ c.args.registers.now c.settle_items.new.registers _ _ c.args.object.area c.args.object.level
    (performs_fault _ _ _ _ c.args.registers.now c.settle_items.new.registers _ refl (record { represented = x.represented; preserves = x.preserves; others = x.registers; stays_fresh = x.stays_fresh; marks = x.marks })))

pub returns-clause-unmarked : goal.returns-clause-unmarked
returns-clause-unmarked g c =
    let x = c.in_ok-settle_items.ensures in
    let s = settles_two _ _ _ _ _ _ c.requires.consistent x.represented x.preserves x.registers x.stays_fresh x.marks c.args.car c.args.cdr x.fresh in
    let a = still_allocates _ _ _ _ _ _ c.requires.consistent x.represented x.preserves c.args.object.area c.args.object.level 2 c.requires.area c.requires.level c.requires.fits in
    let can = can_pair _ _ c.settle_items.new.registers c.args.object.area c.args.object.level c.args.car c.args.cdr (s.inside _ c.requires.car) (s.inside _ c.requires.cdr) c.index-registers-car.result c.index-registers-cdr.result c.index-registers-car.is c.index-registers-cdr.is a.area_in a.level_in a.fits s.consistent in
    let got = c.in_ok-at.ensures in
    rw (get_or-set_same c.settle_items.new.registers c.args.object.to c.list_at.result null_word (s.inside _ c.requires.to))
    (made_after (g.M.Memory.seen c.args.ground.now.mem) (g.M.Memory.seen c.settle_items.new.ground.mem) (g.M.Memory.seen c.make_pair_of.new.ground.mem) c.args.ground.now.table c.settle_items.new.ground.table c.make_pair_of.new.ground.table
    c.requires.consistent.represents.kept.ground s.consistent.represents.kept.ground x.marks got.stays_ground.marks.turns c.list_at.result 2
    (pair_marked (g.M.Memory.seen c.settle_items.new.ground.mem) (g.M.Memory.seen c.make_pair_of.new.ground.mem) c.settle_items.new.ground.table c.make_pair_of.new.ground.table c.args.object.area c.args.object.level
    c.index-registers-car.result c.index-registers-cdr.result c.in_ok-at.at c.list_at.result can got.made got.placed.placed (ap (λ (w : Parts). w.content) c.list_at.ensures) got.words.0 got.placed.unmarked))
