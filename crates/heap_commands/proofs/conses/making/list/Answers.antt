use Rattle.std.proofs.Common.{◌*◌, length, refl, ap, arith, rules}
use Rattle.std.proofs.lemmas.List.{get_or-set_same}
use Rattle.std.proofs.lemmas.Result.{err_from_is_err_and}
use Rattle.store_word.specs.Words.{Parts, null_word}
use Rattle.mem_port.proofs.CallReports.{answered, answers, quiet-twice}
use Rattle.heap_state.proofs.Allocations.{performs_at, performs_at_after, placed_more}
use Rattle.heap_state.proofs.CommandEffects.{performs_fault}
use Rattle.heap_commands.proofs.NewConses.{can_list, list_stays_fresh, list_performs, stays_leaves_at}
use Rattle.heap_commands.proofs.NewMarks.{list_marked, made_after}
use Rattle.heap_commands.proofs.SettledRegisters.{all_inside, few_items, settles_all, still_allocates}
use Rattle.heap_commands.proofs.conses.making.list.Goals as goal

pub make_list-requires : goal.make_list-requires
make_list-requires g c =
    let x = c.in_ok-settle_items.ensures in
    let s = settles_all _ _ _ _ _ _ c.requires.consistent x.represented x.preserves x.registers x.stays_fresh x.marks c.args.items.now c.as_slice.result.now c.as_slice.ensures.value x.fresh in
    let a = still_allocates _ _ _ _ _ _ c.requires.consistent x.represented x.preserves c.args.object.area c.args.object.level (3 * length c.args.items.now) c.requires.area c.requires.level c.requires.fits in
    let few = few_items _ _ c.as_slice.ensures.value c.as_slice.ensures.at_most in
    let inside = all_inside _ _ s.inside c.args.items.now c.requires.in_range in
    can_list _ _ c.settle_items.new.registers c.args.object.area c.args.object.level c.args.items.now c.requires.at_least few inside a.area_in a.level_in a.fits s.consistent

pub returns-clause-performs : goal.returns-clause-performs
returns-clause-performs g c =
    let x = c.in_ok-settle_items.ensures in
    let s = settles_all _ _ _ _ _ _ c.requires.consistent x.represented x.preserves x.registers x.stays_fresh x.marks c.args.items.now c.as_slice.result.now c.as_slice.ensures.value x.fresh in
    let a = still_allocates _ _ _ _ _ _ c.requires.consistent x.represented x.preserves c.args.object.area c.args.object.level (3 * length c.args.items.now) c.requires.area c.requires.level c.requires.fits in
    let few = few_items _ _ c.as_slice.ensures.value c.as_slice.ensures.at_most in
    let inside = all_inside _ _ s.inside c.args.items.now c.requires.in_range in
    let got = c.in_ok-at.ensures in
    performs_at_after _ _ _ _ _ _ _ _ _ _ _ c.args.object.area c.args.object.level s.leaves
    (list_performs (g.M.Memory.seen c.settle_items.new.ground.mem) c.settle_items.new.ground.table c.settle_items.new.registers c.args.object.area c.args.object.level c.args.items.now c.requires.at_least few inside a.area_in a.level_in a.fits (g.M.Memory.seen c.make_list.new.ground.mem) c.make_list.new.ground.table c.args.object.to c.in_ok-at.at c.list_at.result (s.inside _ c.requires.to) (ap (λ (w : Parts). w.content) c.list_at.ensures)
    got.stays_ground.preserves got.placed.placed got.stays_ground.stays_fresh got.stays_ground.marks s.settled got.made)

pub returns-clause-costs : goal.returns-clause-costs
returns-clause-costs g c =
    let more = placed_more _ _ c.args.object.area c.args.object.level c.in_ok-at.at (length c.args.items.now) (3 * length c.args.items.now) c.in_ok-at.ensures.placed.placed in
    let few = c.in_ok-settle_items.ensures.at_most in
    let count = ap length c.as_slice.ensures.value in
    record { tells = answers (quiet-twice (answered _ c.in_ok-settle_items.ensures.accounted) (answered _ c.in_ok-at.ensures.fault.accounted)); few = omega arith; cost = search rules }

pub returns-in_err-at-clause-performs : goal.returns-in_err-at-clause-performs
returns-in_err-at-clause-performs g c =
    let x = c.in_ok-settle_items.ensures in
    let s = settles_all _ _ _ _ _ _ c.requires.consistent x.represented x.preserves x.registers x.stays_fresh x.marks c.args.items.now c.as_slice.result.now c.as_slice.ensures.value x.fresh in
    let a = still_allocates _ _ _ _ _ _ c.requires.consistent x.represented x.preserves c.args.object.area c.args.object.level (3 * length c.args.items.now) c.requires.area c.requires.level c.requires.fits in
    let few = few_items _ _ c.as_slice.ensures.value c.as_slice.ensures.at_most in
    let inside = all_inside _ _ s.inside c.args.items.now c.requires.in_range in
    let p = err_from_is_err_and c.from_residual-in_err-at.result c.from_residual-in_err-at.ensures.1 in
    let got = c.in_err-at.ensures in
    let stays_fresh = list_stays_fresh (g.M.Memory.seen c.settle_items.new.ground.mem) c.settle_items.new.ground.table c.settle_items.new.registers c.args.object.area c.args.object.level c.args.items.now c.requires.at_least few inside a.area_in a.level_in a.fits (g.M.Memory.seen c.make_list.new.ground.mem) c.make_list.new.ground.table got.stays_ground.stays_fresh in
    rw p.1 (performs_at_after _ _ _ _ _ _ _ _ _ _ _ c.args.object.area c.args.object.level s.leaves
    (performs_at _ _ _ _ c.settle_items.new.registers c.settle_items.new.registers _ _ c.args.object.area c.args.object.level (performs_fault _ _ _ _ c.settle_items.new.registers c.settle_items.new.registers _ refl (stays_leaves_at _ _ _ _ c.settle_items.new.registers got.fault.fault got.stays_ground.preserves stays_fresh got.stays_ground.marks))))

pub returns-clause-cells : goal.returns-clause-cells
returns-clause-cells g c =
    let x = c.in_ok-settle_items.ensures in
    let s = settles_all _ _ _ _ _ _ c.requires.consistent x.represented x.preserves x.registers x.stays_fresh x.marks c.args.items.now c.as_slice.result.now c.as_slice.ensures.value x.fresh in
    let a = still_allocates _ _ _ _ _ _ c.requires.consistent x.represented x.preserves c.args.object.area c.args.object.level (3 * length c.args.items.now) c.requires.area c.requires.level c.requires.fits in
    let few = few_items _ _ c.as_slice.ensures.value c.as_slice.ensures.at_most in
    let inside = all_inside _ _ s.inside c.args.items.now c.requires.in_range in
    let got = c.in_ok-at.ensures in
    rw (get_or-set_same c.settle_items.new.registers c.args.object.to c.list_at.result null_word (s.inside _ c.requires.to))
    (record { at = c.in_ok-at.at; is = ap (λ (w : Parts). w.content) c.list_at.ensures; cells = λ i low. ap (λ (w : Parts). w.cdr) (got.words i low) })

pub returns-in_err-settle_items-clause-performs : goal.returns-in_err-settle_items-clause-performs
returns-in_err-settle_items-clause-performs g c =
    let p = err_from_is_err_and c.from_residual.result c.from_residual.ensures.1 in
    let x = c.in_err-settle_items.ensures in
    rw p.1 (performs_at _ _ _ _ c.args.registers.now c.settle_items.new.registers _ _ c.args.object.area c.args.object.level
    (performs_fault _ _ _ _ c.args.registers.now c.settle_items.new.registers _ refl (record { represented = x.represented; preserves = x.preserves; others = x.registers; stays_fresh = x.stays_fresh; marks = x.marks })))

pub returns-clause-unmarked : goal.returns-clause-unmarked
returns-clause-unmarked g c =
    let x = c.in_ok-settle_items.ensures in
    let s = settles_all _ _ _ _ _ _ c.requires.consistent x.represented x.preserves x.registers x.stays_fresh x.marks c.args.items.now c.as_slice.result.now c.as_slice.ensures.value x.fresh in
    let a = still_allocates _ _ _ _ _ _ c.requires.consistent x.represented x.preserves c.args.object.area c.args.object.level (3 * length c.args.items.now) c.requires.area c.requires.level c.requires.fits in
    let few = few_items _ _ c.as_slice.ensures.value c.as_slice.ensures.at_most in
    let inside = all_inside _ _ s.inside c.args.items.now c.requires.in_range in
    let can = can_list _ _ c.settle_items.new.registers c.args.object.area c.args.object.level c.args.items.now c.requires.at_least few inside a.area_in a.level_in a.fits s.consistent in
    let got = c.in_ok-at.ensures in
    rw (get_or-set_same c.settle_items.new.registers c.args.object.to c.list_at.result null_word (s.inside _ c.requires.to))
    (made_after (g.M.Memory.seen c.args.ground.now.mem) (g.M.Memory.seen c.settle_items.new.ground.mem) (g.M.Memory.seen c.make_list.new.ground.mem) c.args.ground.now.table c.settle_items.new.ground.table c.make_list.new.ground.table
    c.requires.consistent.represents.kept.ground s.consistent.represents.kept.ground x.marks got.stays_ground.marks.turns c.list_at.result (length c.args.items.now)
    (list_marked (g.M.Memory.seen c.settle_items.new.ground.mem) (g.M.Memory.seen c.make_list.new.ground.mem) c.settle_items.new.ground.table c.make_list.new.ground.table c.args.object.area c.args.object.level
    c.settle_items.new.registers c.args.items.now c.in_ok-at.at c.list_at.result can got.made got.placed.placed (ap (λ (w : Parts). w.content) c.list_at.ensures) got.words got.placed.unmarked))
