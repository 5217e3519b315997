use Rattle.std.proofs.Common.{ap}
use Rattle.mem_port.proofs.StoreLaws.{fresh_memory}
use Rattle.area_space.specs.Table.{Table}
use Rattle.lisp_heap.specs.HeapView.{counted}
use Rattle.lisp_heap.proofs.OpenHeaps.{opened_sound, opened_stands}
use Rattle.lisp_heap.proofs.heap.Heap.open.Goals as goal

pub invariant_of-result-2 : goal.invariant_of-result-2
invariant_of-result-2 g c =
    let made = c.in-Ok.ensures in
    rw (made.table, made.idle, made.registers)
    (opened_sound (g.M.Memory.seen c.args.mem) _ c.args.space.now c.args.areas.now c.requires.sound c.requires.fresh (fresh_memory _ _ _ c.requires.sound.sizes.regions.1 c.requires.sound.sizes.levels.1 c.requires.fresh) (g.M.Memory.faults c.args.mem) (g.M.Memory.resident c.args.mem) (counted g.M.Memory c.args.mem))

pub returns-clause-stands : goal.returns-clause-stands
returns-clause-stands g c =
    let made = c.in-Ok.ensures in
    rw (made.table, made.idle, made.registers)
    (opened_stands (g.M.Memory.seen c.args.mem) _ c.args.space.now c.args.areas.now c.requires.sound c.requires.fresh (fresh_memory _ _ _ c.requires.sound.sizes.regions.1 c.requires.sound.sizes.levels.1 c.requires.fresh) (g.M.Memory.faults c.args.mem) (g.M.Memory.resident c.args.mem) (counted g.M.Memory c.args.mem))

pub returns-clause-value : goal.returns-clause-value
returns-clause-value g c = ap (λ (t : Table). t.kinds) c.in-Ok.ensures.table

pub invariant_of-result : goal.invariant_of-result
invariant_of-result g c = record { sound = fresh_memory _ _ _ c.requires.sound.sizes.regions.1 c.requires.sound.sizes.levels.1 c.requires.fresh }
