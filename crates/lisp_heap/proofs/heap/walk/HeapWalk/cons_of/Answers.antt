use Rattle.lisp_heap.specs.HeapView.{counted}
use Rattle.lisp_heap.proofs.HeapWalks.{car_shows, cdr_shows, cons_is, cons_told, key_can, room_by_faults, same_graph, sound_after, stands_as_before}
use Rattle.lisp_heap.proofs.heap.walk.HeapWalk.cons_of.Goals as goal

pub read_cons-requires-clause-object : goal.read_cons-requires-clause-object
read_cons-requires-clause-object g c = key_can (g.M.Memory.seen c.self.inside.ground.mem) c.self.inside.ground.table c.self.inside.scan c.self.inside.registers.items c.self.inside.space (g.M.Memory.faults c.self.inside.ground.mem) (g.M.Memory.resident c.self.inside.ground.mem) (counted g.M.Memory c.self.inside.ground.mem) c.self.invariant c.args.self.now c.self.view_is c.args.key c.requires.0

pub read_cons-requires-clause-pair : goal.read_cons-requires-clause-pair
read_cons-requires-clause-pair g c = cons_told (g.M.Memory.seen c.self.inside.ground.mem) c.self.inside.ground.table c.self.inside.scan c.self.inside.registers.items c.self.inside.space (g.M.Memory.faults c.self.inside.ground.mem) (g.M.Memory.resident c.self.inside.ground.mem) (counted g.M.Memory c.self.inside.ground.mem) c.self.invariant c.args.self.now c.self.view_is c.args.key c.requires.0 c.requires.3

pub invariant_of-self : goal.invariant_of-self
invariant_of-self g c = sound_after (g.M.Memory.seen c.self.inside.ground.mem) c.self.inside.ground.table c.self.inside.scan c.self.inside.registers.items c.self.inside.space (g.M.Memory.faults c.self.inside.ground.mem) (g.M.Memory.resident c.self.inside.ground.mem) (counted g.M.Memory c.self.inside.ground.mem) c.self.invariant
    (g.M.Memory.seen c.read_cons.new.ground.mem) c.read_cons.new.ground.table (g.M.Memory.faults c.read_cons.new.ground.mem) (g.M.Memory.resident c.read_cons.new.ground.mem) (counted g.M.Memory c.read_cons.new.ground.mem) c.read_cons.ensures.unchanged c.read_cons.ensures.table c.read_cons.new.ground.sound.marked

pub returns-clause-value : goal.returns-clause-value
returns-clause-value g c = cons_is (g.M.Memory.seen c.self.inside.ground.mem) c.self.inside.ground.table c.self.inside.scan c.self.inside.registers.items c.self.inside.space (g.M.Memory.faults c.self.inside.ground.mem) (g.M.Memory.resident c.self.inside.ground.mem) (counted g.M.Memory c.self.inside.ground.mem) c.self.invariant c.args.self.now c.self.view_is c.args.key c.requires.0 c.read_cons.result c.read_cons.ensures.value

pub returns-clause-car : goal.returns-clause-car
returns-clause-car g c = car_shows (g.M.Memory.seen c.self.inside.ground.mem) c.self.inside.ground.table c.self.inside.scan c.self.inside.registers.items c.self.inside.space (g.M.Memory.faults c.self.inside.ground.mem) (g.M.Memory.resident c.self.inside.ground.mem) (counted g.M.Memory c.self.inside.ground.mem) c.self.invariant c.args.self.now c.self.view_is c.args.key c.requires.0 c.read_cons.result c.read_cons.ensures.value

pub returns-clause-cdr : goal.returns-clause-cdr
returns-clause-cdr g c = cdr_shows (g.M.Memory.seen c.self.inside.ground.mem) c.self.inside.ground.table c.self.inside.scan c.self.inside.registers.items c.self.inside.space (g.M.Memory.faults c.self.inside.ground.mem) (g.M.Memory.resident c.self.inside.ground.mem) (counted g.M.Memory c.self.inside.ground.mem) c.self.invariant c.args.self.now c.self.view_is c.args.key c.requires.0 c.read_cons.result c.read_cons.ensures.value

pub returns-clause-unchanged : goal.returns-clause-unchanged
returns-clause-unchanged g c = same_graph (g.M.Memory.seen c.self.inside.ground.mem) c.self.inside.ground.table c.self.inside.scan c.self.inside.registers.items c.self.inside.space (g.M.Memory.faults c.self.inside.ground.mem) (g.M.Memory.resident c.self.inside.ground.mem) (counted g.M.Memory c.self.inside.ground.mem) c.self.invariant c.args.self.now c.self.view_is
    (g.M.Memory.seen c.read_cons.new.ground.mem) c.read_cons.new.ground.table (g.M.Memory.faults c.read_cons.new.ground.mem) (g.M.Memory.resident c.read_cons.new.ground.mem) (counted g.M.Memory c.read_cons.new.ground.mem) c.read_cons.ensures.unchanged c.read_cons.ensures.table

pub returns-clause-stands : goal.returns-clause-stands
returns-clause-stands g c = stands_as_before (g.M.Memory.seen c.self.inside.ground.mem) c.self.inside.ground.table c.self.inside.scan c.self.inside.registers.items c.self.inside.space (g.M.Memory.faults c.self.inside.ground.mem) (g.M.Memory.resident c.self.inside.ground.mem) (counted g.M.Memory c.self.inside.ground.mem) c.self.invariant c.args.self.now c.self.view_is
    (g.M.Memory.seen c.read_cons.new.ground.mem) c.read_cons.new.ground.table (g.M.Memory.faults c.read_cons.new.ground.mem) (g.M.Memory.resident c.read_cons.new.ground.mem) (counted g.M.Memory c.read_cons.new.ground.mem) c.read_cons.ensures.unchanged c.read_cons.ensures.table c.read_cons.new.ground.sound.marked
    (room_by_faults _ _ _ _ c.read_cons.result c.read_cons.ensures.cause c.read_cons.ensures.room)
