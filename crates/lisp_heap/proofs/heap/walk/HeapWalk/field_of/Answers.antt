use Rattle.lisp_heap.specs.HeapView.{counted}
use Rattle.lisp_heap.proofs.HeapWalks.{field_is, field_shows, field_within, key_can, room_by_faults, same_graph, sound_after, stands_as_before}
use Rattle.lisp_heap.proofs.heap.walk.HeapWalk.field_of.Goals as goal

pub read_field-requires-clause-object : goal.read_field-requires-clause-object
read_field-requires-clause-object g c = key_can (g.M.Memory.seen c.self.inside.ground.mem) c.self.inside.ground.table c.self.inside.scan c.self.inside.registers.items c.self.inside.space (g.M.Memory.faults c.self.inside.ground.mem) (g.M.Memory.resident c.self.inside.ground.mem) (counted g.M.Memory c.self.inside.ground.mem) c.self.invariant c.args.self.now c.self.view_is c.args.key c.requires.object

pub read_field-requires-clause-in_range : goal.read_field-requires-clause-in_range
read_field-requires-clause-in_range g c = field_within (g.M.Memory.seen c.self.inside.ground.mem) c.self.inside.ground.table c.self.inside.scan c.self.inside.registers.items c.self.inside.space (g.M.Memory.faults c.self.inside.ground.mem) (g.M.Memory.resident c.self.inside.ground.mem) (counted g.M.Memory c.self.inside.ground.mem) c.self.invariant c.args.self.now c.self.view_is c.args.key c.requires.object c.args.index c.requires.in_range

pub invariant_of-self : goal.invariant_of-self
invariant_of-self g c = sound_after (g.M.Memory.seen c.self.inside.ground.mem) c.self.inside.ground.table c.self.inside.scan c.self.inside.registers.items c.self.inside.space (g.M.Memory.faults c.self.inside.ground.mem) (g.M.Memory.resident c.self.inside.ground.mem) (counted g.M.Memory c.self.inside.ground.mem) c.self.invariant
    (g.M.Memory.seen c.read_field.new.ground.mem) c.read_field.new.ground.table (g.M.Memory.faults c.read_field.new.ground.mem) (g.M.Memory.resident c.read_field.new.ground.mem) (counted g.M.Memory c.read_field.new.ground.mem) c.read_field.ensures.unchanged c.read_field.ensures.table c.read_field.new.ground.sound.marked

pub returns-clause-value : goal.returns-clause-value
returns-clause-value g c = field_is (g.M.Memory.seen c.self.inside.ground.mem) c.self.inside.ground.table c.self.inside.scan c.self.inside.registers.items c.self.inside.space (g.M.Memory.faults c.self.inside.ground.mem) (g.M.Memory.resident c.self.inside.ground.mem) (counted g.M.Memory c.self.inside.ground.mem) c.self.invariant c.args.self.now c.self.view_is c.args.key c.requires.object c.args.index c.read_field.result c.read_field.ensures.value

pub returns-clause-shows : goal.returns-clause-shows
returns-clause-shows g c = field_shows (g.M.Memory.seen c.self.inside.ground.mem) c.self.inside.ground.table c.self.inside.scan c.self.inside.registers.items c.self.inside.space (g.M.Memory.faults c.self.inside.ground.mem) (g.M.Memory.resident c.self.inside.ground.mem) (counted g.M.Memory c.self.inside.ground.mem) c.self.invariant c.args.self.now c.self.view_is c.args.key c.requires.object c.args.index c.read_field.result c.read_field.ensures.value

pub returns-clause-unchanged : goal.returns-clause-unchanged
returns-clause-unchanged g c = same_graph (g.M.Memory.seen c.self.inside.ground.mem) c.self.inside.ground.table c.self.inside.scan c.self.inside.registers.items c.self.inside.space (g.M.Memory.faults c.self.inside.ground.mem) (g.M.Memory.resident c.self.inside.ground.mem) (counted g.M.Memory c.self.inside.ground.mem) c.self.invariant c.args.self.now c.self.view_is
    (g.M.Memory.seen c.read_field.new.ground.mem) c.read_field.new.ground.table (g.M.Memory.faults c.read_field.new.ground.mem) (g.M.Memory.resident c.read_field.new.ground.mem) (counted g.M.Memory c.read_field.new.ground.mem) c.read_field.ensures.unchanged c.read_field.ensures.table

pub returns-clause-stands : goal.returns-clause-stands
returns-clause-stands g c = stands_as_before (g.M.Memory.seen c.self.inside.ground.mem) c.self.inside.ground.table c.self.inside.scan c.self.inside.registers.items c.self.inside.space (g.M.Memory.faults c.self.inside.ground.mem) (g.M.Memory.resident c.self.inside.ground.mem) (counted g.M.Memory c.self.inside.ground.mem) c.self.invariant c.args.self.now c.self.view_is
    (g.M.Memory.seen c.read_field.new.ground.mem) c.read_field.new.ground.table (g.M.Memory.faults c.read_field.new.ground.mem) (g.M.Memory.resident c.read_field.new.ground.mem) (counted g.M.Memory c.read_field.new.ground.mem) c.read_field.ensures.unchanged c.read_field.ensures.table c.read_field.new.ground.sound.marked
    (room_by_faults _ _ _ _ c.read_field.result c.read_field.ensures.cause c.read_field.ensures.room)
