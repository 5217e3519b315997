use Rattle.lisp_heap.specs.HeapView.{counted}
use Rattle.lisp_heap.proofs.HeapWalks.{form_is, key_can, room_by_faults, same_graph, sound_after, stands_as_before}
use Rattle.lisp_heap.proofs.heap.walk.HeapWalk.form_of.Goals as goal

pub read_form-requires : goal.read_form-requires
read_form-requires g c = key_can (g.M.Memory.seen c.self.inside.ground.mem) c.self.inside.ground.table c.self.inside.scan c.self.inside.registers.items c.self.inside.space (g.M.Memory.faults c.self.inside.ground.mem) (g.M.Memory.resident c.self.inside.ground.mem) (counted g.M.Memory c.self.inside.ground.mem) c.self.invariant c.args.self.now c.self.view_is c.args.key c.requires

pub invariant_of-self : goal.invariant_of-self
invariant_of-self g c = sound_after (g.M.Memory.seen c.self.inside.ground.mem) c.self.inside.ground.table c.self.inside.scan c.self.inside.registers.items c.self.inside.space (g.M.Memory.faults c.self.inside.ground.mem) (g.M.Memory.resident c.self.inside.ground.mem) (counted g.M.Memory c.self.inside.ground.mem) c.self.invariant
    (g.M.Memory.seen c.read_form.new.ground.mem) c.read_form.new.ground.table (g.M.Memory.faults c.read_form.new.ground.mem) (g.M.Memory.resident c.read_form.new.ground.mem) (counted g.M.Memory c.read_form.new.ground.mem) c.read_form.ensures.unchanged c.read_form.ensures.table c.read_form.new.ground.sound.marked

pub returns-clause-value : goal.returns-clause-value
returns-clause-value g c = form_is (g.M.Memory.seen c.self.inside.ground.mem) c.self.inside.ground.table c.self.inside.scan c.self.inside.registers.items c.self.inside.space (g.M.Memory.faults c.self.inside.ground.mem) (g.M.Memory.resident c.self.inside.ground.mem) (counted g.M.Memory c.self.inside.ground.mem) c.self.invariant c.args.self.now c.self.view_is c.args.key c.requires c.read_form.result c.read_form.ensures.value

pub returns-clause-unchanged : goal.returns-clause-unchanged
returns-clause-unchanged g c = same_graph (g.M.Memory.seen c.self.inside.ground.mem) c.self.inside.ground.table c.self.inside.scan c.self.inside.registers.items c.self.inside.space (g.M.Memory.faults c.self.inside.ground.mem) (g.M.Memory.resident c.self.inside.ground.mem) (counted g.M.Memory c.self.inside.ground.mem) c.self.invariant c.args.self.now c.self.view_is
    (g.M.Memory.seen c.read_form.new.ground.mem) c.read_form.new.ground.table (g.M.Memory.faults c.read_form.new.ground.mem) (g.M.Memory.resident c.read_form.new.ground.mem) (counted g.M.Memory c.read_form.new.ground.mem) c.read_form.ensures.unchanged c.read_form.ensures.table

pub returns-clause-stands : goal.returns-clause-stands
returns-clause-stands g c = stands_as_before (g.M.Memory.seen c.self.inside.ground.mem) c.self.inside.ground.table c.self.inside.scan c.self.inside.registers.items c.self.inside.space (g.M.Memory.faults c.self.inside.ground.mem) (g.M.Memory.resident c.self.inside.ground.mem) (counted g.M.Memory c.self.inside.ground.mem) c.self.invariant c.args.self.now c.self.view_is
    (g.M.Memory.seen c.read_form.new.ground.mem) c.read_form.new.ground.table (g.M.Memory.faults c.read_form.new.ground.mem) (g.M.Memory.resident c.read_form.new.ground.mem) (counted g.M.Memory c.read_form.new.ground.mem) c.read_form.ensures.unchanged c.read_form.ensures.table c.read_form.new.ground.sound.marked
    (room_by_faults _ _ _ _ c.read_form.result c.read_form.ensures.cause c.read_form.ensures.room)
