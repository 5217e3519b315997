use Rattle.lisp_heap.specs.HeapView.{counted}
use Rattle.lisp_heap.proofs.HeapWalks.{register_can, register_is, register_shows, room_by_faults, same_graph, sound_after, stands_as_before}
use Rattle.lisp_heap.proofs.heap.walk.HeapWalk.value_of_register.Goals as goal

pub read_word-requires : goal.read_word-requires
read_word-requires g c = register_can (g.M.Memory.seen c.self.inside.ground.mem) c.self.inside.ground.table c.self.inside.scan c.self.inside.registers.items c.self.inside.space (g.M.Memory.faults c.self.inside.ground.mem) (g.M.Memory.resident c.self.inside.ground.mem) (counted g.M.Memory c.self.inside.ground.mem) c.self.invariant c.args.self.now c.self.view_is c.args.register c.requires c.index-word.result.now c.index-word.ensures

pub invariant_of-self : goal.invariant_of-self
invariant_of-self g c = sound_after (g.M.Memory.seen c.self.inside.ground.mem) c.self.inside.ground.table c.self.inside.scan c.self.inside.registers.items c.self.inside.space (g.M.Memory.faults c.self.inside.ground.mem) (g.M.Memory.resident c.self.inside.ground.mem) (counted g.M.Memory c.self.inside.ground.mem) c.self.invariant
    (g.M.Memory.seen c.read_word.new.ground.mem) c.read_word.new.ground.table (g.M.Memory.faults c.read_word.new.ground.mem) (g.M.Memory.resident c.read_word.new.ground.mem) (counted g.M.Memory c.read_word.new.ground.mem) c.read_word.ensures.unchanged c.read_word.ensures.table c.read_word.new.ground.sound.marked

pub returns-clause-value : goal.returns-clause-value
returns-clause-value g c = register_is (g.M.Memory.seen c.self.inside.ground.mem) c.self.inside.ground.table c.self.inside.scan c.self.inside.registers.items c.self.inside.space (g.M.Memory.faults c.self.inside.ground.mem) (g.M.Memory.resident c.self.inside.ground.mem) (counted g.M.Memory c.self.inside.ground.mem) c.self.invariant c.args.self.now c.self.view_is c.args.register c.requires c.index-word.result.now c.index-word.ensures c.read_word.result c.read_word.ensures.value

pub returns-clause-shows : goal.returns-clause-shows
returns-clause-shows g c = register_shows (g.M.Memory.seen c.self.inside.ground.mem) c.self.inside.ground.table c.self.inside.scan c.self.inside.registers.items c.self.inside.space (g.M.Memory.faults c.self.inside.ground.mem) (g.M.Memory.resident c.self.inside.ground.mem) (counted g.M.Memory c.self.inside.ground.mem) c.self.invariant c.args.self.now c.self.view_is c.args.register c.requires c.index-word.result.now c.index-word.ensures c.read_word.result c.read_word.ensures.value

pub returns-clause-unchanged : goal.returns-clause-unchanged
returns-clause-unchanged g c = same_graph (g.M.Memory.seen c.self.inside.ground.mem) c.self.inside.ground.table c.self.inside.scan c.self.inside.registers.items c.self.inside.space (g.M.Memory.faults c.self.inside.ground.mem) (g.M.Memory.resident c.self.inside.ground.mem) (counted g.M.Memory c.self.inside.ground.mem) c.self.invariant c.args.self.now c.self.view_is
    (g.M.Memory.seen c.read_word.new.ground.mem) c.read_word.new.ground.table (g.M.Memory.faults c.read_word.new.ground.mem) (g.M.Memory.resident c.read_word.new.ground.mem) (counted g.M.Memory c.read_word.new.ground.mem) c.read_word.ensures.unchanged c.read_word.ensures.table

pub returns-clause-stands : goal.returns-clause-stands
returns-clause-stands g c = stands_as_before (g.M.Memory.seen c.self.inside.ground.mem) c.self.inside.ground.table c.self.inside.scan c.self.inside.registers.items c.self.inside.space (g.M.Memory.faults c.self.inside.ground.mem) (g.M.Memory.resident c.self.inside.ground.mem) (counted g.M.Memory c.self.inside.ground.mem) c.self.invariant c.args.self.now c.self.view_is
    (g.M.Memory.seen c.read_word.new.ground.mem) c.read_word.new.ground.table (g.M.Memory.faults c.read_word.new.ground.mem) (g.M.Memory.resident c.read_word.new.ground.mem) (counted g.M.Memory c.read_word.new.ground.mem) c.read_word.ensures.unchanged c.read_word.ensures.table c.read_word.new.ground.sound.marked
    (room_by_faults _ _ _ _ c.read_word.result c.read_word.ensures.cause c.read_word.ensures.room)
