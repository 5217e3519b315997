use Rattle.mem_port.proofs.StoreLaws.{fresh_unused}
use Rattle.test_memory.proofs.paging.give_levels.Goals as goal

pub set_level-requires-clause-free : goal.set_level-requires-clause-free
set_level-requires-clause-free g c = fresh_unused (g.M.Memory.seen c.args.mem.now) 8 2 4 c.requires

pub set_level-requires-2-clause-free : goal.set_level-requires-2-clause-free
set_level-requires-2-clause-free g c =
    let was = fresh_unused (g.M.Memory.seen c.args.mem.now) 8 2 5 c.requires in
    rw c.set_level.ensures.level record { null = was.null; unnamed = was.unnamed }
