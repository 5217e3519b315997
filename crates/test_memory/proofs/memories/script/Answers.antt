use Rattle.mem_port.proofs.StoreLaws.{fresh_unused}
use Rattle.test_memory.proofs.memories.script.Goals as goal

pub set_level-requires-clause-free : goal.set_level-requires-clause-free
set_level-requires-clause-free g c = fresh_unused (g.M.Memory.seen c.args.mem.now) 5 2 4 c.requires.fresh
