use Rattle.mem_port.proofs.StoreLaws.{fresh_unused}
use Rattle.mem_port.proofs.memory.fresh_regions_are_unused.Goals as goal

pub returns : goal.returns
returns c = fresh_unused
