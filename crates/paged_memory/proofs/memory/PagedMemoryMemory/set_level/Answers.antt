use Rattle.paged_memory.specs.Moves.{paging_of}
use Rattle.paged_memory.proofs.RegionLevels.{levels_keep}
use Rattle.paged_memory.proofs.memory.PagedMemoryMemory.set_level.Goals as goal

pub invariant_of-self : goal.invariant_of-self
invariant_of-self g c = (
  rw c.set.ensures (levels_keep (paging_of c.self.inside.pager) (g.D.Swap.stored c.self.inside.swap) c.args.region c.args.level c.self.invariant.0 (rw (← c.self.view_is) at c.requires.in_range) (rw (← c.self.view_is) at c.requires.at_most)
      (rw (← c.self.view_is) at c.requires.free)),
  c.self.invariant.1,
  c.self.invariant.2,
)
