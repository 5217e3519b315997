use Rattle.paged_memory.specs.Moves.{paging_of}
use Rattle.paged_memory.proofs.NextPages.{resident_once}
use Rattle.paged_memory.proofs.paged.PagedMemory.frames.Goals as goal

pub returns-clause-sound : goal.returns-clause-sound
returns-clause-sound g c = rw (← c.self.view_is) (resident_once (paging_of c.self.inside.pager) _ c.self.invariant.0)
