use Rattle.std.proofs.Common.{sym}
use Rattle.paged_memory.specs.Moves.{paging_of}
use Rattle.paged_memory.proofs.FrameAccess.{frame_in}
use Rattle.paged_memory.proofs.Words.{page_in}
use Rattle.paged_memory.proofs.memory.PagedMemoryMemory.marked.Goals as goal

pub place_of-requires : goal.place_of-requires
place_of-requires g c = page_in (paging_of c.self.inside.pager) (g.D.Swap.stored c.self.inside.swap) c.args.page (rw (← c.self.view_is) at c.requires)

pub tagged-requires : goal.tagged-requires
tagged-requires g c = frame_in (paging_of c.self.inside.pager) (g.D.Swap.stored c.self.inside.swap) c.args.page c.in-InFrame.frame c.self.invariant.0 (sym c.in-InFrame.ensures.place)
