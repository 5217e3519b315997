use Rattle.std.proofs.Common.{ℕ, ◌≡◌, ◌+◌, ◌<◌, ◌≤◌, length, take, get_or}
use Rattle.mem_port.specs.Store.{StoresNothing}
use Rattle.frame_pool.specs.Pool.{frames_of}
use Rattle.paged_memory.specs.Paging.{IsPaged, store_of, resident_of, size_of}
use Rattle.paged_memory.specs.Order.{UsesEach}
use Rattle.paged_memory.specs.Moves.{paging_of}
use Rattle.paged_memory.specs.Recent.{IsRecent}
use Rattle.paged_memory.proofs.memory.PagedMemoryMemory.hold.Given as goal

abbrev pub invariant-loop-page : goal.invariant-loop-page
invariant-loop-page g l = record {
  paged : IsPaged (paging_of l.self-inside.pager) (g.D.Swap.stored l.self-inside.swap);
  frames : l.self-inside.frames ≡ frames_of l.self-inside.pager.pool;
  buffer : length l.self-inside.buffer.items ≡ 256;
  size : size_of (paging_of l.self-inside.pager) ≡ size_of l.fn.self.0;
  stays : StoresNothing (store_of l.fn.self.0 (g.D.Swap.stored l.fn.self.1)) (store_of (paging_of l.self-inside.pager) (g.D.Swap.stored l.self-inside.swap));
  faults : g.D.Swap.faults l.self-inside.swap ≡ g.D.Swap.faults l.fn.self.1;
  taken : l.self-inside.taken.total ≡ l.fn.self.2 + length l.pages;
  room : length (resident_of l.fn.self.0) ≤ length (resident_of (paging_of l.self-inside.pager));
  uses : UsesEach l.fn.self.0 (g.D.Swap.calls l.fn.self.1) (paging_of l.self-inside.pager) (g.D.Swap.calls l.self-inside.swap) (take l.page-index l.pages);
  recent : (k : ℕ) → k < l.page-index → IsRecent l.page-index (resident_of (paging_of l.self-inside.pager)) (get_or l.pages k 0);
}
