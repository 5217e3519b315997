use Rattle.std.proofs.Common.{◌≡◌, ◌≤◌, ◌-◌, length, drop}
use Rattle.mem_port.specs.Store.{StoresNothing}
use Rattle.frame_pool.specs.Pool.{frames_of}
use Rattle.paged_memory.specs.Paging.{IsPaged, store_of, resident_of}
use Rattle.outer_ports.specs.Pages.{with_writes}
use Rattle.paged_memory.specs.Order.{Evicts}
use Rattle.paged_memory.specs.Moves.{paging_of}
use Rattle.paged_memory.proofs.memory.PagedMemoryMemory.evict_oldest.Given as goal

abbrev pub invariant-loop-evicted : goal.invariant-loop-evicted
invariant-loop-evicted g l = record {
  paged : IsPaged (paging_of l.self-inside.pager) (g.D.Swap.stored l.self-inside.swap);
  frames : l.self-inside.frames ≡ frames_of l.self-inside.pager.pool;
  buffer : length l.self-inside.buffer.items ≡ 256;
  stays : StoresNothing (store_of l.fn.self.0 (g.D.Swap.stored l.fn.self.1)) (store_of (paging_of l.self-inside.pager) (g.D.Swap.stored l.self-inside.swap));
  faults : g.D.Swap.faults l.self-inside.swap ≡ g.D.Swap.faults l.fn.self.1;
  taken : l.self-inside.taken.total ≡ l.fn.self.2;
  few : l.evicted ≤ l.count;
  some : l.evicted ≤ length (resident_of l.fn.self.0);
  order : resident_of (paging_of l.self-inside.pager) ≡ drop l.evicted (resident_of l.fn.self.0);
  calls : g.D.Swap.calls l.self-inside.swap ≡ with_writes l.evicted (g.D.Swap.calls l.fn.self.1);
  out : Evicts l.fn.self.0 (paging_of l.self-inside.pager);
}

abbrev pub decreases-loop-evicted : goal.decreases-loop-evicted
decreases-loop-evicted g l = l.count - l.evicted
