use Rattle.std.proofs.Common.{ℕ, ◌≡◌, ◌*◌, List, length, ap, arith}
use Rattle.paged_memory.specs.Paging.{size_of}
use Rattle.paged_memory.specs.Moves.{paging_of}
use Rattle.paged_memory.proofs.FrameAccess.{store_sound}
use Rattle.paged_memory.proofs.Words.{swapped_read}
use Rattle.paged_memory.proofs.memory.PagedMemoryMemory.pages.Goals as goal

pub returns-clause-sound : goal.returns-clause-sound
returns-clause-sound g c =
    let r = c.self.invariant.0.regions in
    let n : length c.all.result.now * 16 ≡ size_of (paging_of c.self.inside.pager) = omega (arith, ap (λ (ls : List ℕ). length ls) c.all.ensures) in
    rw (← c.self.view_is) (store_sound (paging_of c.self.inside.pager) (g.D.Swap.stored c.self.inside.swap) _ c.self.invariant.0 n)

pub returns-clause-absent : goal.returns-clause-absent
returns-clause-absent g c =
    let r = c.self.invariant.0.regions in
    let n : length c.all.result.now * 16 ≡ size_of (paging_of c.self.inside.pager) = omega (arith, ap (λ (ls : List ℕ). length ls) c.all.ensures) in
    rw (← c.self.view_is) (λ at low e. swapped_read (paging_of c.self.inside.pager) (g.D.Swap.stored c.self.inside.swap) at c.self.invariant.0 (omega (arith, low, n)) e)
