use Rattle.std.proofs.Common.{ℕ, ◌/◌, List, length, get_or, ap, arith}
use Rattle.paged_memory.specs.Moves.{paging_of}
use Rattle.paged_memory.proofs.RegionLevels.{region_in}
use Rattle.paged_memory.proofs.Words.{inside_of}
use Rattle.paged_memory.proofs.memory.PagedMemoryMemory.level_of.Goals as goal

pub bounds-all-at : goal.bounds-all-at
bounds-all-at g c =
    let low = inside_of (paging_of c.self.inside.pager) (g.D.Swap.stored c.self.inside.swap) c.args.at (rw (← c.self.view_is) at c.requires) in
    let inside = region_in (paging_of c.self.inside.pager) (g.D.Swap.stored c.self.inside.swap) c.args.at c.self.invariant.0 low in
    omega (arith, inside, ap (λ (ls : List ℕ). length ls) c.all.ensures)

pub returns : goal.returns
returns g c = rw (← c.self.view_is) (ap (λ (ls : List ℕ). get_or ls (c.args.at / 4096) 0) c.all.ensures)
