use Rattle.std.proofs.Common.{length}
use Rattle.area_space.proofs.table.RegionTable.free_slot.Given as goal
use Rattle.area_space.specs.Frees.{IsFreeing}
use Rattle.area_space.specs.Table.{chain, stale}

abbrev pub invariant-loop-region : goal.invariant-loop-region
invariant-loop-region l = IsFreeing l.fn.self l.self l.slot

abbrev pub decreases-loop-region : goal.decreases-loop-region
decreases-loop-region l = length (chain l.self (stale l.slot))
