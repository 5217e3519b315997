use Rattle.area_space.proofs.table.RegionTable.free_old.Given as goal
use Rattle.area_space.specs.Frees.{IsReclaiming}

abbrev pub invariant-loop-slot : goal.invariant-loop-slot
invariant-loop-slot l = IsReclaiming l.fn.self l.self l.slot
