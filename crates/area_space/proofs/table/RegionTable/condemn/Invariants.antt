use Rattle.area_space.proofs.table.RegionTable.condemn.Given as goal
use Rattle.area_space.specs.Flips.{IsFlipping}

abbrev pub invariant-loop-slot : goal.invariant-loop-slot
invariant-loop-slot l = IsFlipping l.fn.self l.self l.what l.slot
