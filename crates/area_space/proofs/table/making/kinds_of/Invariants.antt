use Rattle.std.proofs.Common.{◌≡◌, map, take}
use Rattle.area_space.proofs.table.making.kinds_of.Given as goal

abbrev pub invariant-loop-i : goal.invariant-loop-i
invariant-loop-i l = l.kinds.items ≡ map (λ r. r.kind) (take l.i l.rules)
