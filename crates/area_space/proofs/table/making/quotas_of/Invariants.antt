use Rattle.std.proofs.Common.{◌≡◌, map, take}
use Rattle.area_space.proofs.table.making.quotas_of.Given as goal

abbrev pub invariant-loop-i : goal.invariant-loop-i
invariant-loop-i l = l.quotas.items ≡ map (λ r. r.quota) (take l.i l.rules)
