use Rattle.std.proofs.Common.{ℕ, ◌<◌}
use Rattle.area_space.specs.Table.{IsOld}
use Rattle.one_area.proofs.area.has_no_old.Given as goal

abbrev pub invariant-loop-region : goal.invariant-loop-region
invariant-loop-region l = (r : ℕ) → r < l.region → IsOld l.table r → ⊥
