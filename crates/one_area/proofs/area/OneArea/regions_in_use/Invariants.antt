use Rattle.std.proofs.Common.{◌≤◌}
use Rattle.one_area.proofs.area.OneArea.regions_in_use.Given as goal

abbrev pub invariant-loop-region : goal.invariant-loop-region
invariant-loop-region l = l.count ≤ l.region
