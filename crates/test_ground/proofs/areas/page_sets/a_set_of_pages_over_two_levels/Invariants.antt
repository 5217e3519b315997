use Rattle.std.proofs.Common.{◌≡◌}
use Rattle.test_ground.proofs.areas.page_sets.a_set_of_pages_over_two_levels.Given as goal

abbrev pub invariant-loop-change : goal.invariant-loop-change
invariant-loop-change g l = l.set.count ≡ 16384
