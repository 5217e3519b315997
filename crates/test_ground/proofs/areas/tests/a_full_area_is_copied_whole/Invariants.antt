use Rattle.mem_port.specs.Plain.{plain_store}
use Rattle.one_area.specs.OneArea.{IsOneArea}
use Rattle.test_ground.proofs.areas.tests.a_full_area_is_copied_whole.Given as goal

abbrev pub invariant-loop : goal.invariant-loop
invariant-loop g l = IsOneArea (plain_store l.area.ground.mem) l.area.ground.table l.area.live_words l.area.old_words l.area.moving

abbrev pub invariant-loop-2 : goal.invariant-loop-2
invariant-loop-2 g l = IsOneArea (plain_store l.area.ground.mem) l.area.ground.table l.area.live_words l.area.old_words l.area.moving

abbrev pub invariant-loop-3 : goal.invariant-loop-3
invariant-loop-3 g l = IsOneArea (plain_store l.area.ground.mem) l.area.ground.table l.area.live_words l.area.old_words l.area.moving
