use Rattle.mem_port.specs.Plain.{plain_store}
use Rattle.one_area.specs.OneArea.{IsOneArea}
use Rattle.test_ground.proofs.areas.tests.places_at_the_end_of_a_region.Given as goal

abbrev pub invariant-loop-words : goal.invariant-loop-words
invariant-loop-words g l = IsOneArea (plain_store l.area.ground.mem) l.area.ground.table l.area.live_words l.area.old_words l.area.moving
