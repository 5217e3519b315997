use Rattle.std.proofs.Common.{◌≡◌, ◌-◌, ◌≤◌, length}
use Rattle.mem_port.specs.View.{WithoutFault}
use Rattle.area_space.specs.View.{view}
use Rattle.heap_load.specs.Loading.{AreLinked, Drafted, Laid}
use Rattle.heap_load.proofs.drafts.make_drafts.Given as goal

-- the first objects are made
abbrev pub invariant-loop-made : goal.invariant-loop-made
invariant-loop-made g l = record {
  within : l.made ≤ length l.objects;
  linked : AreLinked l.objects l.made l.linked;
  drafted : Drafted (g.M.Memory.seen l.ground.mem) l.ground.table l.world l.places l.made;
  laid : Laid (g.M.Memory.seen l.ground.mem).words l.places l.world.objects l.made;
  regions : l.ground.table.regions ≡ l.fn.ground.table.regions;
  quiet : WithoutFault (view l.fn.ground).mem (view l.ground).mem l.fn.steps l.steps;
}

abbrev pub decreases-loop-made : goal.decreases-loop-made
decreases-loop-made g l = length l.objects - l.made
