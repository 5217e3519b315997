use Rattle.std.proofs.Common.{◌≡◌, length}
use Rattle.mem_port.specs.View.{WithoutFault}
use Rattle.area_space.specs.View.{view}
use Rattle.heap_load.specs.Loading.{Filled, Laid}
use Rattle.heap_load.proofs.filling.fill_drafts.Given as goal

-- the first objects have their parts
abbrev pub invariant-loop-number : goal.invariant-loop-number
invariant-loop-number g l = record {
  filled : Filled (g.M.Memory.seen l.ground.mem) l.ground.table l.world l.places l.number;
  laid : Laid (g.M.Memory.seen l.ground.mem).words l.places l.world.objects (length l.world.objects);
  table : l.ground.table ≡ l.fn.ground.table;
  quiet : WithoutFault (view l.fn.ground).mem (view l.ground).mem l.fn.steps l.steps;
}
