use Rattle.std.proofs.Common.{◌≡◌, length}
use Rattle.mem_port.specs.View.{WithoutFault}
use Rattle.area_space.specs.View.{view}
use Rattle.heap_load.proofs.ObjectParts.{FieldsFilled}
use Rattle.heap_load.specs.Loading.{Laid}
use Rattle.heap_load.proofs.filling.fill_block.Given as goal

-- the first fields are stored
abbrev pub invariant-loop-i : goal.invariant-loop-i
invariant-loop-i g l = record {
  filled : FieldsFilled (g.M.Memory.seen l.ground.mem) l.ground.table l.world l.places l.number l.fields l.i;
  laid : Laid (g.M.Memory.seen l.ground.mem).words l.places l.world.objects (length l.world.objects);
  table : l.ground.table ≡ l.fn.ground.table;
  quiet : WithoutFault (view l.fn.ground).mem (view l.ground).mem l.fn.steps l.steps;
}
