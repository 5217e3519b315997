use Rattle.std.proofs.Common.{refl, arith}
use Rattle.heap_load.proofs.ObjectParts.{filled_none}
use Rattle.heap_load.proofs.filling.fill_drafts.Goals as goal

pub loop-number-init : goal.loop-number-init
loop-number-init g c = record {
  filled = filled_none _ _ c.args.world.now c.args.places.now c.requires.made;
  laid = c.requires.laid;
  table = refl;
  quiet = record { faults = refl; honest = refl; room = omega arith; sound = λ before. before };
}
