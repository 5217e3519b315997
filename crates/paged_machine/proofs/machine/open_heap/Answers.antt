use Rattle.paged_machine.proofs.OpenableWorlds.{formed}
use Rattle.paged_machine.proofs.machine.open_heap.Goals as goal

pub open-requires-2-clause-sound : goal.open-requires-2-clause-sound
open-requires-2-clause-sound g c = formed c.args.world.now c.requires
