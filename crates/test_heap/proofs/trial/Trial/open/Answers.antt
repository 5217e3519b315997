use Rattle.paged_machine.proofs.OpenableWorlds.{formed}
use Rattle.test_heap.proofs.trial.Trial.open.Goals as goal

pub open-requires-clause-sound : goal.open-requires-clause-sound
open-requires-clause-sound g c = formed c.args.world.now c.requires.accepted
