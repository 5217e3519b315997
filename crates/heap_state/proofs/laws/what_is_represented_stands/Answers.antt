use Rattle.heap_state.proofs.MachineInvariant.{strong, represents_is_stands}
use Rattle.heap_state.proofs.laws.what_is_represented_stands.Goals as goal

pub returns-clause-sound : goal.returns-clause-sound
returns-clause-sound c = strong

pub returns-clause-stands : goal.returns-clause-stands
returns-clause-stands c = represents_is_stands
