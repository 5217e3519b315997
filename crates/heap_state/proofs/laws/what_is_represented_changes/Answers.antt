use Rattle.heap_state.proofs.StateChanges.{kept_register, represented_twice, read_on, register_set}
use Rattle.heap_state.proofs.laws.what_is_represented_changes.Goals as goal

pub returns : goal.returns
returns c = record { kept = kept_register; twice = represented_twice; read = read_on; register = register_set }
