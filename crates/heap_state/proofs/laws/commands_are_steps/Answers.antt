use Rattle.heap_state.proofs.AllocationTransitions.{allocation_is_step, fault_is_step}
use Rattle.heap_state.proofs.RemainingUnits.{at_last}
use Rattle.heap_state.proofs.Transitions.{performs_is_step}
use Rattle.heap_state.proofs.ReachableObjects.{reach_stays, steps_bear}
use Rattle.heap_state.proofs.laws.commands_are_steps.Goals as goal

pub returns-clause-performs : goal.returns-clause-performs
returns-clause-performs c = performs_is_step c.scans_go_on.ensures.stays_sound c.scans_go_on.ensures.units

pub returns-clause-made : goal.returns-clause-made
returns-clause-made c = allocation_is_step c.scans_go_on.ensures.stays_sound c.scans_go_on.ensures.units

pub returns-clause-fault : goal.returns-clause-fault
returns-clause-fault c = fault_is_step

pub returns-clause-last : goal.returns-clause-last
returns-clause-last c = at_last

pub returns-clause-preserves : goal.returns-clause-preserves
returns-clause-preserves c = reach_stays

pub returns-clause-represented : goal.returns-clause-represented
returns-clause-represented c = steps_bear
