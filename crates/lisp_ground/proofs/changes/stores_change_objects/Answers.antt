use Rattle.lisp_ground.proofs.invariant.Stores.{car_stored_on, cdr_stored_on, field_stored_on, resettled_on}
use Rattle.lisp_ground.proofs.changes.stores_change_objects.Goals as goal

pub returns : goal.returns
returns c = record { car = car_stored_on; cdr = cdr_stored_on; field = field_stored_on; same_value = resettled_on }
