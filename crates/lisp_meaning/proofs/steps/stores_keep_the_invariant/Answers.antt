use Rattle.lisp_meaning.proofs.invariant.Rewrites.{car_stored, cdr_stored, field_stored, resettled, cell_relaid, block_grown, live_level_is, grown_store}
use Rattle.lisp_meaning.proofs.steps.stores_keep_the_invariant.Goals as goal

pub returns : goal.returns
returns c = record { car = car_stored; cdr = cdr_stored; field = field_stored; same_value = resettled; cell_becomes_pair = cell_relaid; block_grows = block_grown; level = live_level_is; grown_store = grown_store }
