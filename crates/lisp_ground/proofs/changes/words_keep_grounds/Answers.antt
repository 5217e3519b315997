use Rattle.lisp_ground.proofs.words.Values.{value_names_used}
use Rattle.lisp_ground.proofs.invariant.WordStores.{kept_on_same, stores_at, stored_on}
use Rattle.lisp_ground.proofs.changes.words_keep_grounds.Goals as goal

pub returns : goal.returns
returns c = record { reads = kept_on_same; stores = record { stored = stores_at; kept = stored_on }; named = value_names_used }
