use Rattle.std.proofs.Common.{List, subst}
use Rattle.store_word.specs.Words.{Parts}
use Rattle.obj_layout.specs.Forwards.{Final}
use Rattle.heap_state.proofs.WordValues.{same_place}
use Rattle.heap_state.proofs.compare.is_same_place.Goals as goal

pub returns-clause-value : goal.returns-clause-value
returns-clause-value g c =
    let right = subst (λ (ws : List Parts). Final ws c.args.right c.in_ok-b.b) c.in_ok-a.ensures.unchanged.words c.in_ok-b.ensures.value in
    same_place _ _ _ _ _ c.in_ok-a.ensures.value right
