use Rattle.std.proofs.Common.{[], ◌∷◌}
use Rattle.why_held.proofs.NearestObjects.{offered_append}
use Rattle.why_held.proofs.nearest.offer_parts.Goals as goal

pub returns-in-Cons : goal.returns-in-Cons
returns-in-Cons c =
    rw c.in-Cons.is (offered_append c.args.depths.now c.args.from (c.in-Cons.car ∷ []) (c.in-Cons.cdr ∷ []) c.args.nearest.now c.offer.new.nearest c.offer-in-Cons.new.nearest c.offer.ensures c.offer-in-Cons.ensures)
