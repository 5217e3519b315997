use Rattle.std.proofs.Common.{refl, arith}
use Rattle.why_held.proofs.NearestObjects.{offered_more, offered_none}
use Rattle.why_held.proofs.nearest.offer_all.Goals as goal

pub loop-value-init : goal.loop-value-init
loop-value-init c = offered_none c.args.depths.now c.args.from c.args.nearest.now

pub loop-value-preserved : goal.loop-value-preserved
loop-value-preserved c =
    offered_more c.args.depths.now c.args.from c.args.values.now c.loop-value.value-index _ _ _ c.args.nearest.now c.loop-value.nearest c.offer.new.nearest (omega arith) refl refl c.loop-value.invariant c.offer.ensures
