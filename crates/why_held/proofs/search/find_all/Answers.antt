use Rattle.std.proofs.Common.{refl, arith}
use Rattle.why_held.proofs.SearchSteps.{finds_more, finds_none}
use Rattle.why_held.proofs.search.find_all.Goals as goal

pub loop-value-init : goal.loop-value-init
loop-value-init c = finds_none c.args.depth c.args.search.now

pub find-requires-clause-order : goal.find-requires-clause-order
find-requires-clause-order c = omega (arith, c.loop-value.invariant.counts, c.requires.order)

pub loop-value-preserved : goal.loop-value-preserved
loop-value-preserved c = finds_more c.args.depth c.args.values.now c.loop-value.value-index _ _ _ c.args.search.now c.loop-value.search c.find.new.search (omega arith) refl refl c.loop-value.invariant c.in_ok-find.ensures
