use Rattle.std.proofs.Common.{◌<◌, length, refl, arith}
use Rattle.why_held.proofs.Checks.{within_at, within_more, within_none}
use Rattle.why_held.proofs.checking.are_within.Goals as goal

pub loop-value-init : goal.loop-value-init
loop-value-init c = within_none c.args.depths.now c.args.most

pub returns-then-not-is_within : goal.returns-then-not-is_within
returns-then-not-is_within c = (
  λ t. absurd cc,
  λ w. (
      let l : c.loop-value.value-index < length c.args.values.now = omega arith in
      let t = c.is_within.ensures.1 (within_at c.args.depths.now c.args.most c.args.values.now c.loop-value.value-index _ l w) in
      let f = c.if-not-is_within.true in
      absurd cc),
)

pub loop-value-preserved : goal.loop-value-preserved
loop-value-preserved c =
    within_more c.args.depths.now c.args.most c.args.values.now c.loop-value.value-index _ _ (omega arith) refl c.loop-value.invariant (c.is_within.ensures.0 c.if-not-is_within.false)
