use Rattle.std.proofs.Common.{rules}
use Rattle.line_input.proofs.LineFeeds.{shifted, shifted_rest}
use Rattle.line_input.proofs.lines.buffer.shift.Goals as goal

pub loop-at-preserved : goal.loop-at-preserved
loop-at-preserved c = (
  shifted c.loop-at.buffer c.args.buffer.now c.args.start c.loop-at.at (search rules) (search rules) c.loop-at.invariant.0 c.loop-at.invariant.1,
  shifted_rest c.loop-at.buffer c.args.buffer.now c.args.start c.loop-at.at _ c.loop-at.invariant.1,
)
