use Rattle.std.proofs.Common.{rules}
use Rattle.outer_ports.proofs.Gains.{gave_more}
use Rattle.outer_ports.proofs.sinks.text.give_front.Goals as goal

pub loop-at-preserved : goal.loop-at-preserved
loop-at-preserved g c = (
  search rules,
  search rules,
  gave_more c.args.bytes.now c.loop-at.at c.in-Ok.count c.loop-at.invariant.2 c.in-Ok.ensures.written,
)
