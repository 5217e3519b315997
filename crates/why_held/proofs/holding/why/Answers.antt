use Rattle.lisp_graph.specs.World.{opening}
use Rattle.why_held.proofs.Chains.{levels_are_depths}
use Rattle.why_held.proofs.holding.why.Goals as goal

pub returns : goal.returns
returns c = record {
  held = c.in_ok-held.ensures.stays_held;
  chosen = c.in_ok-held.ensures.value;
  depths = levels_are_depths (opening c.args.world.now) c.in_ok-depths.depths c.in_ok-depths.ensures;
}
