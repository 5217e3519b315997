use Rattle.std.proofs.Common.{sym, ◌∙◌}
use Rattle.lisp_graph.specs.World.{opening}
use Rattle.why_held.proofs.Chains.{free_at}
use Rattle.why_held.proofs.holding.held_of.Goals as goal

pub returns-in-None-clause-stays_held : goal.returns-in-None-clause-stays_held
returns-in-None-clause-stays_held c = free_at (opening c.args.world.now) c.args.depths.now c.requires.levels.bounds c.args.object (sym c.depth_at.ensures ∙ c.in-None.is)
