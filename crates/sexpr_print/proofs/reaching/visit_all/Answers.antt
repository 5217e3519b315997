use Rattle.std.proofs.Common.{refl, arith, ◌∙◌}
use Rattle.lisp_graph.specs.KeyedGraph.{keyed, keyed_value}
use Rattle.lisp_graph.specs.World.{opening}
use Rattle.world_text.specs.Numbering.{none}
use Rattle.sexpr_print.proofs.ReachedObjects.{visited_more}
use Rattle.sexpr_print.proofs.reaching.visit_all.Goals as goal

pub loop-value-init : goal.loop-value-init
loop-value-init c = (refl, none c.args.reached.now.names)

pub loop-value-preserved : goal.loop-value-preserved
loop-value-preserved c = (
  c.visit.ensures.unchanged ∙ c.loop-value.invariant.0,
  visited_more (keyed (opening c.args.world.now)) (keyed_value c.args.world.now.objects) c.args.values.now c.loop-value.value-index _ _ _ c.args.reached.now.names c.loop-value.reached.names c.visit.new.reached.names
      (omega arith) refl refl c.loop-value.invariant.1 c.in_ok-visit.ensures.value,
)
