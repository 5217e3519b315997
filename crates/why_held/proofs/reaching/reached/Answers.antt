use Rattle.std.proofs.Common.{sym, subst, map}
use Rattle.lisp_graph.specs.KeyedGraph.{KeyedGraph}
use Rattle.why_held.specs.Reached.{AreReached, IsReaching, counted_key}
use Rattle.why_held.specs.Tallies.{AreTallies}
use Rattle.why_held.proofs.ReachedKeys.{reaching_first}
use Rattle.why_held.proofs.reaching.reached.Goals as goal

pub count_objects-requires-clause-fresh : goal.count_objects-requires-clause-fresh
count_objects-requires-clause-fresh g c =
    let P : KeyedGraph → Type 0 = λ graph. IsReaching graph 0 c.meet_registers.new.met in
    subst P (sym c.meet_registers.ensures.unchanged) (reaching_first (g.W.Walk.graph c.args.walk.now) c.new-met.result c.meet_registers.new.met c.new-met.ensures.empty c.in_ok-meet_registers.ensures.ok)

pub returns-clause-value : goal.returns-clause-value
returns-clause-value g c =
    let G = g.W.Walk.graph c.args.walk.now in
    let P : KeyedGraph → Type 0 = λ graph. AreReached graph c.count_objects.new.met.keys in
    let Q : KeyedGraph → Type 0 = λ graph. AreTallies (map (counted_key graph) c.count_objects.new.met.keys) c.count_objects.new.tallies in
    record {
      keys = c.count_objects.new.met.keys;
      reached = subst P c.meet_registers.ensures.unchanged c.in_ok-count_objects.ensures.sound;
      census = c.in_ok-rows.ensures (map (counted_key G) c.count_objects.new.met.keys) (subst Q c.meet_registers.ensures.unchanged c.in_ok-count_objects.ensures.after);
    }
