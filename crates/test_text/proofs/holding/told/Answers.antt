use Rattle.std.proofs.Common.{map, subst}
use Rattle.lisp_graph.specs.Graph.{Graph}
use Rattle.lisp_graph.specs.KeyedGraph.{keyed}
use Rattle.lisp_graph.specs.World.{opening}
use Rattle.why_held.specs.Reached.{IsReachedCensus, counted_key}
use Rattle.why_held.proofs.Counts.{reached_part}
use Rattle.test_text.proofs.holding.told.Goals as goal

pub census_text-requires : goal.census_text-requires
census_text-requires c =
    let P : Graph → Type 0 = λ graph. IsReachedCensus (keyed graph) c.in_ok-some.some in
    let some = subst P c.new-walk.ensures c.in_ok-some.ensures.value in
    (map (counted_key (keyed (opening c.args.world))) some.keys, reached_part (opening c.args.world) some.keys c.in_ok-rows.rows c.in_ok-some.some c.requires.accepted.limits.graph some.reached c.in_ok-rows.ensures some.census)
