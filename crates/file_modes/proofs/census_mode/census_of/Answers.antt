use Rattle.std.proofs.Common.{map}
use Rattle.std.proofs.lemmas.Result.{IfOk-weaker}
use Rattle.lisp_graph.specs.KeyedGraph.{keyed}
use Rattle.lisp_graph.specs.World.{opening}
use Rattle.why_held.specs.Reached.{counted_key}
use Rattle.file_modes.specs.Modes.{IsCensusText}
use Rattle.file_modes.proofs.ObjectCounts.{accepted_few}
use Rattle.why_held.proofs.Counts.{reached_part}
use Rattle.file_modes.proofs.census_mode.census_of.Goals as goal

pub census-requires : goal.census-requires
census-requires c = accepted_few c.args.world.now c.requires

pub census_text-requires : goal.census_text-requires
census_text-requires c =
    let some = c.in_ok-some.ensures in
    (map (counted_key (keyed (opening c.args.world.now))) some.keys, reached_part (opening c.args.world.now) some.keys c.in_ok-rows.rows c.in_ok-some.some c.requires.limits.graph some.reached c.in_ok-rows.ensures some.census)

pub returns : goal.returns
returns c =
    let some = c.in_ok-some.ensures in
    let part = reached_part (opening c.args.world.now) some.keys c.in_ok-rows.rows c.in_ok-some.some c.requires.limits.graph some.reached c.in_ok-rows.ensures some.census in
    IfOk-weaker c.census_text.result _ (IsCensusText c.args.world.now)
    (λ text told. record {
      rows = c.in_ok-rows.rows;
      all = c.in_ok-rows.ensures;
      keys = some.keys;
      reached = some.reached;
      is = told (map (counted_key (keyed (opening c.args.world.now))) some.keys) part;
    })
    c.census_text.ensures
