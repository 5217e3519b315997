use Rattle.std.proofs.Common.{◌≡◌, ◌+◌, ◌∙◌, ap, refl, arith}
use Rattle.lisp_graph.specs.KeyedGraph.{KeyedGraph}
use Rattle.world_text.specs.Numbering.{fields_from, fields_of}
use Rattle.why_held.proofs.ReachedKeys.{fields_more, meets_along, meets_more}
use Rattle.why_held.proofs.reach.meet_fields.Goals as goal

pub loop-index-preserved : goal.loop-index-preserved
loop-index-preserved g c =
    let G = g.W.Walk.graph c.args.walk.now in
    let first = c.loop-index.invariant.0 in
    let shows = rw first at c.in_ok-value.ensures.shows in
    let is = c.in_ok-value.ensures.value ∙ ap (λ (graph : KeyedGraph). graph.field c.args.key c.loop-index.index) first in (
      c.field_of.ensures.unchanged ∙ first,
      omega (arith, c.in_ok-value.ensures.cause.quiet, c.loop-index.invariant.1),
      c.in_ok-meet_value.ensures.stays_known G shows c.loop-index.invariant.2,
      meets_more (fields_from G c.args.key 0 c.loop-index.index) (fields_from G c.args.key 0 (c.loop-index.index + 1)) c.in_ok-value.value c.args.met.now c.loop-index.met c.meet_value.new.met
          (fields_more G c.args.key c.loop-index.index (c.loop-index.index + 1) c.in_ok-value.value is refl) c.loop-index.invariant.3 c.in_ok-meet_value.ensures.ok,
      omega (arith, c.loop-index-test.true, c.from.ensures),
    )

pub returns-clause-ok : goal.returns-clause-ok
returns-clause-ok g c =
    let G = g.W.Walk.graph c.args.walk.now in
    let all : c.loop-index.index ≡ (G.form c.args.key).length = omega (arith, c.loop-index-test.false, c.from.ensures, c.requires.agrees, c.loop-index.invariant.4) in
    meets_along (fields_from G c.args.key 0 c.loop-index.index) (fields_of G c.args.key) c.args.met.now c.loop-index.met (ap (fields_from G c.args.key 0) all) c.loop-index.invariant.3
