use Rattle.std.proofs.Common.{refl, ◌∙◌, arith}
use Rattle.world_text.specs.writing.Numbering.{fields_of}
use Rattle.world_text.proofs.writing_laws.Walks.{field_at, fields_long, visited_next, visited_none, visited_whole}
use Rattle.world_text.proofs.writing.dumped.dumped_fields.Goals as goal

pub loop-index-init : goal.loop-index-init
loop-index-init g c = (refl, refl, rw c.new-fields.ensures (visited_none (g.W.Walk.graph c.args.walk.now) c.args.visits.now c.requires.visits))

pub loop-index-preserved : goal.loop-index-preserved
loop-index-preserved g c =
    let G = g.W.Walk.graph c.args.walk.now in
    let before = g.W.Walk.graph c.loop-index.walk in
    let first = c.loop-index.invariant.0 in
    let second = c.field_of.ensures.unchanged ∙ first in (
      c.visit.ensures.unchanged ∙ second,
      omega (arith, c.in_ok-value.ensures.cause.quiet, c.in_ok-seen.ensures.cause.quiet, c.loop-index.invariant.1),
      visited_next before (g.W.Walk.graph c.field_of.new.self) G (fields_of G c.args.key) c.args.visits.now c.loop-index.visits c.visit.new.visits c.loop-index.fields c.push.new.self c.loop-index.index c.in_ok-seen.seen c.in_ok-value.value
          first second (field_at before G c.args.key c.loop-index.index c.in_ok-seen.seen first (omega arith) c.in_ok-seen.ensures.value)
          c.loop-index.invariant.2 c.in_ok-value.ensures.value c.in_ok-seen.ensures.shows c.in_ok-push.ensures.ok,
    )

pub returns-clause-value : goal.returns-clause-value
returns-clause-value g c =
    let G = g.W.Walk.graph c.args.walk.now in
    visited_whole G (fields_of G c.args.key) c.args.visits.now c.loop-index.visits c.loop-index.fields c.loop-index.index (omega (arith, fields_long G c.args.key)) c.loop-index.invariant.2
