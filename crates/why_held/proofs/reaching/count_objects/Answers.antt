use Rattle.std.proofs.Common.{◌<◌, ◌^◌, ◌∙◌, List, sym, refl, subst, arith, length, map, take, length-take}
use Rattle.std.proofs.lemmas.List.{length-map}
use Rattle.lisp_graph.specs.KeyedGraph.{KeyedGraph}
use Rattle.world_text.specs.Numbering.{fields_of}
use Rattle.world_text.proofs.writing_laws.Visits.{known_same}
use Rattle.why_held.specs.declared.rows.Counted.{Counted}
use Rattle.why_held.specs.Reached.{Meets, counted_key}
use Rattle.why_held.specs.Tallies.{AreTallies, Counts, HasRoom, tally_in}
use Rattle.why_held.proofs.ReachedKeys.{counted_next, reaching_last, reaching_next}
use Rattle.why_held.proofs.TallyRows.{tallies_more, tallies_room}
use Rattle.why_held.proofs.reaching.count_objects.Goals as goal

pub count_object-requires-clause-room : goal.count_object-requires-clause-room
count_object-requires-clause-room g c =
    let G = g.W.Walk.graph c.args.walk.now in
    let counted = map (counted_key G) (take c.loop-key.number c.loop-key.met.keys) in
    let few : length counted < 2 ^ 32 = omega (arith, length-map (take c.loop-key.number c.loop-key.met.keys) (counted_key G), length-take c.loop-key.number c.loop-key.met.keys, c.in-Some.ensures.in_range) in
    let P : KeyedGraph → Type 0 = λ graph. HasRoom (tally_in c.loop-key.tallies (counted_key graph c.in-Some.key).area (counted_key graph c.in-Some.key).code) in
    subst P (sym c.loop-key.invariant.0) (tallies_room counted c.loop-key.tallies c.loop-key.invariant.4 (counted_key G c.in-Some.key).area (counted_key G c.in-Some.key).code few)

pub loop-key-preserved : goal.loop-key-preserved
loop-key-preserved g c =
    let G = g.W.Walk.graph c.args.walk.now in
    let first = c.loop-key.invariant.0 in
    let is = sym c.key.ensures.value ∙ c.in-Some.is in
    let meets = (let P : KeyedGraph → Type 0 = λ graph. Meets (fields_of graph c.in-Some.key) c.loop-key.met c.count_object.new.met in subst P first c.in_ok-count_object.ensures.ok) in
    let counts = (let P : KeyedGraph → Type 0 = λ graph. Counts (counted_key graph c.in-Some.key) c.loop-key.tallies c.count_object.new.tallies in subst P first c.in_ok-count_object.ensures.count) in
    let counted = map (counted_key G) (take c.loop-key.number c.loop-key.met.keys) in
    let P : List Counted → Type 0 = λ xs. AreTallies xs c.count_object.new.tallies in (
      c.count_object.ensures.unchanged ∙ first,
      omega (arith, c.in_ok-count_object.ensures.cause.quiet, c.loop-key.invariant.1),
      known_same (g.W.Walk.graph c.loop-key.walk) G c.count_object.new.met first c.in_ok-count_object.ensures.stays_known,
      reaching_next G c.loop-key.number c.in-Some.key _ c.loop-key.met c.count_object.new.met c.loop-key.invariant.3 is meets refl,
      subst P (sym (counted_next G c.loop-key.number c.in-Some.key _ c.loop-key.met c.count_object.new.met c.loop-key.invariant.3 is meets refl))
          (tallies_more counted c.loop-key.tallies c.loop-key.invariant.4 (counted_key G c.in-Some.key) c.count_object.new.tallies counts),
    )

pub returns-clause-sound : goal.returns-clause-sound
returns-clause-sound g c = reaching_last (g.W.Walk.graph c.args.walk.now) c.loop-key.number c.loop-key.met c.loop-key.invariant.3 c.in_default.ensures.none
