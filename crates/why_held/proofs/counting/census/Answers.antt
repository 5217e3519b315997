use Rattle.std.proofs.Common.{◌<◌, ◌≤◌, ◌^◌, List, ap, sym, refl, ◌∙◌, subst, arith, length, map, take, length-take}
use Rattle.std.proofs.lemmas.List.{length-map, take_all}
use Rattle.lisp_graph.specs.Graph.{no_object}
use Rattle.lisp_graph.specs.declared.object.Object.{Object}
use Rattle.why_held.specs.declared.rows.Counted.{Counted}
use Rattle.why_held.specs.Census.{counted_object}
use Rattle.why_held.specs.Tallies.{AreTallies}
use Rattle.why_held.proofs.TallyRows.{counted_more, tallies_more, tallies_room}
use Rattle.why_held.proofs.counting.census.Goals as goal

pub count-requires : goal.count-requires
count-requires c =
    let objects = c.args.world.now.objects in
    let counted = map counted_object (take c.loop-name.name objects) in
    let few : length counted < 2 ^ 32 = omega (arith, length-map (take c.loop-name.name objects) counted_object, length-take c.loop-name.name objects, c.requires) in
    tallies_room counted c.loop-name.tallies c.loop-name.invariant c.counted_object.result.area c.counted_object.result.code few

pub loop-name-preserved : goal.loop-name-preserved
loop-name-preserved c =
    let objects = c.args.world.now.objects in
    let counted = map counted_object (take c.loop-name.name objects) in
    let within : c.loop-name.name < length objects = omega (arith, c.loop-name-test.true, c.len.ensures) in
    let grown = counted_more objects c.loop-name.name _ no_object c.counted_object.result within refl (c.counted_object.ensures ∙ ap counted_object c.at.ensures) in
    let P : List Counted → Type 0 = λ xs. AreTallies xs c.count.new.tallies in
    subst P (sym grown) (tallies_more counted c.loop-name.tallies c.loop-name.invariant c.counted_object.result c.count.new.tallies c.in_ok-count.ensures)

pub returns : goal.returns
returns c =
    let objects = c.args.world.now.objects in
    let past : length objects ≤ c.loop-name.name = omega (arith, c.loop-name-test.false, c.len.ensures) in
    let P : List Object → Type 0 = λ os. AreTallies (map counted_object os) c.loop-name.tallies in
    c.rows_of.ensures (map counted_object objects) (subst P (take_all c.loop-name.name objects past) c.loop-name.invariant)
