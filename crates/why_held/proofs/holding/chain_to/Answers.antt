use Rattle.std.proofs.Common.{◌≡◌, ◌∙◌, ◌+◌, ◌-◌, ℕ, suc, Some, List, refl, sym, ap, subst, length, arith}
use Rattle.std.proofs.lemmas.List.{length-replicate}
use Rattle.lisp_graph.specs.declared.object.Value.{Value}
use Rattle.lisp_graph.specs.declared.object.Value.TheVariants.{Ref}
use Rattle.lisp_graph.specs.declared.object.Body.{Body}
use Rattle.lisp_graph.specs.Graph.{body_refers, is_ref, object_at, refers_in, value_at}
use Rattle.lisp_graph.specs.World.{opening}
use Rattle.why_held.specs.Chains.{depth_at, register_value}
use Rattle.why_held.specs.Choice.{IsFirst, IsFirstPart, place_of}
use Rattle.why_held.proofs.Levels.{depth_below, padded}
use Rattle.why_held.proofs.ChosenChain.{Ending, ending_first, ending_last, ending_more, nearest_is, nearest_some}
use Rattle.why_held.proofs.holding.chain_to.Goals as goal

pub loop-place-init : goal.loop-place-init
loop-place-init c =
    let size : length c.pad.new.self ≡ c.args.depth + 1 =
    ap length (padded (c.args.depth + 1) (c.args.depth + 1) _ c.new-hops.result c.pad.new.self c.in_ok-pad.ensures.ok c.new-hops.ensures refl) ∙ length-replicate (c.args.depth + 1) _ in (
      refl,
      c.in_ok-found.ensures,
      ending_first (opening c.args.world.now) c.args.depths.now c.requires.levels c.args.object c.args.depth c.pad.new.self size c.requires.agrees,
    )

pub found_for-from-requires-clause-in_range : goal.found_for-from-requires-clause-in_range
found_for-from-requires-clause-in_range c =
    let l = depth_below c.args.depths.now c.loop-place.to c.loop-place.place c.loop-place.invariant.2.deep in
    omega (arith, l, c.requires.levels.each, c.loop-place.invariant.1.size)

pub found_for-from-requires-clause-at_least : goal.found_for-from-requires-clause-at_least
found_for-from-requires-clause-at_least c =
    let deep : depth_at c.args.depths.now c.loop-place.to ≡ Some (suc (c.loop-place.place - 1)) =
    c.loop-place.invariant.2.deep ∙ (let e : c.loop-place.place ≡ suc (c.loop-place.place - 1) = omega (arith, c.loop-place-test.true) in ap Some e) in
    nearest_some (opening c.args.world.now) c.args.depths.now c.requires.levels c.args.depth c.in_ok-found.found c.loop-place.invariant.1 c.loop-place.to (c.loop-place.place - 1) deep (omega (arith, c.loop-place-test.true, c.loop-place.invariant.2.within))

pub body-requires : goal.body-requires
body-requires c =
    let deep : depth_at c.args.depths.now c.loop-place.to ≡ Some (suc (c.loop-place.place - 1)) =
    c.loop-place.invariant.2.deep ∙ (let e : c.loop-place.place ≡ suc (c.loop-place.place - 1) = omega (arith, c.loop-place-test.true) in ap Some e) in
    let n = nearest_is (opening c.args.world.now) c.args.depths.now c.requires.levels c.args.depth c.in_ok-found.found c.loop-place.invariant.1 c.loop-place.to c.found_for-from.result (c.loop-place.place - 1) deep (omega (arith, c.loop-place-test.true, c.loop-place.invariant.2.within)) c.found_for-from.ensures in
    omega (arith, n.0, ap length c.loop-place.invariant.0)

pub first_part-part-requires-clause-refers : goal.first_part-part-requires-clause-refers
first_part-part-requires-clause-refers c =
    let deep : depth_at c.args.depths.now c.loop-place.to ≡ Some (suc (c.loop-place.place - 1)) =
    c.loop-place.invariant.2.deep ∙ (let e : c.loop-place.place ≡ suc (c.loop-place.place - 1) = omega (arith, c.loop-place-test.true) in ap Some e) in
    let n = nearest_is (opening c.args.world.now) c.args.depths.now c.requires.levels c.args.depth c.in_ok-found.found c.loop-place.invariant.1 c.loop-place.to c.found_for-from.result (c.loop-place.place - 1) deep (omega (arith, c.loop-place-test.true, c.loop-place.invariant.2.within)) c.found_for-from.ensures in
    ap (body_refers c.loop-place.to) c.body.ensures ∙ n.3

pub set-requires : goal.set-requires
set-requires c = omega (arith, c.loop-place.invariant.2.size, c.loop-place.invariant.2.within)

pub loop-place-preserved : goal.loop-place-preserved
loop-place-preserved c =
    let e : c.loop-place.place ≡ suc (c.loop-place.place - 1) = omega (arith, c.loop-place-test.true) in
    let deep : depth_at c.args.depths.now c.loop-place.to ≡ Some (suc (c.loop-place.place - 1)) = c.loop-place.invariant.2.deep ∙ ap Some e in
    let n = nearest_is (opening c.args.world.now) c.args.depths.now c.requires.levels c.args.depth c.in_ok-found.found c.loop-place.invariant.1 c.loop-place.to c.found_for-from.result (c.loop-place.place - 1) deep (omega (arith, c.loop-place-test.true, c.loop-place.invariant.2.within)) c.found_for-from.ensures in
    let first : IsFirstPart (object_at c.args.world.now.objects c.found_for-from.result).body c.loop-place.to c.first_part-part.result =
    (let P : Body → Type 0 = λ b. IsFirstPart b c.loop-place.to c.first_part-part.result in subst P c.body.ensures c.first_part-part.ensures) in (
      c.loop-place.invariant.0,
      c.loop-place.invariant.1,
      ending_more (opening c.args.world.now) c.args.depths.now c.requires.levels c.args.object c.args.depth c.loop-place.hops c.set.new.self c.loop-place.place (c.loop-place.place - 1) c.loop-place.to c.found_for-from.result c.first_part-part.result
          c.loop-place.invariant.2 e n.1 n.2 first c.set.ensures,
    )

pub first_hop-requires-clause-refers : goal.first_hop-requires-clause-refers
first_hop-requires-clause-refers c =
    let zero_is : c.loop-place.place ≡ 0 = omega (arith, c.loop-place-test.false) in
    ap (refers_in c.loop-place.to) c.as_slice.ensures ∙ c.requires.levels.first c.loop-place.to (c.loop-place.invariant.2.deep ∙ ap Some zero_is)

pub set-requires-2 : goal.set-requires-2
set-requires-2 c = omega (arith, c.loop-place.invariant.2.size)

pub returns-clause-lowest : goal.returns-clause-lowest
returns-clause-lowest c =
    let zero_is : c.loop-place.place ≡ 0 = omega (arith, c.loop-place-test.false) in
    let ending : Ending (opening c.args.world.now) c.args.depths.now c.args.object c.args.depth c.loop-place.hops 0 c.loop-place.to =
    (let P : ℕ → Type 0 = λ n. Ending (opening c.args.world.now) c.args.depths.now c.args.object c.args.depth c.loop-place.hops n c.loop-place.to in subst P zero_is c.loop-place.invariant.2) in
    let stands : register_value c.args.world.now.roots c.first_hop.result.part ≡ Ref c.loop-place.to = sym (ap (λ (vs : List Value). register_value vs c.first_hop.result.part) c.as_slice.ensures) ∙ c.first_hop.ensures.stands in
    let first : IsFirst (λ register. is_ref c.loop-place.to (value_at c.args.world.now.roots register)) (place_of c.first_hop.result.part) =
    (let P : List Value → Type 0 = λ vs. IsFirst (λ register. is_ref c.loop-place.to (value_at vs register)) (place_of c.first_hop.result.part) in subst P c.as_slice.ensures c.first_hop.ensures.first) in
    (ending_last (opening c.args.world.now) c.args.depths.now c.requires.levels c.args.object c.args.depth c.loop-place.to c.loop-place.hops c.set-2.new.self c.first_hop.result ending c.requires.agrees c.first_hop.ensures.to stands first c.set-2.ensures).0

pub returns-clause-value : goal.returns-clause-value
returns-clause-value c =
    let zero_is : c.loop-place.place ≡ 0 = omega (arith, c.loop-place-test.false) in
    let ending : Ending (opening c.args.world.now) c.args.depths.now c.args.object c.args.depth c.loop-place.hops 0 c.loop-place.to =
    (let P : ℕ → Type 0 = λ n. Ending (opening c.args.world.now) c.args.depths.now c.args.object c.args.depth c.loop-place.hops n c.loop-place.to in subst P zero_is c.loop-place.invariant.2) in
    let stands : register_value c.args.world.now.roots c.first_hop.result.part ≡ Ref c.loop-place.to = sym (ap (λ (vs : List Value). register_value vs c.first_hop.result.part) c.as_slice.ensures) ∙ c.first_hop.ensures.stands in
    let first : IsFirst (λ register. is_ref c.loop-place.to (value_at c.args.world.now.roots register)) (place_of c.first_hop.result.part) =
    (let P : List Value → Type 0 = λ vs. IsFirst (λ register. is_ref c.loop-place.to (value_at vs register)) (place_of c.first_hop.result.part) in subst P c.as_slice.ensures c.first_hop.ensures.first) in
    (ending_last (opening c.args.world.now) c.args.depths.now c.requires.levels c.args.object c.args.depth c.loop-place.to c.loop-place.hops c.set-2.new.self c.first_hop.result ending c.requires.agrees c.first_hop.ensures.to stands first c.set-2.ensures).1
