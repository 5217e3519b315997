use Rattle.std.proofs.Common.{◌≡◌, ◌≤◌, ◌-◌, ◌<◌, ℕ, List, ap, sym, ◌∙◌, subst, arith, get_or, length, drop, take, length-drop}
use Rattle.std.proofs.lemmas.List.{take_all}
use Rattle.std.proofs.lemmas.List.Elements.{All-get_or}
use Rattle.lisp_graph.specs.Graph.{IsObject, PartsReferBelow, no_object, object_at}
use Rattle.lisp_graph.specs.declared.object.Body.{Body}
use Rattle.why_held.specs.Search.{Finds, all_parts, parts_of}
use Rattle.why_held.proofs.SearchSteps.{finds_along, finds_next, finds_none, found_at, found_within}
use Rattle.why_held.proofs.search.find_next.Goals as goal

pub loop-place-init : goal.loop-place-init
loop-place-init c =
    let none : c.args.start - c.args.start ≡ 0 = omega arith in
    let names = drop c.args.start c.args.search.now.found in (
      omega arith,
      (let e = c.len-end.ensures in let l = c.requires.at_most in omega arith),
      (let P : ℕ → Type 0 = λ n. Finds c.args.depth (all_parts c.args.objects.now (take n names)) c.args.search.now c.args.search.now in subst P (sym none) (finds_none c.args.depth c.args.search.now)),
    )

pub body-requires : goal.body-requires
body-requires c =
    let w = found_within c.args.depth (length c.args.objects.now) _ c.args.search.now c.loop-place.search c.args.start c.loop-place.place c.loop-place.invariant.2 c.requires.in_range c.loop-place.invariant.0 (omega (arith, c.loop-place-test.true, c.len-end.ensures)) in
    omega (arith, w, ap (λ (xs : List ℕ). get_or xs c.loop-place.place 0) c.as_slice.ensures)

pub find_parts-requires-clause-refers : goal.find_parts-requires-clause-refers
find_parts-requires-clause-refers c =
    let name = get_or c.as_slice.result.now c.loop-place.place 0 in
    let w = found_within c.args.depth (length c.args.objects.now) _ c.args.search.now c.loop-place.search c.args.start c.loop-place.place c.loop-place.invariant.2 c.requires.in_range c.loop-place.invariant.0 (omega (arith, c.loop-place-test.true, c.len-end.ensures)) in
    let l : name < length c.args.objects.now = omega (arith, w, ap (λ (xs : List ℕ). get_or xs c.loop-place.place 0) c.as_slice.ensures) in
    let o = All-get_or (IsObject (length c.args.objects.now)) c.args.objects.now name no_object l c.requires.sound in
    let e : length c.loop-place.search.depths ≡ length c.args.objects.now = c.loop-place.invariant.2.size ∙ c.requires.size in
    let P : Body → Type 0 = λ b. PartsReferBelow (length c.loop-place.search.depths) b in
    subst P (sym c.body.ensures) (rw e o.refers)

pub find_parts-requires-clause-order : goal.find_parts-requires-clause-order
find_parts-requires-clause-order c = omega (arith, c.loop-place.invariant.2.counts, c.requires.order)

pub loop-place-preserved : goal.loop-place-preserved
loop-place-preserved c =
    let names = drop c.args.start c.args.search.now.found in
    let k = c.loop-place.place - c.args.start in
    let name = get_or c.as_slice.result.now c.loop-place.place 0 in
    let same = found_at c.args.depth _ c.args.search.now c.loop-place.search c.args.start c.loop-place.place c.loop-place.invariant.2 c.loop-place.invariant.0 (omega (arith, c.loop-place-test.true, c.len-end.ensures)) in
    let e : get_or names k 0 ≡ name = sym same ∙ sym (ap (λ (xs : List ℕ). get_or xs c.loop-place.place 0) c.as_slice.ensures) in
    let l : k < length names = omega (arith, length-drop c.args.start c.args.search.now.found, c.loop-place-test.true, c.len-end.ensures, c.loop-place.invariant.0) in
    let f : Finds c.args.depth (parts_of (object_at c.args.objects.now name).body) c.loop-place.search c.find_parts.new.search =
    (let P : Body → Type 0 = λ b. Finds c.args.depth (parts_of b) c.loop-place.search c.find_parts.new.search in subst P c.body.ensures c.in_ok-find_parts.ensures) in (
      omega (arith, c.loop-place.invariant.0),
      omega (arith, c.loop-place-test.true),
      finds_next c.args.depth c.args.objects.now names k _ name c.args.search.now c.loop-place.search c.find_parts.new.search l e (omega (arith, c.loop-place.invariant.0)) c.loop-place.invariant.2 f,
    )

pub returns : goal.returns
returns c =
    let names = drop c.args.start c.args.search.now.found in
    let k = c.loop-place.place - c.args.start in
    let l : length names ≤ k = omega (arith, length-drop c.args.start c.args.search.now.found, c.loop-place-test.false, c.len-end.ensures) in
    finds_along c.args.depth (all_parts c.args.objects.now (take k names)) (all_parts c.args.objects.now names) c.args.search.now c.loop-place.search
    (ap (all_parts c.args.objects.now) (take_all k names l)) c.loop-place.invariant.2
