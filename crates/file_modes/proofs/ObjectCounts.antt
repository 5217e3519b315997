-- How many objects an accepted world has: each is charged, and the quotas are small.
use Rattle.std.proofs.Common.{◌≡◌, ◌⊎◌, inl, inr, ℕ, zero, suc, ◌+◌, ◌*◌, ◌<◌, ◌≤◌, ◌^◌, Bool, cond, ◌==◌, ap, arith, List, [], ◌∷◌, length, All}
use Rattle.std.proofs.lemmas.Bool.{cases_eq, eq-eqb}
use Rattle.std.proofs.lemmas.List.Elements.{All-head, All-tail}
use Rattle.std.proofs.lemmas.List.Sums.{sum_by-cons}
use Rattle.lisp_graph.specs.declared.object.Body.{Body}
use Rattle.lisp_graph.specs.declared.object.Body.TheVariants.{Cons, Block}
use Rattle.lisp_graph.specs.declared.object.Object.{Object}
use Rattle.lisp_graph.specs.declared.world.AreaRule.{AreaRule}
use Rattle.lisp_graph.specs.declared.world.World.{World}
use Rattle.lisp_graph.specs.World.{IsCharge}
use Rattle.world_text.specs.Limits.{IsAccepted, charged_in}
use Rattle.world_text.specs.Objects.{quota_in}

-- the charges of the objects in the areas with numbers below this one
charged_below : ℕ → List Object → ℕ
charged_below zero objects = 0
charged_below (suc area) objects = charged_in area objects + charged_below area objects

charged_cons : (area : ℕ) (object : Object) (objects : List Object) → charged_in area (object ∷ objects) ≡ cond (object.area == area) object.charge 0 + charged_in area objects
charged_cons area object objects = sum_by-cons (λ (o : Object). cond (o.area == area) o.charge 0) object objects

below_grows : (areas : ℕ) (object : Object) (objects : List Object) → charged_below areas objects ≤ charged_below areas (object ∷ objects)
unfolding charged_below
below_grows zero object objects = omega arith
below_grows (suc area) object objects = let a = charged_cons area object objects in let b = below_grows area object objects in omega arith

below_counts : (areas : ℕ) (object : Object) (objects : List Object) → object.area < areas → charged_below areas objects + object.charge ≤ charged_below areas (object ∷ objects)
unfolding charged_below
below_counts zero object objects l = absurd (omega arith)
below_counts (suc area) object objects l = go (cases_eq object.area area) (below_grows area object objects) (below_counts area object objects)
  where
    go : (object.area ≡ area) ⊎ (object.area ≡ area → ⊥) → charged_below area objects ≤ charged_below area (object ∷ objects) → (object.area < area → charged_below area objects + object.charge ≤ charged_below area (object ∷ objects))
        → charged_in area objects + charged_below area objects + object.charge ≤ charged_in area (object ∷ objects) + charged_below area (object ∷ objects)
    go (inl e) grows rest = (
        let a = charged_cons area object objects in
        let b = ap (λ (t : Bool). cond t object.charge 0) (eq-eqb object.area area e) in
        omega arith)
    go (inr ne) grows rest = (
        let a = charged_cons area object objects in
        let b = rest (omega arith) in
        omega arith)

below_small : (areas : ℕ) (objects : List Object) → ((area : ℕ) → area < areas → charged_in area objects ≤ 1048576) → charged_below areas objects ≤ areas * 1048576
unfolding charged_below
below_small zero objects h = omega arith
below_small (suc area) objects h = let a = h area (omega arith) in let b = below_small area objects (λ k l. h k (omega arith)) in omega arith

each_counts : (areas : ℕ) (objects : List Object) → All (λ object. object.area < areas) objects → All (λ object. 1 ≤ object.charge) objects → length objects ≤ charged_below areas objects
each_counts areas [] placed charged = omega arith
each_counts areas (object ∷ objects) placed charged =
    let a = below_counts areas object objects (All-head (λ (o : Object). o.area < areas) object objects placed) in
    let b = All-head (λ (o : Object). 1 ≤ o.charge) object objects charged in
    let c = each_counts areas objects (All-tail (λ (o : Object). o.area < areas) object objects placed) (All-tail (λ (o : Object). 1 ≤ o.charge) object objects charged) in
    omega arith

some_charge : (body : Body) (charge : ℕ) → IsCharge body charge → 1 ≤ charge
some_charge (Cons car cdr) charge (inl e) = omega arith
some_charge (Cons car cdr) charge (inr e) = omega arith
some_charge (Block code fields) charge e = omega arith

quota_small : (areas : List AreaRule) (area : ℕ) → All (λ rule. rule.quota ≤ 1048576) areas → quota_in areas area ≤ 1048576
quota_small [] area all = omega arith
quota_small (rule ∷ areas) zero all = All-head (λ (r : AreaRule). r.quota ≤ 1048576) rule areas all
quota_small (rule ∷ areas) (suc area) all = quota_small areas area (All-tail (λ (r : AreaRule). r.quota ≤ 1048576) rule areas all)

pub accepted_few : (world : World) → IsAccepted world → length world.objects < 2 ^ 32
accepted_few world accepted =
    let counts = each_counts (length world.areas) world.objects accepted.limits.placed (λ k d l. some_charge _ _ (accepted.limits.charged k d l)) in
    let small = below_small (length world.areas) world.objects (λ area l. (let q = quota_small world.areas area accepted.limits.areas.quotas in let c = accepted.quotas area l in omega arith)) in
    let few = accepted.limits.areas.count in
    let most : length world.areas ≤ 16 = few.1 in
    omega arith
