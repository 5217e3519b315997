-- What all areas are charged together.
use Rattle.std.proofs.Common.{◌≡◌, ℕ, zero, suc, ◌+◌, ◌*◌, ◌<◌, ◌≤◌, List, [], ◌∷◌, length, Bool, true, false, refl, arith}
use Rattle.std.specs.Prelude.{◌==◌}
use Rattle.std.specs.List.{All}
use Rattle.std.proofs.lemmas.Bool.Decides.{nat_tests}
use Rattle.std.proofs.lemmas.List.Elements.{All-head, All-tail}
use Rattle.trace_text.specs.lisp_graph.declared.object.Object.{Object}
use Rattle.trace_text.specs.lisp_graph.declared.world.AreaRule.{AreaRule}
use Rattle.trace_text.specs.world_text.Objects.{quota_in}
use Rattle.trace_text.specs.world_text.Limits.{charged_in}
use Rattle.dump_laws.proofs.ObjectLines.{charged_append}
use Rattle.dump_laws.proofs.LineLengths.{total, total_append}

-- the charges of this many areas
all_areas : ℕ → List Object → ℕ
all_areas zero objects = 0
all_areas (suc areas) objects = charged_in areas objects + all_areas areas objects

areas_cons : (areas : ℕ) (object : Object) (objects : List Object) → all_areas areas (object ∷ objects) ≡ all_areas areas (object ∷ []) + all_areas areas objects
unfolding all_areas
areas_cons zero object objects = refl
areas_cons (suc areas) object objects = omega (arith, charged_append areas (object ∷ []) objects, areas_cons areas object objects)

here_charged : (area : ℕ) (object : Object) → object.area ≡ area → charged_in area (object ∷ []) ≡ object.charge
here_charged area object is = let e : (object.area == area) ≡ true = grind (arith, nat_tests) in rw e (omega arith)

one_counts : (areas : ℕ) (object : Object) → object.area < areas → object.charge ≤ all_areas areas (object ∷ [])
unfolding all_areas
one_counts zero object within = absurd (omega arith)
one_counts (suc areas) object within = of_test (object.area == areas) refl (λ below. one_counts areas object below)
  where
    of_test : (b : Bool) → (object.area == areas) ≡ b → (object.area < areas → object.charge ≤ all_areas areas (object ∷ [])) → object.charge ≤ charged_in areas (object ∷ []) + all_areas areas (object ∷ [])
    of_test true same more = let e : object.area ≡ areas = grind (arith, nat_tests, same) in omega (arith, here_charged areas object e)
    of_test false differs more = let below : object.area < areas = grind (arith, nat_tests, differs, within) in omega (arith, more below)

all_count : (areas : ℕ) (objects : List Object) → All (λ object. object.area < areas) objects → total objects ≤ all_areas areas objects
all_count areas [] within = omega arith
all_count areas (object ∷ objects) within =
    omega (
      arith,
      areas_cons areas object objects,
      one_counts areas object (All-head (λ (o : Object). o.area < areas) object objects within),
      all_count areas objects (All-tail (λ (o : Object). o.area < areas) object objects within),
      total_append (object ∷ []) objects,
    )

areas_bound : (areas : ℕ) (objects : List Object) → ((area : ℕ) → area < areas → charged_in area objects ≤ 1048576) → all_areas areas objects ≤ 1048576 * areas
unfolding all_areas
areas_bound zero objects fits = omega arith
areas_bound (suc areas) objects fits = omega (arith, fits areas (omega arith), areas_bound areas objects (λ area within. fits area (omega arith)))

quota_bound : (areas : List AreaRule) (area : ℕ) → All (λ rule. rule.quota ≤ 1048576) areas → area < length areas → quota_in areas area ≤ 1048576
quota_bound [] area quotas within = absurd (omega arith)
quota_bound (rule ∷ areas) zero quotas within = All-head (λ (r : AreaRule). r.quota ≤ 1048576) rule areas quotas
quota_bound (rule ∷ areas) (suc area) quotas within = quota_bound areas area (All-tail (λ (r : AreaRule). r.quota ≤ 1048576) rule areas quotas) (omega arith)

-- objects within the quotas of at most 16 areas are charged at most 2^24 words
pub total_bound : (areas : List AreaRule) (objects : List Object) → length areas ≤ 16 → All (λ rule. rule.quota ≤ 1048576) areas → All (λ object. object.area < length areas) objects
    → ((area : ℕ) → area < length areas → charged_in area objects ≤ quota_in areas area) → total objects ≤ 16777216
total_bound areas objects few quotas placed fits =
    omega (
      arith,
      all_count (length areas) objects placed,
      areas_bound (length areas) objects (λ area within. let q = quota_bound areas area quotas within in let f = fits area within in omega arith),
    )
