-- The chain that is chosen backwards.
use Rattle.std.proofs.Common.{◌≡◌, ℕ, suc, ◌+◌, ◌<◌, ◌≤◌, inl, inr, true, refl, sym, ◌∙◌, ap, subst, arith, List, [], ◌∷◌, length, set, take, drop, Option, Some, None, IsSome, length-set, length-drop, drop_of_length-le}
use Rattle.std.proofs.lemmas.Bool.{and_from, and_parts, eqb-true, eq-eqb}
use Rattle.std.proofs.lemmas.List.{drop_at, length-take-le, set_split}
use Rattle.lisp_graph.specs.declared.object.Value.TheVariants.{Ref}
use Rattle.lisp_graph.specs.Graph.{Graph, body_refers, is_ref, object_at, value_at}
use Rattle.why_held.specs.declared.chain.Part.{Part}
use Rattle.why_held.specs.declared.chain.Hop.{Hop}
use Rattle.why_held.specs.Chains.{IsShortest, Leads, depth_at, register_value}
use Rattle.why_held.specs.Choice.{AreFirstReferences, IsChosen, IsFirst, IsFirstPart, is_nearer, is_one_less, place_of}
use Rattle.why_held.specs.Nearest.{AreNearest, IsFirstBelow, nearest_at}
use Rattle.why_held.specs.Search.{AreLevels}
use Rattle.why_held.proofs.SearchSteps.{option_cases, some_is}
use Rattle.why_held.proofs.Levels.{depth_below, same_depth, within_from}
use Rattle.why_held.proofs.Chains.{shortest_at}

one_less : (less more : Option ℕ) (n : ℕ) → more ≡ Some (suc n) → is_one_less less more ≡ true → less ≡ Some n
one_less None more n e t = absurd cc
one_less (Some m) (Some k) n e t =
    let a : suc m ≡ k = eqb-true (suc m) k t in
    let b : k ≡ suc n = same_depth (Some k) k (suc n) refl e in
    let c : m ≡ n = omega arith in ap Some c
one_less (Some m) None n e t = absurd cc

is_less : (less more : Option ℕ) (n : ℕ) → less ≡ Some n → more ≡ Some (suc n) → is_one_less less more ≡ true
is_less less more n e f =
    let P : Option ℕ → Type 0 = λ o. is_one_less o more ≡ true in
    let Q : Option ℕ → Type 0 = λ o. is_one_less (Some n) o ≡ true in
    subst P (sym e) (subst Q (sym f) (eq-eqb (suc n) (suc n) refl))

pub drop_set : {A : Type 0} (xs : List A) (i : ℕ) (a : A) → i < length xs → drop i (set xs i a) ≡ a ∷ drop (suc i) xs
drop_set xs i a l = ap (drop i) (set_split xs i a l) ∙ drop_at (take i xs) (a ∷ drop (suc i) xs) i (length-take-le i xs (omega arith))

-- The end of the chain, from the object `to` on, which is at depth `place`
pub record Ending (graph : Graph) (depths : List (Option ℕ)) (object depth : ℕ) (hops : List Hop) (place to : ℕ) : Type 0 where
  pub size : length hops ≡ suc depth
  pub within : place ≤ depth
  pub deep : depth_at depths to ≡ Some place
  pub leads : Leads graph.objects to (drop (suc place) hops) object
  pub chosen : AreFirstReferences graph.objects depths to (drop (suc place) hops)

module _ (graph : Graph) (depths : List (Option ℕ)) (levels : AreLevels graph depths) where
  -- What was found for an object that isn't at depth 0

  module _ (most : ℕ) (nearest : List (Option ℕ)) (near : AreNearest graph.objects depths most (length graph.objects) nearest) where
    pub nearest_some : (to less : ℕ) → depth_at depths to ≡ Some (suc less) → suc less ≤ most → IsSome (nearest_at nearest to)
    nearest_some to less e shallow = elim (option_cases (nearest_at nearest to)) [
      | inl none ↦ (
          let b = levels.before to less e in
          let passes : is_nearer graph.objects depths to b.0 ≡ true = and_from (is_one_less (depth_at depths b.0) (depth_at depths to)) (body_refers to (object_at graph.objects b.0).body) (is_less (depth_at depths b.0) (depth_at depths to) less b.1 e) b.2 in
          let l = depth_below depths b.0 less b.1 in
          let s = levels.each in
          let P : Option ℕ → Type 0 = λ o. IsFirstBelow (is_nearer graph.objects depths to) (length graph.objects) o in
          let fails = subst P none (near.each to (within_from most (suc less) (depth_at depths to) e shallow)) b.0 (omega arith) in
          absurd cc)
      | inr x ↦ some_is (nearest_at nearest to) x.0 x.1
    ]

    pub nearest_is : (to from less : ℕ) → depth_at depths to ≡ Some (suc less) → suc less ≤ most → nearest_at nearest to ≡ Some from
        → (from < length graph.objects) × IsFirst (is_nearer graph.objects depths to) from × (depth_at depths from ≡ Some less) × (body_refers to (object_at graph.objects from).body ≡ true)
    nearest_is to from less e shallow f =
        let P : Option ℕ → Type 0 = λ o. IsFirstBelow (is_nearer graph.objects depths to) (length graph.objects) o in
        let n = subst P f (near.each to (within_from most (suc less) (depth_at depths to) e shallow)) in
        let t = and_parts (is_one_less (depth_at depths from) (depth_at depths to)) (body_refers to (object_at graph.objects from).body) n.1.0 in
        (n.0, n.1, one_less (depth_at depths from) (depth_at depths to) less e t.0, t.1)

  pub ending_first : (object depth : ℕ) (hops : List Hop) → length hops ≡ depth + 1 → depth_at depths object ≡ Some depth → Ending graph depths object depth hops depth object
  ending_first object depth hops size e =
      let none : drop (suc depth) hops ≡ [] = drop_of_length-le hops {i = suc depth} (omega arith) in
      let P : List Hop → Type 0 = λ xs. Leads graph.objects object xs object in
      let Q : List Hop → Type 0 = λ xs. AreFirstReferences graph.objects depths object xs in
      record {
        size = omega arith;
        within = omega arith;
        deep = e;
        leads = subst P (sym none) refl;
        chosen = subst Q (sym none) tt;
      }

  pub ending_more : (object depth : ℕ) (hops more : List Hop) (place less to from : ℕ) (part : Part) → Ending graph depths object depth hops place to → place ≡ suc less
      → IsFirst (is_nearer graph.objects depths to) from → depth_at depths from ≡ Some less → IsFirstPart (object_at graph.objects from).body to part
      → more ≡ set hops place (record { part = part; to = to }) → Ending graph depths object depth more less from
  ending_more object depth hops more place less to from part ending p first deep is e =
      let hop : Hop = record { part = part; to = to } in
      let l = ending.within in let s = ending.size in
      let rest : drop (suc less) more ≡ hop ∷ drop (suc place) hops =
      ap (λ (n : ℕ). drop n more) (sym p) ∙ ap (drop place) e ∙ drop_set hops place hop (omega arith) in
      let P : List Hop → Type 0 = λ xs. Leads graph.objects from xs object in
      let Q : List Hop → Type 0 = λ xs. AreFirstReferences graph.objects depths from xs in
      record {
        size = ap length e ∙ length-set hops place hop ∙ ending.size;
        within = omega arith;
        deep = deep;
        leads = subst P (sym rest) (is.stands, ending.leads);
        chosen = subst Q (sym rest) (record { object = first; part = is.first }, ending.chosen);
      }

  pub ending_last : (object depth to : ℕ) (hops all : List Hop) (hop : Hop) → Ending graph depths object depth hops 0 to → depth_at depths object ≡ Some depth → hop.to ≡ to
      → register_value graph.registers hop.part ≡ Ref to → IsFirst (λ register. is_ref to (value_at graph.registers register)) (place_of hop.part)
      → all ≡ set hops 0 hop → IsShortest graph all object × IsChosen graph depths all
  ending_last object depth to hops all hop ending e same stands first is =
      let s = ending.size in
      let whole : all ≡ hop ∷ drop 1 hops = is ∙ drop_set hops 0 hop (omega arith) in
      let leads : Leads graph.objects hop.to (drop 1 hops) object = (let P : ℕ → Type 0 = λ n. Leads graph.objects n (drop 1 hops) object in subst P (sym same) ending.leads) in
      let chosen : AreFirstReferences graph.objects depths hop.to (drop 1 hops) = (let P : ℕ → Type 0 = λ n. AreFirstReferences graph.objects depths n (drop 1 hops) in subst P (sym same) ending.chosen) in
      let begins : register_value graph.registers hop.part ≡ Ref hop.to = stands ∙ ap Ref (sym same) in
      let lowest : IsFirst (λ register. is_ref hop.to (value_at graph.registers register)) (place_of hop.part) =
      (let P : ℕ → Type 0 = λ n. IsFirst (λ register. is_ref n (value_at graph.registers register)) (place_of hop.part) in subst P (sym same) first) in
      let P : List Hop → Type 0 = λ xs. IsShortest graph xs object × IsChosen graph depths xs in
      let d = length-drop 1 hops in
      subst P (sym whole) (shortest_at graph depths levels.bounds (hop ∷ drop 1 hops) object depth e (begins, leads) (omega arith), (lowest, chosen))
