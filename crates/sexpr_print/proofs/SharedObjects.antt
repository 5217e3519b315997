-- The objects that are counted more than once are the shared ones.
use Rattle.std.proofs.Common.{◌≡◌, ℕ, ◌+◌, ◌<◌, ◌≤◌, inl, inr, Bool, false, refl, sym, ◌∙◌, ap, arith, List, [], ◌∷◌, length, cond}
use Rattle.std.specs.Prelude.{count_by, flat_map, nat_lt, ◌==◌}
use Rattle.std.specs.List.{All}
use Rattle.std.proofs.Math.Path.{fun_ext}
use Rattle.std.proofs.lemmas.Bool.{cases_lt, cases_Bool, eqb-true}
use Rattle.std.proofs.lemmas.List.{get_or_past}
use Rattle.std.proofs.lemmas.List.Elements.{All-append, All-cons, All-nil, All-get_or, All-head, All-tail}
use Rattle.lisp_graph.specs.Graph.{Graph, IsGraph, IsObject, PartsReferBelow, RefersBelow, is_ref, no_object, object_at}
use Rattle.lisp_graph.specs.World.{opening}
use Rattle.lisp_graph.specs.declared.object.Value.{Value}
use Rattle.lisp_graph.specs.declared.object.Value.TheVariants.{Fix, Nil, Ref}
use Rattle.lisp_graph.specs.declared.object.Body.{Body}
use Rattle.lisp_graph.specs.declared.object.Body.TheVariants.{Cons, Block}
use Rattle.lisp_graph.specs.declared.world.World.{World}
use Rattle.sexpr_print.specs.declared.sharing.References.{References}
use Rattle.sexpr_print.specs.declared.sharing.References.TheVariants.{No}
use Rattle.sexpr_print.specs.Places.{held, is_shared, parts}
use Rattle.sexpr_print.specs.Sharing.{AreCounted, is_many, references_at}
use Rattle.sexpr_print.specs.Marks.{shared_in}
use Rattle.sexpr_print.proofs.ReferenceCounts.{count_cons, many_means}

-- No value refers past the last object

parts_below : (count : ℕ) (body : Body) → PartsReferBelow count body → All (RefersBelow count) (parts body)
parts_below count (Cons car cdr) refers = All-cons (RefersBelow count) car (cdr ∷ []) refers.0 (All-cons (RefersBelow count) cdr [] refers.1 (All-nil _))
parts_below count (Block code fields) refers = refers

fields_below : (graph : Graph) (names : List ℕ) → IsGraph graph → All (λ name. name < length graph.objects) names
    → All (RefersBelow (length graph.objects)) (flat_map (λ name. parts (object_at graph.objects name).body) names)
fields_below graph [] is below = All-nil _
fields_below graph (name ∷ names) is below =
    let count = length graph.objects in
    let B : ℕ → Type 0 = λ name. name < length graph.objects in
    let object = All-get_or (IsObject count) graph.objects name no_object (All-head B name names below) is.objects in
    All-append (RefersBelow count) (parts (object_at graph.objects name).body) (flat_map (λ name. parts (object_at graph.objects name).body) names)
    (parts_below count (object_at graph.objects name).body object.refers) (fields_below graph names is (All-tail B name names below))

held_below : (graph : Graph) (names : List ℕ) → IsGraph graph → All (λ name. name < length graph.objects) names → All (RefersBelow (length graph.objects)) (held graph names)
held_below graph names is below =
    All-append (RefersBelow (length graph.objects)) graph.registers (flat_map (λ name. parts (object_at graph.objects name).body) names) is.registers (fields_below graph names is below)

ref_past : (count name : ℕ) (value : Value) → count ≤ name → RefersBelow count value → is_ref name value ≡ false
ref_past count name (Fix n) past below = refl
ref_past count name Nil past below = refl
ref_past count name (Ref other) past below = elim (cases_Bool (other == name)) [
  | inl same ↦ (let e : other ≡ name = eqb-true other name same in absurd (omega arith))
  | inr differs ↦ differs
]

none_past : (count name : ℕ) (values : List Value) → count ≤ name → All (RefersBelow count) values → count_by (is_ref name) values ≡ 0
none_past count name [] past below = refl
none_past count name (value ∷ values) past below =
    let e = ref_past count name value past (All-head (RefersBelow count) value values below) in
    count_cons (is_ref name) value values ∙ ap (λ (b : Bool). cond {A = ℕ} b 1 0 + count_by (is_ref name) values) e
    ∙ ap (λ n. 0 + n) (none_past count name values past (All-tail (RefersBelow count) value values below))

pub same_shared : (world : World) (names : List ℕ) (counts : List References) → IsGraph (opening world) → All (λ name. name < length world.objects) names → AreCounted (held (opening world) names) counts → length counts ≡ length world.objects
    → shared_in counts ≡ is_shared (held (opening world) names)
same_shared world names counts graph below are size = fun_ext (λ name. shared_at name)
  where
    shared_at : (name : ℕ) → shared_in counts name ≡ is_shared (held (opening world) names) name
    shared_at name = elim (cases_lt name (length counts)) [
      | inl within ↦ ap is_many (are name within) ∙ many_means (count_by (is_ref name) (held (opening world) names))
      | inr past ↦ (
          let zero_there = none_past (length world.objects) name (held (opening world) names) (omega (arith, size, past)) (held_below (opening world) names graph below) in
          let none_here : references_at counts name ≡ No = get_or_past counts name No past in
          ap is_many none_here ∙ sym (ap (λ n. nat_lt 1 n) zero_there))
    ]
