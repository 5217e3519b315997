-- The names that are printed are those that the registers reach.
use Rattle.std.proofs.Common.{◌≡◌, ℕ, zero, suc, ◌+◌, ◌<◌, ◌≤◌, List, [], ◌∷◌, ◌++◌, length, map, get_or, Bool, true, false, Some, None, inl, inr, refl, ap, sym, ◌∙◌, subst, arith}
use Rattle.std.specs.Prelude.{◌==◌, ◌||◌, cond, if◌then◌else◌}
use Rattle.std.specs.List.{All}
use Rattle.std.proofs.lemmas.List.{get_or-map, length-map}
use Rattle.std.proofs.lemmas.List.Elements.{All-cons, All-get_or, All-head, All-nil, All-tail}
use Rattle.file_modes.specs.lisp_graph.Graph.{Graph, is_ref, object_at, value_at, width}
use Rattle.file_modes.specs.lisp_graph.KeyedGraph.{KeyedGraph, keyed, part_of, keyed_value, seen_body}
use Rattle.file_modes.specs.lisp_graph.declared.object.Value.{Value}
use Rattle.file_modes.specs.lisp_graph.declared.object.Value.TheVariants as V
use Rattle.file_modes.specs.lisp_graph.declared.object.Body.{Body}
use Rattle.file_modes.specs.lisp_graph.declared.object.Body.TheVariants as B
use Rattle.file_modes.specs.lisp_graph.declared.object.Object.{Object}
use Rattle.file_modes.specs.lisp_graph.declared.walk.Seen.{Seen}
use Rattle.file_modes.specs.lisp_graph.declared.walk.Seen.TheVariants.{Fix, Nil, Cons, Block}
use Rattle.file_modes.specs.world_text.Numbering.{AllVisited, Chained, IsNumbering, Visited, Walked, done, ends, fields_from, goes, is_numbered, more, next_cons, none, step}
use Rattle.file_modes.specs.sexpr_print.Places.{is_among, parts}
use Rattle.file_modes.proofs.dump_laws.NumberingGrowth.{HasNumber, numbering_fields, numbering_registers}
use Rattle.file_modes.proofs.dump_laws.KeyNumbers.{Within, key_same, numbered_append, numbered_at, numbered_place}
use Rattle.file_modes.proofs.dump_laws.RenamedGraphs.{at_field}
use Rattle.sexpr_laws.proofs.Counts.{or_cases, refs, refs_cons, same_name, true_false}

-- Keys that are closed under references

-- each field of an object of these keys refers to one of them
abbrev pub IsClosed : KeyedGraph → List ℕ → Type 0
IsClosed graph all = (key index : ℕ) → is_numbered all key ≡ true → HasNumber all (graph.field key index)

push_within : (keys all : List ℕ) (key : ℕ) → Within keys all → is_numbered all key ≡ true → Within (keys ++ key ∷ []) all
push_within keys all key within is = λ other has. elim (or_cases (is_among keys other) ((other == key) || false) (sym (numbered_append keys (key ∷ []) other) ∙ has)) [
  | inl old ↦ within other old
  | inr last ↦
      elim (or_cases (other == key) false last) [
        | inl same ↦ subst (λ n. is_numbered all n ≡ true) (sym (same_name other key same)) is
        | inr never ↦ absurd (cc (never))
      ]
]

next_has : (keys all : List ℕ) (value : Seen) (next : ℕ) → next_cons keys value ≡ Some next → HasNumber all value → is_numbered all next ≡ true
next_has keys all (Fix i) next is has = absurd (cc (is))
next_has keys all Nil next is has = absurd (cc (is))
next_has keys all (Block key) next is has = absurd (cc (is))
next_has keys all (Cons key) next is has = of_test (is_numbered keys key) is
  where
    of_test : (b : Bool) → (if b then None else Some key) ≡ Some next → is_numbered all next ≡ true
    of_test true here = absurd (cc (here))
    of_test false here = let e : key ≡ next = cc (here) in subst (λ n. is_numbered all n ≡ true) e has

chain_within : {graph : KeyedGraph} {keys : List ℕ} {key : ℕ} {last : List ℕ} → Chained graph keys key last → (all : List ℕ) → IsClosed graph all → Within keys all → is_numbered all key ≡ true → Within last all
chain_within (ends keys key last) all closed within is = push_within keys all key within is
chain_within {graph} (goes keys key next last later rest) all closed within is =
    chain_within rest all closed (push_within keys all key within is) (next_has (keys ++ key ∷ []) all (graph.field key 1) next later (closed key 1 is))

visit_within : (graph : KeyedGraph) (keys last all : List ℕ) (value : Seen) → Visited graph keys value last → IsClosed graph all → Within keys all → HasNumber all value → Within last all
visit_within graph keys last all (Fix i) is closed within has = subst (λ (l : List ℕ). Within l all) (sym is) within
visit_within graph keys last all Nil is closed within has = subst (λ (l : List ℕ). Within l all) (sym is) within
visit_within graph keys last all (Cons key) (inl old) closed within has = subst (λ (l : List ℕ). Within l all) (sym old.1) within
visit_within graph keys last all (Cons key) (inr new) closed within has = chain_within new.1 all closed within has
visit_within graph keys last all (Block key) (inl old) closed within has = subst (λ (l : List ℕ). Within l all) (sym old.1) within
visit_within graph keys last all (Block key) (inr new) closed within has = subst (λ (l : List ℕ). Within l all) (sym new.1) (push_within keys all key within has)

all_within : {graph : KeyedGraph} {keys : List ℕ} {values : List Seen} {last : List ℕ} → AllVisited graph keys values last → (all : List ℕ) → IsClosed graph all → Within keys all → All (HasNumber all) values → Within last all
all_within (none keys) all closed within has = within
all_within {graph} (more keys middle last value values one rest) all closed within has =
    all_within rest all closed (visit_within graph keys middle all value one closed within (All-head (HasNumber all) value values has)) (All-tail (HasNumber all) value values has)

fields_have : (graph : KeyedGraph) (all : List ℕ) (key start size : ℕ) → IsClosed graph all → is_numbered all key ≡ true → All (HasNumber all) (fields_from graph key start size)
fields_have graph all key start zero closed is = All-nil (HasNumber all)
fields_have graph all key start (suc size) closed is = All-cons (HasNumber all) (graph.field key start) (fields_from graph key (start + 1) size) (closed key start is) (fields_have graph all key (start + 1) size closed is)

walk_within : {graph : KeyedGraph} {keys : List ℕ} {number : ℕ} {last : List ℕ} → Walked graph keys number last → (all : List ℕ) → IsClosed graph all → Within keys all → Within last all
walk_within (done keys number past) all closed within = within
walk_within {graph} (step keys middle last number key at one rest) all closed within =
    walk_within rest all closed (all_within one all closed within (fields_have graph all key 0 (graph.form key).length closed (within key (numbered_at keys number key at))))

-- closed keys to which the registers refer have each number
pub numbering_within : (graph : KeyedGraph) (keys all : List ℕ) → IsNumbering graph keys → IsClosed graph all → All (HasNumber all) graph.registers → Within keys all
numbering_within graph keys all numbering closed registers =
    walk_within numbering.objects all closed (all_within numbering.registers all closed (λ key is. absurd (cc (is))) registers)

-- References of values

-- a value that refers to the object
pub record RefersAt (values : List Value) (name : ℕ) : Type 0 where
  pub index : ℕ
  pub within : index < length values
  pub is : (default : Value) → get_or values index default ≡ V.Ref name

ref_is : (name : ℕ) (value : Value) → is_ref name value ≡ true → value ≡ V.Ref name
ref_is name (V.Fix i) is = absurd (cc (is))
ref_is name V.Nil is = absurd (cc (is))
ref_is name (V.Ref other) is = ap V.Ref (same_name other name is)

pub refers_at : (name : ℕ) (values : List Value) → 1 ≤ refs name values → RefersAt values name
refers_at name [] some = absurd (omega arith)
refers_at name (value ∷ values) some = elim (true_false (is_ref name value)) [
  | inl here ↦ record { index = 0; within = omega arith; is = λ default. ref_is name value here }
  | inr other ↦
      let e : refs name (value ∷ values) ≡ 0 + refs name values = refs_cons name value values ∙ ap (λ b. cond b 1 0 + refs name values) other in
      let rest = refers_at name values (omega (arith, some)) in
      record { index = suc rest.index; within = omega (arith, rest.within); is = rest.is }
]

-- an object with a number
pub seen_number : (objects : List Object) (names : List ℕ) (name : ℕ) → HasNumber names (keyed_value objects (V.Ref name)) → is_among names name ≡ true
seen_number objects names name has = of_body (object_at objects name).body has
  where
    of_body : (body : Body) → HasNumber names (seen_body name body) → is_among names name ≡ true
    of_body (B.Cons car cdr) is = is
    of_body (B.Block code fields) is = is

pub number_seen : (objects : List Object) (names : List ℕ) (name : ℕ) → is_among names name ≡ true → HasNumber names (keyed_value objects (V.Ref name))
number_seen objects names name is = of_body (object_at objects name).body
  where
    of_body : (body : Body) → HasNumber names (seen_body name body)
    of_body (B.Cons car cdr) = is
    of_body (B.Block code fields) = is

-- the part at a place
pub part_at : (body : Body) (index : ℕ) → index < width body → part_of body index ≡ value_at (parts body) index
part_at (B.Cons car cdr) zero within = refl
part_at (B.Cons car cdr) (suc zero) within = refl
part_at (B.Cons car cdr) (suc (suc index)) within = absurd (omega arith)
part_at (B.Block code fields) index within = refl

pub parts_wide : (body : Body) → length (parts body) ≡ width body
parts_wide (B.Cons car cdr) = refl
parts_wide (B.Block code fields) = refl

-- the objects to which numbered ones refer have numbers
pub numbers_closed : (graph : Graph) (names : List ℕ) (name other : ℕ) → IsNumbering (keyed graph) names → is_among names name ≡ true → 1 ≤ refs other (parts (object_at graph.objects name).body) → is_among names other ≡ true
numbers_closed graph names name other numbering is some =
    let body : Body = (object_at graph.objects name).body in
    let at = refers_at other (parts body) some in
    let place = numbered_place names name is in
    let within : at.index < width body = omega (arith, at.within, parts_wide body) in
    let has = at_field (HasNumber names) (keyed graph) name at.index (numbering_fields (keyed graph) names place.0 name numbering place.3) within in
    seen_number graph.objects names other (subst (λ (v : Value). HasNumber names (keyed_value graph.objects v)) (part_at body at.index within ∙ at.is V.Nil) has)

pub numbers_registers : (graph : Graph) (names : List ℕ) (other : ℕ) → IsNumbering (keyed graph) names → 1 ≤ refs other graph.registers → is_among names other ≡ true
numbers_registers graph names other numbering some =
    let at = refers_at other graph.registers some in
    let has = All-get_or (HasNumber names) (map (keyed_value graph.objects) graph.registers) at.index Nil (omega (arith, at.within, length-map graph.registers (keyed_value graph.objects))) (numbering_registers (keyed graph) names numbering) in
    seen_number graph.objects names other (subst (λ (s : Seen). HasNumber names s) (get_or-map (keyed_value graph.objects) graph.registers at.index V.Nil Nil at.within ∙ ap (keyed_value graph.objects) (at.is V.Nil)) has)

-- a value that refers to an object is counted
pub ref_counts : (values : List Value) (name index : ℕ) → index < length values → get_or values index V.Nil ≡ V.Ref name → 1 ≤ refs name values
ref_counts [] name index within is = absurd (omega arith)
ref_counts (value ∷ values) name zero within is =
    let e : is_ref name value ≡ true = ap (is_ref name) is ∙ key_same name in
    let f : refs name (value ∷ values) ≡ 1 + refs name values = refs_cons name value values ∙ ap (λ b. cond b 1 0 + refs name values) e in
    omega (arith, f)
ref_counts (value ∷ values) name (suc index) within is = omega (arith, refs_cons name value values, ref_counts values name index (omega arith) is)
