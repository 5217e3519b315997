-- The world to which a print is compiled shows the same objects, by the places of their names.
use Rattle.std.proofs.Common.{◌≡◌, ℕ, zero, suc, ◌<◌, List, [], ◌∷◌, length, map, get_or, Bool, true, false, refl, ap, sym, ◌∙◌, arith}
use Rattle.std.specs.Prelude.{◌==◌, if◌then◌else◌, nat_lt}
use Rattle.std.proofs.lemmas.Bool.Decides.{nat_tests}
use Rattle.std.proofs.lemmas.List.{get_or-map, length-map}
use Rattle.file_modes.specs.lisp_graph.Graph.{Graph, no_object, object_at, value_at, width}
use Rattle.file_modes.specs.lisp_graph.KeyedGraph.{code_of, is_cons, keyed, part_of, keyed_value, seen_body}
use Rattle.file_modes.specs.lisp_graph.declared.object.Value.{Value}
use Rattle.file_modes.specs.lisp_graph.declared.object.Value.TheVariants as V
use Rattle.file_modes.specs.lisp_graph.declared.object.Body.{Body}
use Rattle.file_modes.specs.lisp_graph.declared.object.Body.TheVariants as B
use Rattle.file_modes.specs.lisp_graph.declared.object.Object.{Object}
use Rattle.file_modes.specs.lisp_graph.declared.walk.Seen.{Seen}
use Rattle.file_modes.specs.sexpr_print.Places.{is_among}
use Rattle.file_modes.specs.dump_laws.Renamed.{HasSameCharges, IsRenamed, renamed}
use Rattle.file_modes.proofs.dump_laws.KeyNumbers.{Within}
use Rattle.sexpr_laws.proofs.Copies.{body_in, copies, object_in, value_in}
use Rattle.sexpr_laws.proofs.Labels.{place_at, place_of}

-- a value refers to no object, or to one of these names
abbrev pub IsNamed : List ℕ → Value → Type 0
IsNamed all (V.Fix i) = Unit {0}
IsNamed all V.Nil = Unit {0}
IsNamed all (V.Ref name) = is_among all name ≡ true

-- each object is the copy of its name
copy_at : (objects : List Object) (all : List ℕ) (name : ℕ) → is_among all name ≡ true → object_at (copies objects all all) (place_of all name) ≡ object_in all (object_at objects name)
copy_at objects all name is =
    let at = place_at all name is in
    get_or-map (λ n. object_in all (object_at objects n)) all (place_of all name) 0 no_object at.below ∙ ap (λ n. object_in all (object_at objects n)) (at.is 0)

seen_named : (all : List ℕ) (name : ℕ) (body : Body) → seen_body (place_of all name) (body_in all body) ≡ renamed (place_of all) (seen_body name body)
seen_named all name (B.Cons car cdr) = refl
seen_named all name (B.Block code fields) = refl

pub seen_copy : (objects : List Object) (all : List ℕ) (value : Value) → IsNamed all value → keyed_value (copies objects all all) (value_in all value) ≡ renamed (place_of all) (keyed_value objects value)
seen_copy objects all (V.Fix i) is = refl
seen_copy objects all V.Nil is = refl
seen_copy objects all (V.Ref name) is =
    ap (λ (o : Object). seen_body (place_of all name) o.body) (copy_at objects all name is) ∙ seen_named all name (object_at objects name).body

seen_copies : (objects : List Object) (all : List ℕ) (values : List Value) → ((index : ℕ) → index < length values → IsNamed all (get_or values index V.Nil))
    → map (keyed_value (copies objects all all)) (map (value_in all) values) ≡ map (renamed (place_of all)) (map (keyed_value objects) values)
seen_copies objects all [] named = refl
seen_copies objects all (value ∷ values) named =
    ap (λ (s : Seen). s ∷ map (keyed_value (copies objects all all)) (map (value_in all) values)) (seen_copy objects all value (named 0 (omega arith)))
    ∙ ap (λ (l : List Seen). renamed (place_of all) (keyed_value objects value) ∷ l) (seen_copies objects all values (λ index within. named (suc index) (omega arith)))

-- Parts

fields_in : (all : List ℕ) (fields : List Value) (index : ℕ) → value_at (map (value_in all) fields) index ≡ value_in all (value_at fields index)
fields_in all [] index = refl
fields_in all (value ∷ fields) zero = refl
fields_in all (value ∷ fields) (suc index) = fields_in all fields index

part_in : (all : List ℕ) (body : Body) (index : ℕ) → part_of (body_in all body) index ≡ value_in all (part_of body index)
part_in all (B.Cons car cdr) index = of_test (index == 0)
  where
    of_test : (b : Bool) → (if b then value_in all car else value_in all cdr) ≡ value_in all (if b then car else cdr)
    of_test true = refl
    of_test false = refl
part_in all (B.Block code fields) index = fields_in all fields index

cons_in_copy : (all : List ℕ) (body : Body) → is_cons (body_in all body) ≡ is_cons body
cons_in_copy all (B.Cons car cdr) = refl
cons_in_copy all (B.Block code fields) = refl

code_in_copy : (all : List ℕ) (body : Body) → code_of (body_in all body) ≡ code_of body
code_in_copy all (B.Cons car cdr) = refl
code_in_copy all (B.Block code fields) = refl

width_in_copy : (all : List ℕ) (body : Body) → width (body_in all body) ≡ width body
width_in_copy all (B.Cons car cdr) = refl
width_in_copy all (B.Block code fields) = length-map fields (value_in all)

-- The graph of the copies

abbrev pub graph_in : Graph → List ℕ → Graph
graph_in graph all = record { registers = map (value_in all) graph.registers; objects = copies graph.objects all all }

pub copies_renamed : (graph : Graph) (keys all : List ℕ) → Within keys all → ((index : ℕ) → index < length graph.registers → IsNamed all (get_or graph.registers index V.Nil))
    → ((name index : ℕ) → is_among all name ≡ true → IsNamed all (part_of (object_at graph.objects name).body index)) → IsRenamed (place_of all) keys (keyed graph) (keyed (graph_in graph all))
copies_renamed graph keys all within registers fields = record {
  apart = λ one two first second same. sym ((place_at all one (within one first)).is 0) ∙ ap (λ n. get_or all n 0) same ∙ (place_at all two (within two second)).is 0;
  registers = seen_copies graph.objects all graph.registers registers;
  has = λ key is.
      let below = (place_at all key (within key is)).below in
      let short : place_of all key < length (copies graph.objects all all) = omega (arith, below, length-map all (λ name. object_in all (object_at graph.objects name))) in
      here (place_of all key) (length (copies graph.objects all all)) short;
  kinds = λ key is. ap (λ (o : Object). is_cons o.body) (copy_at graph.objects all key (within key is)) ∙ cons_in_copy all (object_at graph.objects key).body;
  areas = λ key is. ap (λ (o : Object). o.area) (copy_at graph.objects all key (within key is));
  codes = λ key is. ap (λ (o : Object). code_of o.body) (copy_at graph.objects all key (within key is)) ∙ code_in_copy all (object_at graph.objects key).body;
  lengths = λ key is. ap (λ (o : Object). width o.body) (copy_at graph.objects all key (within key is)) ∙ width_in_copy all (object_at graph.objects key).body;
  fields = λ key index is _.
      ap (λ (o : Object). keyed_value (copies graph.objects all all) (part_of o.body index)) (copy_at graph.objects all key (within key is))
      ∙ ap (keyed_value (copies graph.objects all all)) (part_in all (object_at graph.objects key).body index)
      ∙ seen_copy graph.objects all (part_of (object_at graph.objects key).body index) (fields key index (within key is));
}
  where
    here : (n m : ℕ) → n < m → nat_lt n m ≡ true
    here n m below = grind (arith, nat_tests)

pub copies_charged : (graph : Graph) (keys all : List ℕ) → Within keys all → HasSameCharges (place_of all) keys (keyed graph) (keyed (graph_in graph all))
copies_charged graph keys all within = λ key is. ap (λ (o : Object). o.charge) (copy_at graph.objects all key (within key is))
