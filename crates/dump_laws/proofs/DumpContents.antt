-- The objects and the registers of a dump.
use Rattle.std.proofs.Common.{◌≡◌, ℕ, zero, suc, ◌+◌, ◌-◌, ◌<◌, ◌≤◌, ◌^◌, List, [], ◌∷◌, length, get_or, map, Bool, true, false, Option, Some, None, inl, inr, refl, ap, sym, ◌∙◌, subst, arith, pos, negsuc}
use Rattle.std.specs.Prelude.{◌==◌, slice_get}
use Rattle.std.specs.List.{All}
use Rattle.std.proofs.lemmas.Bool.{cases_lt}
use Rattle.std.proofs.lemmas.List.{get_or-map, get_or_past, length-map}
use Rattle.std.proofs.lemmas.List.Elements.{All-get_or, All-map}
use Rattle.std.proofs.lemmas.List.Quantifiers.{position-Some}
use Rattle.std.proofs.lemmas.Option.{get_or_from_slice_get, slice_get_within}
use Rattle.trace_text.specs.lisp_graph.Graph.{PartsReferBelow, RefersBelow, no_object, object_at, value_at, width}
use Rattle.trace_text.specs.lisp_graph.KeyedGraph.{KeyedGraph, code_of}
use Rattle.trace_text.specs.lisp_graph.declared.object.Value.{Value}
use Rattle.trace_text.specs.lisp_graph.declared.object.Value.TheVariants as V
use Rattle.trace_text.specs.lisp_graph.declared.object.Body.{Body}
use Rattle.trace_text.specs.lisp_graph.declared.object.Object.{Object}
use Rattle.trace_text.specs.lisp_graph.declared.walk.Seen.{Seen}
use Rattle.trace_text.specs.lisp_graph.declared.walk.Seen.TheVariants.{Fix, Nil, Cons, Block}
use Rattle.trace_text.specs.lisp_graph.Groups.{group_size, to_tail}
use Rattle.trace_text.specs.world_text.Numbering.{fields_of}
use Rattle.trace_text.specs.world_text.Spelling.{IsWritten}
use Rattle.trace_text.specs.world_text.Dump.{dumped_body, dumped_object, dumped_value, reference}
use Rattle.trace_text.proofs.world_text.writing_laws.Numbers.{number_of}
use Rattle.dump_laws.specs.Loaded.{load_first, loaded, loaded_from}
use Rattle.dump_laws.specs.Back.{IsInteger, IsWithin}
use Rattle.dump_laws.proofs.RenamedGraphs.{fields_long}
use Rattle.dump_laws.proofs.ObjectLines.{IsSayable, PartsWritten}
use Rattle.dump_laws.proofs.RootLines.{IsRoot}

-- Values

number_written : (keys : List ℕ) (key : ℕ) (found : Option ℕ) → number_of keys key ≡ found → length keys < 2 ^ 32 → IsRoot (length keys) (reference found)
number_written keys key None is few = (tt, tt)
number_written keys key (Some number) is few = let within = (position-Some (λ k. key == k) keys number 0 is).0 in (omega arith, within)

pub value_good : (keys : List ℕ) (value : Seen) → IsInteger value → length keys < 2 ^ 32 → IsRoot (length keys) (dumped_value keys value)
value_good keys (Fix (pos number)) small few = (small, tt)
value_good keys (Fix (negsuc number)) small few = (small, tt)
value_good keys Nil small few = (tt, tt)
value_good keys (Cons key) small few = number_written keys key (number_of keys key) refl few
value_good keys (Block key) small few = number_written keys key (number_of keys key) refl few

pub values_good : (keys : List ℕ) (values : List Seen) → All IsInteger values → length keys < 2 ^ 32 → All (IsRoot (length keys)) (map (dumped_value keys) values)
values_good keys values small few = All-map (IsRoot (length keys)) (dumped_value keys) values (λ index default within. value_good keys _ (small index default within) few)

-- what is true of values and of nil is true at each place
at_place : (P : Value → Type 0) (values : List Value) (place : ℕ) → P V.Nil → All P values → P (value_at values place)
at_place P values place nil holds = elim (cases_lt place (length values)) [
  | inl within ↦ All-get_or P values place V.Nil within holds
  | inr past ↦ subst P (sym (get_or_past values place V.Nil past)) nil
]

-- Objects

body_written : (count : ℕ) (cons : Bool) (code : ℕ) (values : List Value) → All (IsRoot count) values → PartsWritten (dumped_body cons code values)
body_written count true code values good = (at_place IsWritten values 0 tt (λ index default within. (good index default within).0), at_place IsWritten values 1 tt (λ index default within. (good index default within).0))
body_written count false code values good = λ index default within. (good index default within).0

body_refers : (count : ℕ) (cons : Bool) (code : ℕ) (values : List Value) → All (IsRoot count) values → PartsReferBelow count (dumped_body cons code values)
body_refers count true code values good = (at_place (RefersBelow count) values 0 tt (λ index default within. (good index default within).1), at_place (RefersBelow count) values 1 tt (λ index default within. (good index default within).1))
body_refers count false code values good = λ index default within. (good index default within).1

body_code : (cons : Bool) (code : ℕ) (values : List Value) → code ≤ 65535 → code_of (dumped_body cons code values) ≤ 65535
body_code true code values small = omega arith
body_code false code values small = small

body_wide : (cons : Bool) (code : ℕ) (values : List Value) → length values ≤ 2047 → width (dumped_body cons code values) ≤ 2047
body_wide true code values few = omega arith
body_wide false code values few = few

pub fields_count : (graph : KeyedGraph) (keys : List ℕ) (key : ℕ) → length (map (dumped_value keys) (fields_of graph key)) ≡ (graph.form key).length
fields_count graph keys key = length-map (fields_of graph key) (dumped_value keys) ∙ fields_long graph key 0 (graph.form key).length

-- a line can mean an object of a dump, which refers to others of the dump
pub object_good : (graph : KeyedGraph) (areas : ℕ) (keys : List ℕ) (key : ℕ) → IsWithin areas graph key → length keys < 2 ^ 32
    → IsSayable areas (dumped_object graph keys key) × PartsReferBelow (length keys) (dumped_object graph keys key).body
object_good graph areas keys key within few =
    let values : List Value = map (dumped_value keys) (fields_of graph key) in
    let good : All (IsRoot (length keys)) values = values_good keys (fields_of graph key) within.integers few in (
      record {
        within = within.area;
        code = body_code (graph.cons key) (graph.form key).code values within.code;
        wide = body_wide (graph.cons key) (graph.form key).code values (omega (arith, fields_count graph keys key, within.wide));
        written = body_written (length keys) (graph.cons key) (graph.form key).code values good;
      },
      body_refers (length keys) (graph.cons key) (graph.form key).code values good,
    )

-- Objects as they are read

pub first_body : (size : ℕ) (object : Object) → (load_first size object).body ≡ object.body
first_body zero object = refl
first_body (suc size) object = refl

pub first_area : (size : ℕ) (object : Object) → (load_first size object).area ≡ object.area
first_area zero object = refl
first_area (suc size) object = refl

pub loaded_long : (skip number : ℕ) (objects : List Object) → length (loaded_from skip number objects) ≡ length objects
loaded_long skip number [] = refl
loaded_long (suc skip) number (object ∷ objects) = ap suc (loaded_long skip (number + 1) objects)
loaded_long zero number (object ∷ objects) = ap suc (loaded_long (group_size (to_tail object.area number (object ∷ objects)) - 1) (number + 1) objects)

pub loaded_body : (skip number : ℕ) (objects : List Object) (index : ℕ) (default : Object) → (get_or (loaded_from skip number objects) index default).body ≡ (get_or objects index default).body
loaded_body skip number [] index default = refl
loaded_body (suc skip) number (object ∷ objects) zero default = refl
loaded_body (suc skip) number (object ∷ objects) (suc index) default = loaded_body skip (number + 1) objects index default
loaded_body zero number (object ∷ objects) zero default = first_body (group_size (to_tail object.area number (object ∷ objects))) object
loaded_body zero number (object ∷ objects) (suc index) default = loaded_body (group_size (to_tail object.area number (object ∷ objects)) - 1) (number + 1) objects index default

pub loaded_area : (skip number : ℕ) (objects : List Object) (index : ℕ) (default : Object) → (get_or (loaded_from skip number objects) index default).area ≡ (get_or objects index default).area
loaded_area skip number [] index default = refl
loaded_area (suc skip) number (object ∷ objects) zero default = refl
loaded_area (suc skip) number (object ∷ objects) (suc index) default = loaded_area skip (number + 1) objects index default
loaded_area zero number (object ∷ objects) zero default = first_area (group_size (to_tail object.area number (object ∷ objects))) object
loaded_area zero number (object ∷ objects) (suc index) default = loaded_area (group_size (to_tail object.area number (object ∷ objects)) - 1) (number + 1) objects index default

-- the object with a number
pub object_with : (graph : KeyedGraph) (keys : List ℕ) (number key : ℕ) → slice_get keys number ≡ Some key → object_at (map (dumped_object graph keys) keys) number ≡ dumped_object graph keys key
object_with graph keys number key is =
    get_or-map (dumped_object graph keys) keys number key no_object (slice_get_within keys number key is) ∙ ap (dumped_object graph keys) (get_or_from_slice_get keys number key key is)

pub body_with : (graph : KeyedGraph) (keys : List ℕ) (number key : ℕ) → slice_get keys number ≡ Some key → (object_at (loaded (map (dumped_object graph keys) keys)) number).body ≡ (dumped_object graph keys key).body
body_with graph keys number key is = loaded_body 0 0 (map (dumped_object graph keys) keys) number no_object ∙ ap (λ (o : Object). o.body) (object_with graph keys number key is)

pub area_with : (graph : KeyedGraph) (keys : List ℕ) (number key : ℕ) → slice_get keys number ≡ Some key → (object_at (loaded (map (dumped_object graph keys) keys)) number).area ≡ (graph.form key).area
area_with graph keys number key is = loaded_area 0 0 (map (dumped_object graph keys) keys) number no_object ∙ ap (λ (o : Object). o.area) (object_with graph keys number key is)

-- what is true of the bodies is true of those that are read
pub bodies_hold : (P : Body → Type 0) (skip number : ℕ) (objects : List Object) → All (λ object. P object.body) objects → All (λ object. P object.body) (loaded_from skip number objects)
bodies_hold P skip number objects holds = λ index default within. subst P (sym (loaded_body skip number objects index default)) (holds index default (omega (arith, within, loaded_long skip number objects)))
