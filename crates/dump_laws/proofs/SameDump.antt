-- The world that a dump means has the same dump.
use Rattle.std.proofs.Common.{◌≡◌, ℕ, zero, suc, ◌<◌, List, [], ◌∷◌, ◌++◌, length, get_or, map, Bool, true, false, Option, Some, refl, ap, sym, ◌∙◌, arith}
use Rattle.std.specs.Prelude.{slice_get, unwrap_or}
use Rattle.std.specs.List.{All}
use Rattle.std.proofs.lemmas.Bool.Decides.{nat_tests}
use Rattle.std.proofs.lemmas.List.{get_or-map, get_or_default, length-map, same_lists}
use Rattle.std.proofs.lemmas.List.Elements.{All-head, All-tail}
use Rattle.std.proofs.lemmas.Option.{slice_get-get_or, slice_get_within}
use Rattle.trace_text.specs.store_word.declared.space.Space.{Space}
use Rattle.trace_text.specs.lisp_graph.Graph.{no_object, object_at, value_at, width}
use Rattle.trace_text.specs.lisp_graph.KeyedGraph.{KeyedGraph, Shows, code_of, is_cons, keyed, part_of, keyed_value, seen_body}
use Rattle.trace_text.specs.lisp_graph.World.{opening}
use Rattle.trace_text.specs.lisp_graph.declared.object.Value.{Value}
use Rattle.trace_text.specs.lisp_graph.declared.object.Value.TheVariants as V
use Rattle.trace_text.specs.lisp_graph.declared.object.Body.{Body}
use Rattle.trace_text.specs.lisp_graph.declared.object.Object.{Object}
use Rattle.trace_text.specs.lisp_graph.declared.walk.Seen.{Seen}
use Rattle.trace_text.specs.lisp_graph.declared.walk.Seen.TheVariants.{Fix, Nil, Cons, Block}
use Rattle.trace_text.specs.lisp_graph.declared.world.AreaRule.{AreaRule}
use Rattle.trace_text.specs.world_text.Numbering.{IsNumbering, fields_of, is_numbered, seen_as}
use Rattle.trace_text.specs.world_text.File.{file_text, head_lines, root_lines_of, text_of}
use Rattle.trace_text.specs.world_text.Spelling.{WorldLine, ClosingLine}
use Rattle.trace_text.specs.world_text.Dump.{IsDump, dumped_body, dumped_object, dumped_value, reference}
use Rattle.trace_text.proofs.world_text.writing_laws.Numbers.{number_of}
use Rattle.dump_laws.specs.Renamed.{IsRenamed, renamed}
use Rattle.dump_laws.specs.Loaded.{loaded}
use Rattle.dump_laws.specs.Back.{read_world}
use Rattle.dump_laws.proofs.KeyNumbers.{OnceEach, numbered_place}
use Rattle.dump_laws.proofs.NumberingGrowth.{HasNumber, numbering_once, numbering_registers}
use Rattle.dump_laws.proofs.RenamedGraphs.{IsWhole, at_field, at_key, field_from, fields_dumped, fields_long, names_map, numbering_renamed, shown_renamed, values_renamed, whole_graph}
use Rattle.dump_laws.proofs.LoadedObjects.{lines_stay}
use Rattle.dump_laws.proofs.DumpContents.{area_with, body_with, fields_count, loaded_long}

-- the number of a key
abbrev pub named : List ℕ → ℕ → ℕ
named keys key = unwrap_or (number_of keys key) 0

-- a key of the list and its number
pub record IsNamed (keys : List ℕ) (key : ℕ) : Type 0 where
  pub is : number_of keys key ≡ Some (named keys key)
  pub at : slice_get keys (named keys key) ≡ Some key

pub key_named : (keys : List ℕ) (key : ℕ) → OnceEach keys → is_numbered keys key ≡ true → IsNamed keys key
key_named keys key once is =
    let place = numbered_place keys key is in
    let number : number_of keys key ≡ Some place.0 = once place.0 key place.3 in
    let e : named keys key ≡ place.0 = ap (λ (o : Option ℕ). unwrap_or o 0) number in
    record { is = number ∙ ap Some (sym e); at = ap (slice_get keys) e ∙ place.3 }

keys_apart : (keys : List ℕ) → OnceEach keys → (one two : ℕ) → is_numbered keys one ≡ true → is_numbered keys two ≡ true → named keys one ≡ named keys two → one ≡ two
keys_apart keys once one two first second same =
    let e : Some one ≡ Some two = sym (key_named keys one once first).at ∙ ap (slice_get keys) same ∙ (key_named keys two once second).at in
    cc (e)

-- The graph of the world

body_seen : (number : ℕ) (cons : Bool) (code : ℕ) (values : List Value) → seen_body number (dumped_body cons code values) ≡ seen_as cons number
body_seen number true code values = refl
body_seen number false code values = refl

body_cons : (cons : Bool) (code : ℕ) (values : List Value) → is_cons (dumped_body cons code values) ≡ cons
body_cons true code values = refl
body_cons false code values = refl

body_code : (cons : Bool) (code : ℕ) (values : List Value) → (cons ≡ true → code ≡ 0) → code_of (dumped_body cons code values) ≡ code
body_code true code values none = sym (none refl)
body_code false code values none = refl

body_width : (cons : Bool) (code : ℕ) (values : List Value) → (cons ≡ true → length values ≡ 2) → width (dumped_body cons code values) ≡ length values
body_width true code values two = sym (two refl)
body_width false code values two = refl

body_part : (cons : Bool) (code : ℕ) (values : List Value) (index : ℕ) → (cons ≡ true → length values ≡ 2) → index < length values → part_of (dumped_body cons code values) index ≡ value_at values index
body_part true code values zero two within = refl
body_part true code values (suc zero) two within = refl
body_part true code values (suc (suc index)) two within = let t = two refl in absurd (omega arith)
body_part false code values index two within = refl

-- a cons that is shown has two fields and code 0
cons_form : (graph : KeyedGraph) (key : ℕ) → Shows graph (seen_as (graph.cons key) key) → graph.cons key ≡ true → ((graph.form key).length ≡ 2) × ((graph.form key).code ≡ 0)
cons_form graph key shows cons = form (graph.cons key) shows cons
  where
    form : (b : Bool) → Shows graph (seen_as b key) → b ≡ true → ((graph.form key).length ≡ 2) × ((graph.form key).code ≡ 0)
    form true one is = (one.1, one.2)
    form false one is = absurd (cc (is))

-- a value, read again
value_again : (graph : KeyedGraph) (keys : List ℕ) (value : Seen) → OnceEach keys → HasNumber keys value → Shows graph value
    → keyed_value (loaded (map (dumped_object graph keys) keys)) (dumped_value keys value) ≡ renamed (named keys) value
value_again graph keys (Fix number) once has shows = refl
value_again graph keys Nil once has shows = refl
value_again graph keys (Cons key) once has shows =
    let objects : List Object = loaded (map (dumped_object graph keys) keys) in
    let name = key_named keys key once has in
    let values : List Value = map (dumped_value keys) (fields_of graph key) in
    ap (λ (o : Option ℕ). keyed_value objects (reference o)) name.is
    ∙ ap (seen_body (named keys key)) (body_with graph keys (named keys key) key name.at)
    ∙ body_seen (named keys key) (graph.cons key) (graph.form key).code values
    ∙ ap (λ b. seen_as b (named keys key)) shows.3
value_again graph keys (Block key) once has shows =
    let objects : List Object = loaded (map (dumped_object graph keys) keys) in
    let name = key_named keys key once has in
    let values : List Value = map (dumped_value keys) (fields_of graph key) in
    ap (λ (o : Option ℕ). keyed_value objects (reference o)) name.is
    ∙ ap (seen_body (named keys key)) (body_with graph keys (named keys key) key name.at)
    ∙ body_seen (named keys key) (graph.cons key) (graph.form key).code values
    ∙ ap (λ b. seen_as b (named keys key)) shows.1

values_again : (graph : KeyedGraph) (keys : List ℕ) (values : List Seen) → OnceEach keys → All (HasNumber keys) values → All (Shows graph) values
    → map (keyed_value (loaded (map (dumped_object graph keys) keys))) (map (dumped_value keys) values) ≡ map (renamed (named keys)) values
values_again graph keys [] once has shows = refl
values_again graph keys (value ∷ values) once has shows =
    rw (
      value_again graph keys value once (All-head (HasNumber keys) value values has) (All-head (Shows graph) value values shows),
      values_again graph keys values once (All-tail (HasNumber keys) value values has) (All-tail (Shows graph) value values shows),
    ) refl

-- a field, read again
field_again : (graph : KeyedGraph) (keys : List ℕ) (key index : ℕ) → OnceEach keys → IsWhole graph keys → is_numbered keys key ≡ true → index < (graph.form key).length
    → keyed_value (loaded (map (dumped_object graph keys) keys)) (part_of (object_at (loaded (map (dumped_object graph keys) keys)) (named keys key)).body index) ≡ renamed (named keys) (graph.field key index)
field_again graph keys key index once whole is within =
    let objects : List Object = loaded (map (dumped_object graph keys) keys) in
    let name = key_named keys key once is in
    let values : List Value = map (dumped_value keys) (fields_of graph key) in
    let count : length values ≡ (graph.form key).length = fields_count graph keys key in
    let shows = at_key (λ k. Shows graph (seen_as (graph.cons k) k)) keys key whole.shown.objects is in
    let two : graph.cons key ≡ true → length values ≡ 2 = λ cons. count ∙ (cons_form graph key shows cons).0 in
    let read : value_at values index ≡ dumped_value keys (graph.field key index) =
    get_or-map (dumped_value keys) (fields_of graph key) index Nil V.Nil (omega (arith, within, fields_long graph key 0 (graph.form key).length))
    ∙ ap (dumped_value keys) (field_from graph key 0 (graph.form key).length index Nil within ∙ ap (graph.field key) (omega arith)) in
    ap (λ (b : Body). keyed_value objects (part_of b index)) (body_with graph keys (named keys key) key name.at)
    ∙ ap (keyed_value objects) (body_part (graph.cons key) (graph.form key).code values index two (omega (arith, count, within)) ∙ read)
    ∙ value_again graph keys (graph.field key index) once (at_field (HasNumber keys) graph key index (whole.numbered key is) within)
    (at_field (Shows graph) graph key index (at_key (λ k. All (Shows graph) (fields_of graph k)) keys key whole.shown.fields is) within)

pub world_renamed : (graph : KeyedGraph) (keys : List ℕ) (space : Space) (areas : List AreaRule) → IsNumbering graph keys → IsWhole graph keys
    → IsRenamed (named keys) keys graph (keyed (opening (read_world graph keys space areas)))
world_renamed graph keys space areas numbering whole =
    let once = numbering_once graph keys numbering in
    let objects : List Object = loaded (map (dumped_object graph keys) keys) in
    let long : length objects ≡ length keys = loaded_long 0 0 (map (dumped_object graph keys) keys) ∙ length-map keys (dumped_object graph keys) in
    let shows = λ (key : ℕ) (is : is_numbered keys key ≡ true). at_key (λ k. Shows graph (seen_as (graph.cons k) k)) keys key whole.shown.objects is in
    record {
      apart = keys_apart keys once;
      registers = values_again graph keys graph.registers once (numbering_registers graph keys numbering) whole.shown.registers;
      has = λ key is. let within = slice_get_within keys (named keys key) key (key_named keys key once is).at in grind (arith, nat_tests, within, long);
      kinds = λ key is.
          ap is_cons (body_with graph keys (named keys key) key (key_named keys key once is).at) ∙ body_cons (graph.cons key) (graph.form key).code (map (dumped_value keys) (fields_of graph key));
      areas = λ key is. area_with graph keys (named keys key) key (key_named keys key once is).at;
      codes = λ key is.
          ap code_of (body_with graph keys (named keys key) key (key_named keys key once is).at)
          ∙ body_code (graph.cons key) (graph.form key).code (map (dumped_value keys) (fields_of graph key)) (λ cons. (cons_form graph key (shows key is) cons).1);
      lengths = λ key is.
          ap width (body_with graph keys (named keys key) key (key_named keys key once is).at)
          ∙ body_width (graph.cons key) (graph.form key).code (map (dumped_value keys) (fields_of graph key)) (λ cons. fields_count graph keys key ∙ (cons_form graph key (shows key is) cons).0)
          ∙ fields_count graph keys key;
      fields = λ key index is within. field_again graph keys key index once whole is within;
    }

-- Its dump

object_again : (graph : KeyedGraph) (keys : List ℕ) (space : Space) (areas : List AreaRule) (key : ℕ) → OnceEach keys → IsWhole graph keys → IsRenamed (named keys) keys graph (keyed (opening (read_world graph keys space areas)))
    → is_numbered keys key ≡ true
    → dumped_object (keyed (opening (read_world graph keys space areas))) (map (named keys) keys) (named keys key) ≡ object_at (loaded (map (dumped_object graph keys) keys)) (named keys key)
object_again graph keys space areas key once whole same is =
    let other : KeyedGraph = keyed (opening (read_world graph keys space areas)) in
    let objects : List Object = loaded (map (dumped_object graph keys) keys) in
    let object : Object = object_at objects (named keys key) in
    let parts : map (dumped_value (map (named keys) keys)) (fields_of other (named keys key)) ≡ map (dumped_value keys) (fields_of graph key) = fields_dumped (named keys) keys graph other key same whole is in
    let body : dumped_body (other.cons (named keys key)) (other.form (named keys key)).code (map (dumped_value (map (named keys) keys)) (fields_of other (named keys key))) ≡ object.body =
    ap (λ (values : List Value). dumped_body (other.cons (named keys key)) (other.form (named keys key)).code values) parts
    ∙ ap (λ b. dumped_body b (other.form (named keys key)).code (map (dumped_value keys) (fields_of graph key))) (same.kinds key is)
    ∙ ap (λ c. dumped_body (graph.cons key) c (map (dumped_value keys) (fields_of graph key))) (same.codes key is)
    ∙ sym (body_with graph keys (named keys key) key (key_named keys key once is).at) in
    ap (λ (b : Body). record { area = object.area; charge = object.charge; body = b }) body

objects_again : (graph : KeyedGraph) (keys : List ℕ) → OnceEach keys → map (λ key. object_at (loaded (map (dumped_object graph keys) keys)) (named keys key)) keys ≡ loaded (map (dumped_object graph keys) keys)
objects_again graph keys once =
    let objects : List Object = loaded (map (dumped_object graph keys) keys) in
    let long : length objects ≡ length keys = loaded_long 0 0 (map (dumped_object graph keys) keys) ∙ length-map keys (dumped_object graph keys) in
    let each : ℕ → Object = λ key. object_at objects (named keys key) in
    same_lists (map each keys) objects (length-map keys each ∙ sym long)
    (λ number default within.
    let inside : number < length keys = omega (arith, within, length-map keys each) in
    let key : ℕ = get_or keys number 0 in
    let name : named keys key ≡ number = ap (λ (o : Option ℕ). unwrap_or o 0) (once number key (slice_get-get_or keys number 0 inside)) in
    get_or-map each keys number 0 default inside ∙ ap (object_at objects) name ∙ get_or_default objects number no_object default (omega (arith, inside, long)))

pub dump_again : (graph : KeyedGraph) (space : Space) (areas : List AreaRule) (text : List ℕ) (dump : IsDump graph space areas text) → IsDump (keyed (opening (read_world graph dump.keys space areas))) space areas text
dump_again graph space areas text dump =
    let keys : List ℕ = dump.keys in
    let whole = whole_graph graph keys dump.numbering dump.shown in
    let once = numbering_once graph keys dump.numbering in
    let other : KeyedGraph = keyed (opening (read_world graph keys space areas)) in
    let same = world_renamed graph keys space areas dump.numbering whole in
    let first : List Object = map (dumped_object graph keys) keys in
    let names : List ℕ = map (named keys) keys in
    let roots : List Value = map (dumped_value keys) graph.registers in
    let objects : map (dumped_object other names) names ≡ loaded first =
    names_map (dumped_object other names) (λ key. object_at (loaded first) (named keys key)) (named keys) keys (λ key is. object_again graph keys space areas key once whole same is) ∙ objects_again graph keys once in
    let registers : map (dumped_value names) other.registers ≡ roots =
    ap (map (dumped_value names)) same.registers ∙ values_renamed (named keys) keys graph other graph.registers same (numbering_registers graph keys dump.numbering) in
    record {
      keys = names;
      numbering = numbering_renamed (named keys) graph other keys dump.numbering same whole;
      shown = shown_renamed (named keys) graph other keys dump.numbering same whole;
      few = omega (arith, dump.few, length-map keys (named keys));
      is = dump.is
          ∙ ap (λ (lines : List WorldLine). text_of areas (head_lines space areas ++ lines ++ root_lines_of 0 roots ++ ClosingLine true ∷ [])) (sym (lines_stay 0 0 first))
          ∙ ap (λ (o : List Object). file_text space areas o roots) (sym objects)
          ∙ ap (file_text space areas (map (dumped_object other names) names)) (sym registers);
    }
