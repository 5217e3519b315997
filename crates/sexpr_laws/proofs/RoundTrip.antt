-- The print of a world is compiled back.
use Rattle.std.proofs.Common.{◌≡◌, ℕ, ◌+◌, ◌<◌, ◌≤◌, ◌^◌, List, [], ◌∷◌, ◌++◌, length, map, get_or, Bool, true, false, Result, Ok, inl, inr, refl, ap, sym, ◌∙◌, subst, arith, length-append}
use Rattle.std.specs.Prelude.{◌==◌, if◌then◌else◌, nat_lt}
use Rattle.std.specs.List.{All}
use Rattle.std.proofs.lemmas.Bool.Decides.{nat_tests}
use Rattle.std.proofs.lemmas.List.{get_or_default, get_or_past}
use Rattle.std.proofs.lemmas.List.Elements.{All-cons, All-get_or, All-map, All-nil, All-push}
use Rattle.std.proofs.lemmas.List.Sums.{get_or-le-sum_by}
use Rattle.file_modes.specs.lisp_graph.Graph.{Graph, IsObject, no_object, object_at, value_at}
use Rattle.file_modes.specs.lisp_graph.KeyedGraph.{KeyedGraph, Shows, keyed, part_of, keyed_value}
use Rattle.file_modes.specs.lisp_graph.World.{IsCharge, opening}
use Rattle.file_modes.specs.lisp_graph.declared.object.Value.{Value}
use Rattle.file_modes.specs.lisp_graph.declared.object.Value.TheVariants.{Fix, Nil, Ref}
use Rattle.file_modes.specs.lisp_graph.declared.object.Body.{Body}
use Rattle.file_modes.specs.lisp_graph.declared.object.Body.TheVariants.{Cons, Block}
use Rattle.file_modes.specs.lisp_graph.declared.object.Object.{Object}
use Rattle.file_modes.specs.lisp_graph.declared.world.World.{World}
use Rattle.file_modes.specs.world_text.Dump.{IsDump}
use Rattle.file_modes.specs.world_text.Limits.{IsAccepted}
use Rattle.file_modes.specs.world_text.Numbering.{IsNumbering, seen_as}
use Rattle.file_modes.specs.world_text.Next.{◌>>=◌}
use Rattle.file_modes.specs.sexpr_text.declared.token.Token.{Token}
use Rattle.file_modes.specs.sexpr_text.declared.token.Token.TheVariants.{EndSexpr}
use Rattle.file_modes.specs.sexpr_text.declared.fault.SexprFault.{SexprFault}
use Rattle.file_modes.specs.sexpr_text.Meaning.{graph_behind, meaning}
use Rattle.file_modes.specs.sexpr_print.Places.{held, is_among, is_shared, parts}
use Rattle.file_modes.specs.sexpr_print.Spelling.{IsPrint, header_text, lines_text}
use Rattle.sexpr_laws.specs.Spellable.{AreSpellable, CanSpell}
use Rattle.sexpr_laws.specs.ReadBack.{headed, in_order, line_behind}
use Rattle.sexpr_laws.proofs.Tokens.{tokens_back}
use Rattle.sexpr_laws.proofs.TokenSizes.{lines_short}
use Rattle.sexpr_laws.proofs.Headers.{header_back}
use Rattle.file_modes.proofs.dump_laws.NumberingGrowth.{HasNumber, grows_none, numbering_one}
use Rattle.file_modes.proofs.dump_laws.RenamedGraphs.{at_key, dump_one, dump_renamed}
use Rattle.file_modes.proofs.dump_laws.Totals.{total_bound}
use Rattle.file_modes.proofs.dump_laws.KeyNumbers.{Within}
use Rattle.sexpr_laws.specs.Compiled.{FitsTypes, HasIntegers, IsCompiledBack}
use Rattle.sexpr_laws.proofs.Counts.{held_refs, parts_at, refs, true_false}
use Rattle.sexpr_laws.proofs.Copies.{copies, value_in}
use Rattle.sexpr_laws.proofs.Expressions.{Context}
use Rattle.sexpr_laws.proofs.PrinterState.{Going, IsFine, IsSetting}
use Rattle.sexpr_laws.proofs.Labels.{place_at, place_of}
use Rattle.sexpr_laws.proofs.ReachableNames.{IsClosed, number_seen, numbering_within, numbers_closed, numbers_registers, ref_counts}
use Rattle.sexpr_laws.proofs.CompiledWorld.{IsNamed, copies_charged, copies_renamed, graph_in}
use Rattle.sexpr_laws.proofs.PrintedRoots.{all_going, prints_to}
use Rattle.sexpr_laws.proofs.Sizes.{AreSmall, AreWritable, IsWritable, all_small, charges}
use Rattle.sexpr_laws.proofs.Totals.{charges_within, fewer_names}
use Rattle.sexpr_laws.proofs.WholeTexts.{graph_read, in_order_append}

-- Names

-- each named object occurs in the list
shown_below : (objects : List Object) (graph : KeyedGraph) (key : ℕ) → ((k : ℕ) → graph.has k ≡ nat_lt k (length objects)) → Shows graph (seen_as (graph.cons key) key) → key < length objects
shown_below objects graph key has shows = of_test (graph.cons key) shows
  where
    there : graph.has key ≡ true → key < length objects
    there is = let e = sym (has key) ∙ is in grind (arith, nat_tests, e)

    of_test : (b : Bool) → Shows graph (seen_as b key) → key < length objects
    of_test true is = there is.0
    of_test false is = there is.0

names_stand : (world : World) (names : List ℕ) (dump : List ℕ) → IsNumbering (keyed (opening world)) names → IsDump (keyed (opening world)) world.space world.areas dump → (name : ℕ) → is_among names name ≡ true → name < length world.objects
names_stand world names dump reached is name among =
    let graph : KeyedGraph = keyed (opening world) in
    let e : names ≡ is.keys = numbering_one graph names is.keys reached is.numbering in
    shown_below world.objects graph name (λ k. refl) (at_key (λ key. Shows graph (seen_as (graph.cons key) key)) is.keys name is.shown.objects (subst (λ (l : List ℕ). is_among l name ≡ true) e among))

-- What is known of a world

-- an object of an accepted world
fine_at : (world : World) (name : ℕ) → IsAccepted world → FitsTypes world → name < length world.objects → IsFine (object_at world.objects name)
fine_at world name accepted fits below = record {
  charge = All-get_or (λ (o : Object). IsCharge o.body o.charge) world.objects name no_object below accepted.limits.charged;
  wide = (All-get_or (IsObject (length world.objects)) world.objects name no_object below accepted.limits.graph.objects).wide;
  code = (All-get_or HasIntegers world.objects name no_object below fits.objects).code;
}

writable_at : (world : World) (name : ℕ) → IsAccepted world → FitsTypes world → name < length world.objects → IsWritable (length world.areas) (object_at world.objects name)
writable_at world name accepted fits below =
    let fine = fine_at world name accepted fits below in
    record {
      within = All-get_or (λ (o : Object). o.area < length world.areas) world.objects name no_object below accepted.limits.placed;
      charge = fine.charge;
      code = fine.code;
      integers = (All-get_or HasIntegers world.objects name no_object below fits.objects).parts_fit;
    }

setting_of : (world : World) (names : List ℕ) → IsAccepted world → FitsTypes world → IsNumbering (keyed (opening world)) names → ((name : ℕ) → is_among names name ≡ true → name < length world.objects)
    → IsSetting (opening world) names (is_shared (held (opening world) names))
setting_of world names accepted fits reached stand = record {
  twice = λ name two. more_than_one (refs name (held (opening world) names)) two;
  closed = λ name other is some. numbers_closed (opening world) names name other reached is some;
  fine = λ name is. fine_at world name accepted fits (stand name is);
}
  where
    more_than_one : (n : ℕ) → 2 ≤ n → nat_lt 1 n ≡ true
    more_than_one n two = grind (arith, nat_tests)

going_start : (graph : Graph) (names : List ℕ) → IsNumbering (keyed graph) names → Going graph names [] graph.registers
going_start graph names reached = record {
  fits = λ name. omega (arith, held_refs graph name []);
  left = λ name fresh. omega (arith, held_refs graph name []);
  distinct = tt;
  within = λ name is. absurd (cc (is));
  named = λ name some. numbers_registers graph names name reached some;
}

-- What was printed in the end

-- what is held is printed
held_printed : (graph : Graph) (names after : List ℕ) (name : ℕ) → Going graph names after [] → 1 ≤ refs name (held graph after) → is_among after name ≡ true
held_printed graph names after name going some = elim (true_false (is_among after name)) [
  | inl is ↦ is
  | inr fresh ↦ let none_left = going.left name fresh in absurd (omega (arith, some, none_left))
]

value_named : (all : List ℕ) (value : Value) → ((name : ℕ) → value ≡ Ref name → is_among all name ≡ true) → IsNamed all value
value_named all (Fix i) knows = tt
value_named all Nil knows = tt
value_named all (Ref name) knows = knows name refl

values_named : (all : List ℕ) (values : List Value) (index : ℕ) → ((name : ℕ) → 1 ≤ refs name values → is_among all name ≡ true) → IsNamed all (value_at values index)
values_named all values index knows = elim (true_false (nat_lt index (length values))) [
  | inl is ↦ let within : index < length values = grind (arith, nat_tests, is) in value_named all (value_at values index) (λ name same. knows name (ref_counts values name index within same))
  | inr past ↦ let behind : length values ≤ index = grind (arith, nat_tests, past) in subst (λ (v : Value). IsNamed all v) (sym (get_or_past values index Nil behind)) tt
]

part_named : (all : List ℕ) (body : Body) (index : ℕ) → ((name : ℕ) → 1 ≤ refs name (parts body) → is_among all name ≡ true) → IsNamed all (part_of body index)
part_named all (Cons car cdr) index knows = of_test (index == 0)
  where
    of_test : (b : Bool) → IsNamed all (if b then car else cdr)
    of_test true = values_named all (car ∷ cdr ∷ []) 0 knows
    of_test false = values_named all (car ∷ cdr ∷ []) 1 knows
part_named all (Block code fields) index knows = values_named all fields index knows

registers_printed : (graph : Graph) (names after : List ℕ) → Going graph names after [] → (index : ℕ) → IsNamed after (value_at graph.registers index)
registers_printed graph names after going index =
    values_named after graph.registers index (λ name some. held_printed graph names after name going (omega (arith, some, held_refs graph name after)))

parts_printed : (graph : Graph) (names after : List ℕ) → Going graph names after [] → (name index : ℕ) → is_among after name ≡ true → IsNamed after (part_of (object_at graph.objects name).body index)
parts_printed graph names after going name index is =
    let at = place_at after name is in
    part_named after (object_at graph.objects name).body index (λ other some.
    let here : refs other (parts_at graph (get_or after (place_of after name) 0)) ≡ refs other (parts_at graph name) = ap (λ n. refs other (parts_at graph n)) (at.is 0) in
    held_printed graph names after other going (omega (arith, some, held_refs graph other after, here, get_or-le-sum_by (λ n. refs other (parts_at graph n)) after (place_of after name) 0 at.below)))

named_number : (objects : List Object) (all : List ℕ) (value : Value) → IsNamed all value → HasNumber all (keyed_value objects value)
named_number objects all (Fix i) is = tt
named_number objects all Nil is = tt
named_number objects all (Ref name) is = number_seen objects all name is

-- each name is printed
names_printed : (graph : Graph) (names after keys : List ℕ) → Going graph names after [] → IsNumbering (keyed graph) keys → Within keys after
names_printed graph names after keys going numbering =
    let closed : IsClosed (keyed graph) after = λ key index is. named_number graph.objects after (part_of (object_at graph.objects key).body index) (parts_printed graph names after going key index is) in
    let registers : All (HasNumber after) (map (keyed_value graph.objects) graph.registers) =
    All-map (HasNumber after) (keyed_value graph.objects) graph.registers (λ index default within.
    subst (λ (v : Value). HasNumber after (keyed_value graph.objects v)) (get_or_default graph.registers index Nil default within) (named_number graph.objects after (value_at graph.registers index) (registers_printed graph names after going index))) in
    numbering_within (keyed graph) keys after numbering closed registers

-- The text

-- the text of what was printed is short, and spells its tokens
record IsText (world : World) (lines : List (List Token)) : Type 0 where
  spelled : All (AreSpellable world.areas) (lines ++ (EndSexpr ∷ []) ∷ [])
  short : length (headed world (lines_text world.areas (lines ++ (EndSexpr ∷ []) ∷ []))) ≤ 2 ^ 40

text_of_lines : (world : World) (lines : List (List Token)) (after : List ℕ) → IsAccepted world → AreSmall world.areas world.objects [] after lines (length world.roots) → charges world.objects after ≤ 16777216 → IsText world lines
text_of_lines world lines after accepted small charged =
    let last : List Token = EndSexpr ∷ [] in
    let all : List (List Token) = lines ++ last ∷ [] in
    let text : List ℕ = lines_text world.areas all in
    let spelled : All (AreSpellable world.areas) all = All-push (AreSpellable world.areas) lines last small.spelled (All-cons (CanSpell world.areas) EndSexpr [] tt (All-nil (CanSpell world.areas))) in
    let few : length world.roots ≤ 256 = omega (arith, accepted.limits.roots, accepted.limits.space.registers.1) in
    let tokens : length (in_order all) ≡ length (in_order lines) + 1 = ap length (in_order_append lines last) ∙ length-append (in_order lines) last in
    let rows : length all ≡ length lines + 1 = length-append lines (last ∷ []) in
    let bytes = lines_short world.areas all accepted.named spelled in
    let head = (header_back world text accepted).short in
    record {
      spelled = spelled;
      short = omega (arith, small.long, small.few, few, tokens, rows, bytes, head, charged, length-append (header_text world.space world.areas) text);
    }

-- the world with this graph
abbrev pub with_graph : World → List Object × List Value → Result World SexprFault
with_graph world graph = Ok (record world { objects = graph.0; roots = graph.1 })

pub compiled_back : (world : World) (text dump : List ℕ) → IsAccepted world → FitsTypes world → IsPrint world text → IsDump (keyed (opening world)) world.space world.areas dump → IsCompiledBack text dump
compiled_back world text dump accepted fits print is =
    let graph : Graph = opening world in
    let names : List ℕ = print.names in
    let stand = names_stand world names dump print.reached is in
    let setting = setting_of world names accepted fits print.reached stand in
    let whole = prints_to print.prints in
    let after : List ℕ = whole.after in
    let start = going_start graph names print.reached in
    let going = all_going whole.prints world.roots names setting start in
    let keys : names ≡ is.keys = numbering_one (keyed graph) names is.keys print.reached is.numbering in
    let few : length after < 2 ^ 32 = omega (arith, fewer_names after names going.distinct going.within, ap length keys, is.few) in
    let can : AreWritable (length world.areas) world.objects after = record { each = λ name among. writable_at world name accepted fits (stand name (going.within name among)); few = few } in
    let small = all_small whole.prints world.areas after can (grows_none after) fits.roots (omega (arith, accepted.limits.roots, accepted.limits.space.registers.1)) in
    let bound = total_bound world.areas world.objects accepted.limits.areas.count.1 accepted.limits.areas.quotas accepted.limits.placed accepted.quotas in
    let charged = charges_within world.objects after going.distinct (λ name among. stand name (going.within name among)) in
    let written = text_of_lines world print.lines after accepted small (omega (arith, bound, charged)) in
    let context : Context world.objects (is_shared (held graph names)) = record { registers = world.roots; names = names; all = after; setting = setting } in
    let behind : List ℕ = lines_text world.areas (print.lines ++ (EndSexpr ∷ []) ∷ []) in
    let read = graph_read world.objects (is_shared (held graph names)) world.roots print.lines after context whole.prints refl start world.areas (line_behind world.areas) behind
    (tokens_back world.areas (line_behind world.areas) (print.lines ++ (EndSexpr ∷ []) ∷ []) accepted.named written.spelled) in
    let within = names_printed graph names after is.keys going is.numbering in
    let same : IsDump (keyed (graph_in graph after)) world.space world.areas dump =
    dump_renamed (place_of after) (keyed graph) (keyed (graph_in graph after)) world.space world.areas dump is
    (copies_renamed graph is.keys after within (λ index _. registers_printed graph names after going index) (λ name index among. parts_printed graph names after going name index among))
    (copies_charged graph is.keys after within) in
    record {
      back = record world { objects = copies world.objects after after; roots = map (value_in after) world.roots };
      means = ap meaning print.is
          ∙ (header_back world behind accepted).means written.short
          ∙ ap (λ (n : ℕ). graph_behind world.areas n (line_behind world.areas) behind >>= with_graph world) (sym accepted.limits.roots)
          ∙ ap (λ (r : Result (List Object × List Value) SexprFault). r >>= with_graph world) read;
      same = same;
      only = λ other again. dump_one (keyed (graph_in graph after)) world.space world.areas other dump again same;
    }
