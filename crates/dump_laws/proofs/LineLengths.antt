-- How long the lines of a dump are.
use Rattle.std.proofs.Common.{◌≡◌, ℕ, zero, suc, ◌+◌, ◌-◌, ◌*◌, ◌<◌, ◌≤◌, ◌^◌, List, [], ◌∷◌, ◌++◌, length, take, drop, map, Bool, true, false, refl, ap, sym, ◌∙◌, subst, arith, pos, negsuc, decimal, codes, length-append, length-take-le}
use Rattle.std.specs.Prelude.{◌==◌, ◌||◌, if◌then◌else◌, nat_lt, sum_by}
use Rattle.std.specs.List.{All}
use Rattle.std.proofs.lemmas.Bool.Decides.{nat_tests}
use Rattle.std.proofs.lemmas.Fmt.{length-decimal-le}
use Rattle.std.proofs.lemmas.List.{length-map}
use Rattle.std.proofs.lemmas.List.Elements.{All-append, All-cons, All-head, All-nil, All-tail, All-take}
use Rattle.std.proofs.lemmas.List.Sums.{sum_by-append}
use Rattle.trace_text.specs.store_word.declared.space.Space.{Space}
use Rattle.trace_text.specs.lisp_graph.Name.{is_name}
use Rattle.trace_text.specs.lisp_graph.Graph.{width}
use Rattle.trace_text.specs.lisp_graph.KeyedGraph.{code_of}
use Rattle.trace_text.specs.lisp_graph.World.{IsSpace}
use Rattle.trace_text.specs.lisp_graph.Effect.{cell_of, link, list_from}
use Rattle.trace_text.specs.lisp_graph.declared.object.Value.{Value}
use Rattle.trace_text.specs.lisp_graph.declared.object.Value.TheVariants.{Fix, Nil, Ref}
use Rattle.trace_text.specs.lisp_graph.declared.object.Body.{Body}
use Rattle.trace_text.specs.lisp_graph.declared.object.Body.TheVariants.{Cons, Block}
use Rattle.trace_text.specs.lisp_graph.declared.object.Object.{Object}
use Rattle.trace_text.specs.lisp_graph.declared.world.AreaKind.{AreaKind}
use Rattle.trace_text.specs.lisp_graph.declared.world.AreaKind.TheVariants.{Static, Dynamic, Ephemeral}
use Rattle.trace_text.specs.lisp_graph.declared.world.AreaRule.{AreaRule}
use Rattle.trace_text.specs.lisp_graph.Groups.{group_size, to_tail}
use Rattle.trace_text.specs.world_text.Limits.{AreNamed}
use Rattle.trace_text.specs.world_text.File.{head_lines, line_of_size, object_line, object_lines_of, root_lines_of, text_of}
use Rattle.trace_text.specs.world_text.Spelling.{IsWritten, WorldLine, AreaLine, CapacityLine, FormatLine, RootLine, RunLine, SpaceLine, kind_text, line_of, name_of, spaced, spelled, value_text}
use Rattle.dump_laws.specs.Loaded.{load_first, loaded_from, own_charge}
use Rattle.dump_laws.proofs.LoadedObjects.{car_in, group_is, loaded_parts, size_is}
use Rattle.dump_laws.proofs.ObjectLines.{IsSayable, PartsWritten, cars_written}
use Rattle.dump_laws.proofs.RootLines.{IsRoot}

-- Words

number_short : (number : ℕ) → number < 2 ^ 32 → length (decimal number) ≤ 10
number_short number small = length-decimal-le 10 number (omega arith) (omega arith) (omega arith)

value_short : (value : Value) → IsWritten value → length (value_text value) ≤ 11
value_short (Fix (pos number)) small = let d = number_short number (omega arith) in omega arith
value_short (Fix (negsuc number)) small = let d = number_short (suc number) (omega arith) in omega arith
value_short Nil small = omega arith
value_short (Ref number) small = let d = number_short number small in omega arith

name_short : (name : List ℕ) → is_name name ≡ true → length name ≤ 16
name_short name is = of_test (length name == 0 || nat_lt 16 (length name)) _ refl is
  where
    or_last : (a b : Bool) → (a || b) ≡ false → b ≡ false
    or_last true b fails = absurd (cc (fails))
    or_last false b fails = fails

    of_test : (b rest : Bool) → (length name == 0 || nat_lt 16 (length name)) ≡ b → (if b then false else rest) ≡ true → length name ≤ 16
    of_test true rest test passes = absurd (cc (passes))
    of_test false rest test passes = let long = or_last (length name == 0) (nat_lt 16 (length name)) test in grind (arith, nat_tests, long)

kind_short : (kind : AreaKind) → length (kind_text kind) ≤ 9
kind_short Static = omega arith
kind_short Dynamic = omega arith
kind_short Ephemeral = omega arith

spaced_cons : (word : List ℕ) (words : List (List ℕ)) → length (spaced (word ∷ words)) ≡ suc (length word) + length (spaced words)
spaced_cons word words = length-append (32 ∷ word) (spaced words)

values_short : (values : List Value) → All IsWritten values → length (spaced (map value_text values)) ≤ 12 * length values
values_short [] written = omega arith
values_short (value ∷ values) written =
    omega (arith, spaced_cons (value_text value) (map value_text values), value_short value (All-head IsWritten value values written), values_short values (All-tail IsWritten value values written))

numbers_short : (numbers : List ℕ) → All (λ number. number ≤ 16777216) numbers → length (spaced (map decimal numbers)) ≤ 11 * length numbers
numbers_short [] small = omega arith
numbers_short (number ∷ numbers) small =
    let d = number_short number (let s = All-head (λ n. n ≤ 16777216) number numbers small in omega arith) in
    omega (arith, spaced_cons (decimal number) (map decimal numbers), d, numbers_short numbers (All-tail (λ n. n ≤ 16777216) number numbers small))

-- Lines

-- a line of a first word, a name and a rest
line_long : (head name : List ℕ) (words : List (List ℕ)) → length (line_of (head ∷ name ∷ words)) ≡ length head + (suc (length name) + length (spaced words))
line_long head name words = omega (arith, length-append head (spaced (name ∷ words)), spaced_cons name words)

area_name : (areas : List AreaRule) (area : ℕ) → AreNamed areas → area < length areas → length (name_of areas area) ≤ 16
area_name areas area named within = name_short (name_of areas area) (named.names area within)

own_long : (areas : List AreaRule) (area : ℕ) (body : Body) → AreNamed areas → area < length areas → code_of body ≤ 65535 → width body ≤ 2047 → PartsWritten body
    → (length (spelled areas (object_line area body)) ≤ 32768) × (length (spelled areas (object_line area body)) + 1 ≤ 29 * own_charge body)
own_long areas area (Cons car cdr) named within code wide written =
    let name = area_name areas area named within in
    let words : List (List ℕ) = value_text car ∷ value_text cdr ∷ [] in
    let long = line_long (codes "cons") (name_of areas area) words in
    let one = value_short car written.0 in
    let two = value_short cdr written.1 in
    let rest : length (spaced words) ≤ 24 = omega (arith, spaced_cons (value_text car) (value_text cdr ∷ []), spaced_cons (value_text cdr) []) in
    (omega arith, omega arith)
own_long areas area (Block code fields) named within small wide written =
    let name = area_name areas area named within in
    let words : List (List ℕ) = decimal code ∷ map value_text fields in
    let long = line_long (codes "block") (name_of areas area) words in
    let one : length (decimal code) ≤ 5 = length-decimal-le 5 code (omega arith) (omega arith) (omega arith) in
    let rest : length (spaced words) ≤ 6 + 12 * length fields = omega (arith, spaced_cons (decimal code) (map value_text fields), values_short fields written) in
    (omega arith, omega arith)

run_long : (areas : List AreaRule) (area : ℕ) (cars : List Value) → AreNamed areas → area < length areas → 1 ≤ length cars → length cars ≤ 1024 → All IsWritten cars
    → (length (spelled areas (RunLine area cars)) ≤ 32768) × (length (spelled areas (RunLine area cars)) + 1 ≤ 29 * (3 * length cars))
run_long areas area cars named within some few written =
    let name = area_name areas area named within in
    let long = line_long (codes "run") (name_of areas area) (map value_text cars) in
    let rest = values_short cars written in
    (omega arith, omega arith)

-- Object lines

abbrev pub IsShort : List AreaRule → WorldLine → Type 0
IsShort areas line = length (spelled areas line) ≤ 32768

-- what these objects are charged together
abbrev pub total : List Object → ℕ
total objects = sum_by (λ object. object.charge) objects

pub total_append : (first others : List Object) → total (first ++ others) ≡ total first + total others
total_append first others = sum_by-append (λ (object : Object). object.charge) first others

pub text_cons : (areas : List AreaRule) (line : WorldLine) (lines : List WorldLine) → length (text_of areas (line ∷ lines)) ≡ (length (spelled areas line) + 1) + length (text_of areas lines)
text_cons areas line lines = omega (arith, length-append (spelled areas line ++ 10 ∷ []) (text_of areas lines), length-append (spelled areas line) (10 ∷ []))

-- lines that are short, and together no longer than these charges allow
pub record AreShort (areas : List AreaRule) (lines : List WorldLine) (objects : List Object) : Type 0 where
  pub each : All (IsShort areas) lines
  pub all : length (text_of areas lines) ≤ 29 * total objects

short_more : (areas : List AreaRule) (line : WorldLine) (lines : List WorldLine) (new others : List Object) → (length (spelled areas line) ≤ 32768) × (length (spelled areas line) + 1 ≤ 29 * total new)
    → AreShort areas lines others → AreShort areas (line ∷ lines) (new ++ others)
short_more areas line lines new others one rest = record {
  each = All-cons (IsShort areas) line lines one.0 rest.each;
  all = omega (arith, text_cons areas line lines, one.1, rest.all, total_append new others);
}

-- conses of a group are charged 3 words each
cells_total : (area number : ℕ) (cars : List Value) → total (list_from area number cars) ≡ 3 * length cars
unfolding list_from
cells_total area number [] = refl
cells_total area number (car ∷ cars) =
    omega (arith, total_append (cell_of area car (link number cars) ∷ []) (list_from area (suc number) cars), cells_total area (suc number) cars)

pub objects_short : (areas : List AreaRule) (skip number : ℕ) (objects : List Object) → AreNamed areas → skip ≤ length objects → All (IsSayable (length areas)) objects
    → AreShort areas (object_lines_of skip number objects) (drop skip (loaded_from skip number objects))
objects_short areas zero number [] named long sayable = record { each = All-nil (IsShort areas); all = omega arith }
objects_short areas (suc skip) number [] named long sayable = absurd (omega arith)
objects_short areas (suc skip) number (object ∷ objects) named long sayable = objects_short areas skip (number + 1) objects named (omega arith) (All-tail (IsSayable (length areas)) object objects sayable)
objects_short areas zero number (object ∷ objects) named long sayable = of_size (group_size (to_tail object.area number (object ∷ objects))) refl
    (λ skip within. objects_short areas skip (number + 1) objects named within (All-tail (IsSayable (length areas)) object objects sayable))
  where
    of_size : (size : ℕ) → group_size (to_tail object.area number (object ∷ objects)) ≡ size
        → ((skip : ℕ) → skip ≤ length objects → AreShort areas (object_lines_of skip (number + 1) objects) (drop skip (loaded_from skip (number + 1) objects)))
        → AreShort areas (line_of_size size object objects ∷ object_lines_of (size - 1) (number + 1) objects) (load_first size object ∷ loaded_from (size - 1) (number + 1) objects)
    of_size zero is more =
        let one = All-head (IsSayable (length areas)) object objects sayable in
        let short = own_long areas object.area object.body named one.within one.code one.wide one.written in
        short_more areas (object_line object.area object.body) (object_lines_of 0 (number + 1) objects) (load_first zero object ∷ []) (loaded_from 0 (number + 1) objects) (short.0, omega (arith, short.1)) (more 0 (omega arith))
    of_size (suc left) is more =
        let less : suc left - 1 ≡ left = omega arith in
        let found = size_is (to_tail object.area number (object ∷ objects)) left is in
        let group = group_is object.area number (object ∷ objects) (suc left) found.0 in
        let new : List Object = take (suc left) (object ∷ objects) in
        let rest : List Object = drop left (loaded_from left (number + 1) objects) in
        let whole : object ∷ loaded_from left (number + 1) objects ≡ new ++ rest = ap (λ (l : List Object). object ∷ l) (loaded_parts left (number + 1) objects) in
        let one = All-head (IsSayable (length areas)) object objects sayable in
        let count : length (map car_in new) ≡ suc left = length-map new car_in ∙ length-take-le (suc left) (object ∷ objects) group.within in
        let charge : total new ≡ 3 * length (map car_in new) = ap total group.is ∙ cells_total object.area number (map car_in new) in
        let short = run_long areas object.area (map car_in new) named one.within (omega (arith, count)) (omega (arith, count, found.1)) (cars_written (length areas) new (All-take (IsSayable (length areas)) (suc left) (object ∷ objects) sayable)) in
        let after = more left (omega (arith, group.within)) in
        let all = short_more areas (RunLine object.area (map car_in new)) (object_lines_of left (number + 1) objects) new rest (short.0, omega (arith, short.1, charge)) after in
        rw less (subst (AreShort areas (RunLine object.area (map car_in new) ∷ object_lines_of left (number + 1) objects)) (sym whole) all)

-- Other lines

-- short lines, together of at most this many bytes
pub record AreFew (areas : List AreaRule) (lines : List WorldLine) (bytes : ℕ) : Type 0 where
  pub each : All (IsShort areas) lines
  pub all : length (text_of areas lines) ≤ bytes

few_none : (areas : List AreaRule) → AreFew areas [] 0
few_none areas = record { each = All-nil (IsShort areas); all = omega arith }

few_more : (areas : List AreaRule) (line : WorldLine) (lines : List WorldLine) (one bytes all : ℕ) → length (spelled areas line) + 1 ≤ one → one ≤ 32768 → AreFew areas lines bytes → one + bytes ≤ all → AreFew areas (line ∷ lines) all
few_more areas line lines one bytes all short small rest up = record {
  each = All-cons (IsShort areas) line lines (omega arith) rest.each;
  all = omega (arith, text_cons areas line lines, short, rest.all);
}

root_few : (areas : List AreaRule) (count register : ℕ) (value : Value) (values : List Value) → IsWritten value → register + length (value ∷ values) ≤ 256 → AreFew areas (root_lines_of (register + 1) values) (21 * length values)
    → AreFew areas (RootLine register value ∷ root_lines_of (register + 1) values) (21 * length (value ∷ values))
root_few areas count register value values written few rest =
    let long = line_long (codes "root") (decimal register) (value_text value ∷ []) in
    let one : length (decimal register) ≤ 3 = length-decimal-le 3 register (omega arith) (omega arith) (omega arith) in
    let two = value_short value written in
    let short : length (spelled areas (RootLine register value)) + 1 ≤ 21 = omega (arith, long, spaced_cons (value_text value) []) in
    few_more areas (RootLine register value) (root_lines_of (register + 1) values) 21 (21 * length values) (21 * length (value ∷ values)) short (omega arith) rest (omega arith)

pub roots_few : (areas : List AreaRule) (count register : ℕ) (values : List Value) → All (IsRoot count) values → register + length values ≤ 256 → AreFew areas (root_lines_of register values) (21 * length values)
roots_few areas count register [] good few = few_none areas
roots_few areas count register (Nil ∷ values) good few =
    let rest = roots_few areas count (register + 1) values (All-tail (IsRoot count) Nil values good) (omega arith) in
    record { each = rest.each; all = omega (arith, rest.all) }
roots_few areas count register (Fix number ∷ values) good few =
    root_few areas count register (Fix number) values (All-head (IsRoot count) (Fix number) values good).0 few (roots_few areas count (register + 1) values (All-tail (IsRoot count) (Fix number) values good) (omega arith))
roots_few areas count register (Ref name ∷ values) good few =
    root_few areas count register (Ref name) values (All-head (IsRoot count) (Ref name) values good).0 few (roots_few areas count (register + 1) values (All-tail (IsRoot count) (Ref name) values good) (omega arith))

areas_few : (all areas : List AreaRule) → All (λ rule. rule.quota ≤ 1048576) areas → All (λ rule. is_name rule.name ≡ true) areas → AreFew all (map AreaLine areas) (40 * length areas)
areas_few all [] quotas names = few_none all
areas_few all (rule ∷ areas) quotas names =
    let rest = areas_few all areas (All-tail (λ (r : AreaRule). r.quota ≤ 1048576) rule areas quotas) (All-tail (λ (r : AreaRule). is_name r.name ≡ true) rule areas names) in
    let small : rule.quota ≤ 1048576 = All-head (λ (r : AreaRule). r.quota ≤ 1048576) rule areas quotas in
    let name : length rule.name ≤ 16 = name_short rule.name (All-head (λ (r : AreaRule). is_name r.name ≡ true) rule areas names) in
    let quota : length (decimal rule.quota) ≤ 7 = length-decimal-le 7 rule.quota (omega arith) (omega arith) (omega arith) in
    let words : List (List ℕ) = kind_text rule.kind ∷ decimal rule.quota ∷ [] in
    let long = line_long (codes "area") rule.name words in
    let tail : length (spaced words) ≤ 18 = omega (arith, spaced_cons (kind_text rule.kind) (decimal rule.quota ∷ []), spaced_cons (decimal rule.quota) [], kind_short rule.kind) in
    few_more all (AreaLine rule) (map AreaLine areas) 40 (40 * length areas) (40 * length (rule ∷ areas)) (omega arith) (omega arith) rest (omega arith)

sizes_few : (areas : List AreaRule) (space : Space) → IsSpace space → length (spelled areas (SpaceLine space)) + 1 ≤ 100
sizes_few areas space limits =
    let a = number_short space.regions (omega (arith, limits.regions)) in
    let b = number_short space.frames (omega (arith, limits.frames)) in
    let c = number_short space.registers (omega (arith, limits.registers)) in
    let d = number_short space.levels (omega (arith, limits.levels)) in
    let e = number_short space.rate (omega (arith, limits.rate)) in
    let four : List (List ℕ) = decimal space.frames ∷ decimal space.registers ∷ decimal space.levels ∷ decimal space.rate ∷ [] in
    let long = line_long (codes "space") (decimal space.regions) four in
    let rest : length (spaced four) ≤ 44 = omega (
      arith,
      spaced_cons (decimal space.frames) (decimal space.registers ∷ decimal space.levels ∷ decimal space.rate ∷ []),
      spaced_cons (decimal space.registers) (decimal space.levels ∷ decimal space.rate ∷ []),
      spaced_cons (decimal space.levels) (decimal space.rate ∷ []),
      spaced_cons (decimal space.rate) [],
    ) in
    omega arith

pub text_append : (areas : List AreaRule) (first others : List WorldLine) → length (text_of areas (first ++ others)) ≡ length (text_of areas first) + length (text_of areas others)
text_append areas [] others = omega arith
text_append areas (line ∷ first) others = omega (arith, text_cons areas line (first ++ others), text_cons areas line first, text_append areas first others)

pub few_append : (areas : List AreaRule) (first others : List WorldLine) (one two : ℕ) → AreFew areas first one → AreFew areas others two → AreFew areas (first ++ others) (one + two)
few_append areas first others one two front back = record {
  each = All-append (IsShort areas) first others front.each back.each;
  all = omega (arith, text_append areas first others, front.all, back.all);
}

pub head_few : (space : Space) (areas : List AreaRule) → IsSpace space → length space.capacity ≡ 6 → length areas ≤ 16 → All (λ rule. rule.quota ≤ 1048576) areas → All (λ rule. is_name rule.name ≡ true) areas
    → AreFew areas (head_lines space areas) 1000
head_few space areas limits six count quotas names =
    let numbers : List ℕ = take space.levels space.capacity in
    let up : length numbers ≡ space.levels = length-take-le space.levels space.capacity (omega (arith, six, limits.levels)) in
    let line : length (spelled areas (CapacityLine numbers)) ≡ 8 + length (spaced (map decimal numbers)) = length-append (codes "capacity") (spaced (map decimal numbers)) in
    let short = numbers_short numbers (All-take (λ number. number ≤ 16777216) space.levels space.capacity limits.capacities) in
    let last = few_more areas (CapacityLine numbers) [] 100 0 100 (omega (arith, line, short, up, limits.levels)) (omega arith) (few_none areas) (omega arith) in
    let ruled = few_append areas (map AreaLine areas) (CapacityLine numbers ∷ []) (40 * length areas) 100 (areas_few areas areas quotas names) last in
    let sized = few_more areas (SpaceLine space) (map AreaLine areas ++ CapacityLine numbers ∷ []) 100 (40 * length areas + 100) 900 (sizes_few areas space limits) (omega arith) ruled (omega arith) in
    few_more areas (FormatLine true) (SpaceLine space ∷ map AreaLine areas ++ CapacityLine numbers ∷ []) 14 900 1000 (omega arith) (omega arith) sized (omega arith)
