-- The lines of conses that wait for the end of their list.
use Rattle.std.proofs.Common.{◌≡◌, ℕ, suc, ◌+◌, ◌<◌, ◌≤◌, max, List, [], ◌∷◌, ◌++◌, length, length-append, drop, take, map, append_assoc, append-nil, Bool, true, false, Option, Some, None, refl, ap, sym, ◌∙◌, arith}
use Rattle.std.specs.Prelude.{◌==◌, ◌&&◌, nat_le, if◌then◌else◌, option_map}
use Rattle.std.proofs.lemmas.Bool.Decides.{nat_tests}
use Rattle.lisp_graph.specs.Graph.{is_ref}
use Rattle.lisp_graph.specs.declared.object.Value.{Value}
use Rattle.lisp_graph.specs.declared.object.Value.TheVariants.{Nil, Ref}
use Rattle.lisp_graph.specs.declared.object.Body.TheVariants.{Cons}
use Rattle.lisp_graph.specs.declared.object.Object.{Object}
use Rattle.lisp_graph.specs.declared.world.AreaRule.{AreaRule}
use Rattle.lisp_graph.specs.Groups.{group_size, is_cell, is_nil, has_cdr, to_tail}
use Rattle.world_text.specs.declared.writing.object_writer.ObjectWriter.{ObjectWriter}
use Rattle.world_text.specs.writing.Spelling.{ConsLine, RunLine, WorldLine}
use Rattle.world_text.specs.writing.File.{car_of, line_of_size, object_line, object_lines_of, text_of}
use Rattle.world_text.specs.writing.Waiting.{Adds, AreWritten, WritesAll, link, links, link_lines, next_number, text_with}
use Rattle.world_text.proofs.writing_laws.FileLaws.{first_line, text_append}

same : (n : ℕ) → (n == n) ≡ true
same n = grind (arith, nat_tests)

-- a cons of charge 3 that ends a list
abbrev pub ending : ℕ → Value → Object
ending area car = record { area = area; charge = 3; body = Cons car Nil }

-- The place of the tail of a list

link_goes : (area number : ℕ) (car : Value) (rest : List Object) → to_tail area number (link area number car ∷ rest) ≡ option_map (λ n. n + 1) (to_tail area (number + 1) rest)
link_goes area number car rest = rw (same area, same (number + 1)) refl

ending_ends : (area number : ℕ) (car : Value) (rest : List Object) → to_tail area number (ending area car ∷ rest) ≡ Some 1
ending_ends area number car rest = rw (same area) refl

add_none : (x : Option ℕ) → option_map (λ n. n + 0) x ≡ x
add_none None = refl
add_none (Some n) = ap Some (omega arith)

add_both : (x : Option ℕ) (k : ℕ) → option_map (λ n. n + 1) (option_map (λ n. n + k) x) ≡ option_map (λ n. n + suc k) x
add_both None k = refl
add_both (Some n) k = ap Some (omega arith)

tail_after : (area number : ℕ) (cars : List Value) (more : List Object) → to_tail area number (links area number cars ++ more) ≡ option_map (λ n. n + length cars) (to_tail area (number + length cars) more)
tail_after area number [] more =
    let e : number ≡ number + 0 = omega arith in
    sym (add_none (to_tail area number more)) ∙ ap (λ (m : ℕ). option_map (λ n. n + 0) (to_tail area m more)) e
tail_after area number (car ∷ cars) more =
    let at : number + 1 + length cars ≡ number + suc (length cars) = omega arith in
    link_goes area number car (links area (number + 1) cars ++ more)
    ∙ ap (option_map (λ n. n + 1)) (tail_after area (number + 1) cars more)
    ∙ add_both (to_tail area (number + 1 + length cars) more) (length cars)
    ∙ ap (λ (m : ℕ). option_map (λ n. n + suc (length cars)) (to_tail area m more)) at

tail_some : (area number : ℕ) (objects : List Object) (count : ℕ) → to_tail area number objects ≡ Some count → 1 ≤ count
tail_some area number [] count is = absurd (cc)
tail_some area number (object ∷ objects) count is = of_tests (is_cell area is_nil object) (is_cell area (is_ref (number + 1)) object) (to_tail area (number + 1) objects) is
  where
    of_tests : (ends links : Bool) (rest : Option ℕ) → (if ends then Some 1 else if links then option_map (λ n. n + 1) rest else None) ≡ Some count → 1 ≤ count
    of_tests true links rest is = let e : 1 ≡ count = cc in omega (arith, e)
    of_tests false true None is = absurd (cc)
    of_tests false true (Some n) is = let e : n + 1 ≡ count = cc in omega (arith, e)
    of_tests false false rest is = absurd (cc)

-- Conses of another area, or with another cdr

not_cell : (area : ℕ) (test : Value → Bool) (object : Object) → is_cell object.area test object ≡ false → is_cell area test object ≡ false
not_cell area test object is = of_test (object.area == area) (object.charge == 3) (has_cdr test object.body) (ap (λ (b : Bool). b && (object.charge == 3) && has_cdr test object.body) (sym (same object.area)) ∙ is)
  where
    of_test : (b charge rest : Bool) → (charge && rest) ≡ false → (b && charge && rest) ≡ false
    of_test true charge rest is = is
    of_test false charge rest is = refl

pub no_tail : (area number : ℕ) (object : Object) (more : List Object) → is_cell object.area is_nil object ≡ false → is_cell object.area (is_ref (number + 1)) object ≡ false → to_tail area number (object ∷ more) ≡ None
no_tail area number object more ends links =
    let a = not_cell area is_nil object ends in
    let b = not_cell area (is_ref (number + 1)) object links in
    ap (λ (t : Bool). if t then Some 1 else if is_cell area (is_ref (number + 1)) object then option_map (λ n. n + 1) (to_tail area (number + 1) more) else None) a
    ∙ ap (λ (t : Bool). if t then option_map (λ n. n + 1) (to_tail area (number + 1) more) else None) b

other_cell : (area : ℕ) (test : Value → Bool) (object : Object) → (object.area == area) ≡ false → is_cell area test object ≡ false
other_cell area test object is = ap (λ (b : Bool). b && (object.charge == 3) && has_cdr test object.body) is

pub other_area : (area number : ℕ) (object : Object) (more : List Object) → (object.area == area) ≡ false → to_tail area number (object ∷ more) ≡ None
other_area area number object more is =
    ap (λ (t : Bool). if t then Some 1 else if is_cell area (is_ref (number + 1)) object then option_map (λ n. n + 1) (to_tail area (number + 1) more) else None) (other_cell area is_nil object is)
    ∙ ap (λ (t : Bool). if t then option_map (λ n. n + 1) (to_tail area (number + 1) more) else None) (other_cell area (is_ref (number + 1)) object is)

-- Lines

-- the conses that wait are in no group
broken : (area number : ℕ) (cars : List Value) (more : List Object) → to_tail area (number + length cars) more ≡ None
    → object_lines_of 0 number (links area number cars ++ more) ≡ link_lines area number cars ++ object_lines_of 0 (number + length cars) more
broken area number [] more none = let e : number ≡ number + 0 = omega arith in ap (λ (m : ℕ). object_lines_of 0 m more) e
broken area number (car ∷ cars) more none =
    let at : number + 1 + length cars ≡ number + suc (length cars) = omega arith in
    let later : to_tail area (number + 1 + length cars) more ≡ None = ap (λ (m : ℕ). to_tail area m more) at ∙ none in
    let size : group_size (to_tail area number (links area number (car ∷ cars) ++ more)) ≡ 0 =
    ap group_size (tail_after area number (car ∷ cars) more ∙ ap (option_map (λ n. n + length (car ∷ cars))) none) in
    first_line 0 number (link area number car) (links area (number + 1) cars ++ more) size
    ∙ ap (λ (rest : List WorldLine). ConsLine area car (Ref (number + 1)) ∷ rest)
    (broken area (number + 1) cars more later ∙ ap (λ (m : ℕ). link_lines area (number + 1) cars ++ object_lines_of 0 m more) at)

-- the first of 1,024 that wait is in no group if another object follows
too_many : (tail : Option ℕ) (count : ℕ) → 1024 ≤ count → ((n : ℕ) → tail ≡ Some n → 1 ≤ n) → group_size (option_map (λ n. n + count) tail) ≡ 0
too_many None count long some = refl
too_many (Some n) count long some =
    let one = some n refl in
    let e : nat_le (n + count) 1024 ≡ false = grind (arith, nat_tests, one, long) in
    ap (λ (b : Bool). if b then n + count else 0) e

full : (area number : ℕ) (car : Value) (cars : List Value) (more : List Object) → 1024 ≤ length (car ∷ cars)
    → object_lines_of 0 number (links area number (car ∷ cars) ++ more) ≡ ConsLine area car (Ref (number + 1)) ∷ object_lines_of 0 (number + 1) (links area (number + 1) cars ++ more)
full area number car cars more long =
    first_line 0 number (link area number car) (links area (number + 1) cars ++ more)
    (ap group_size (tail_after area number (car ∷ cars) more) ∙ too_many (to_tail area (number + length (car ∷ cars)) more) (length (car ∷ cars)) long (tail_some area (number + length (car ∷ cars)) more))

-- a group
group_line : (number size : ℕ) (object : Object) (objects rest : List Object) (cars : List Value) → group_size (to_tail object.area number (object ∷ objects)) ≡ suc size
    → map (λ one. car_of one.body) (take (suc size) (object ∷ objects)) ≡ cars → drop (suc size) (object ∷ objects) ≡ rest
    → object_lines_of 0 number (object ∷ objects) ≡ RunLine object.area cars ∷ object_lines_of 0 (number + suc size) rest
group_line number size object objects rest cars is taken dropped =
    let one : max (suc size) 1 ≡ suc size = omega arith in
    first_line (suc size) number object objects is
    ∙ ap (λ (n : ℕ). line_of_size (suc size) object objects ∷ object_lines_of 0 (number + n) (drop n (object ∷ objects))) one
    ∙ ap (λ (l : List Value). RunLine object.area l ∷ object_lines_of 0 (number + suc size) (drop (suc size) (object ∷ objects))) taken
    ∙ ap (λ (l : List Object). RunLine object.area cars ∷ object_lines_of 0 (number + suc size) l) dropped

cars_taken : (area number : ℕ) (cars : List Value) (car : Value) (more : List Object) → map (λ one. car_of one.body) (take (suc (length cars)) (links area number cars ++ ending area car ∷ more)) ≡ cars ++ car ∷ []
cars_taken area number [] car more = refl
cars_taken area number (first ∷ cars) car more = ap (λ (l : List Value). first ∷ l) (cars_taken area (number + 1) cars car more)

rest_dropped : (area number : ℕ) (cars : List Value) (car : Value) (more : List Object) → drop (suc (length cars)) (links area number cars ++ ending area car ∷ more) ≡ more
rest_dropped area number [] car more = refl
rest_dropped area number (first ∷ cars) car more = rest_dropped area (number + 1) cars car more

at_most : (count : ℕ) → count ≤ 1024 → group_size (Some count) ≡ count
at_most count few = let e : nat_le count 1024 ≡ true = grind (arith, nat_tests, few) in ap (λ (b : Bool). if b then count else 0) e

ended : (area number : ℕ) (cars : List Value) (car : Value) (more : List Object) → length cars < 1024
    → object_lines_of 0 number (links area number cars ++ ending area car ∷ more) ≡ RunLine area (cars ++ car ∷ []) ∷ object_lines_of 0 (number + suc (length cars)) more
ended area number [] car more few =
    group_line number 0 (ending area car) more more (car ∷ []) (ap group_size (ending_ends area number car more)) refl refl
ended area number (first ∷ cars) car more few =
    let all : ℕ = length (first ∷ cars) in
    let count : 1 + all ≡ suc all = omega arith in
    let size : group_size (to_tail area number (links area number (first ∷ cars) ++ ending area car ∷ more)) ≡ suc all =
    ap group_size (tail_after area number (first ∷ cars) (ending area car ∷ more) ∙ ap (option_map (λ n. n + all)) (ending_ends area (number + all) car more)) ∙ at_most (1 + all) (omega (arith, few)) ∙ count in
    group_line number all (link area number first) (links area (number + 1) cars ++ ending area car ∷ more) more ((first ∷ cars) ++ car ∷ []) size
    (cars_taken area number (first ∷ cars) car more) (rest_dropped area number (first ∷ cars) car more)

-- an object that can't be in a group
alone : (number : ℕ) (object : Object) (more : List Object) → to_tail object.area number (object ∷ more) ≡ None
    → object_lines_of 0 number (object ∷ more) ≡ object_line object.area object.body ∷ object_lines_of 0 (number + 1) more
alone number object more none = first_line 0 number object more (ap group_size none)

-- one more cons waits
links_more : (area number : ℕ) (cars : List Value) (car : Value) (more : List Object) → links area number (cars ++ car ∷ []) ++ more ≡ links area number cars ++ link area (number + length cars) car ∷ more
links_more area number [] car more = let e : number ≡ number + 0 = omega arith in ap (λ (m : ℕ). link area m car ∷ more) e
links_more area number (first ∷ cars) car more =
    let at : number + 1 + length cars ≡ number + suc (length cars) = omega arith in
    ap (λ (l : List Object). link area number first ∷ l) (links_more area (number + 1) cars car more ∙ ap (λ (m : ℕ). links area (number + 1) cars ++ link area m car ∷ more) at)

-- Texts

-- one line more
line_more : (areas : List AreaRule) (old new : List ℕ) (line : WorldLine) (behind : List WorldLine) → new ≡ old ++ text_of areas (line ∷ []) → new ++ text_of areas behind ≡ old ++ text_of areas (line ∷ behind)
line_more areas old new line behind is =
    ap (λ (t : List ℕ). t ++ text_of areas behind) is ∙ append_assoc old (text_of areas (line ∷ [])) (text_of areas behind)
    ∙ ap (λ (t : List ℕ). old ++ t) (sym (text_append areas (line ∷ []) behind))

-- the conses that waited are written
pub written_all : (areas : List AreaRule) (old : ObjectWriter) (text : List ℕ) (first area : ℕ) (cars : List Value) (more : List Object)
    → text ≡ old.text ++ text_of areas (link_lines old.area old.first old.cars.items) → cars ≡ [] → first ≡ next_number old → to_tail old.area (next_number old) more ≡ None
    → text ++ text_of areas (object_lines_of 0 first (links area first cars ++ more)) ≡ text_with areas old more
written_all areas old text first area cars more is none next no_more =
    let waited : List WorldLine = link_lines old.area old.first old.cars.items in
    let behind : List WorldLine = object_lines_of 0 (next_number old) more in
    ap (λ (l : List Value). text ++ text_of areas (object_lines_of 0 first (links area first l ++ more))) none
    ∙ ap (λ (n : ℕ). text ++ text_of areas (object_lines_of 0 n more)) next
    ∙ ap (λ (t : List ℕ). t ++ text_of areas behind) is ∙ append_assoc old.text (text_of areas waited) (text_of areas behind)
    ∙ ap (λ (t : List ℕ). old.text ++ t) (sym (text_append areas waited behind))
    ∙ ap (λ (l : List WorldLine). old.text ++ text_of areas l) (sym (broken old.area old.first old.cars.items more no_more))

-- the first of 1,024 is written
pub written_first : (areas : List AreaRule) (old : ObjectWriter) (text : List ℕ) (first area : ℕ) (cars : List Value) (more : List Object) → 1024 ≤ length old.cars.items
    → ((car : Value) (rest : List Value) → old.cars.items ≡ car ∷ rest → cars ≡ rest)
    → ((car : Value) (rest : List Value) → old.cars.items ≡ car ∷ rest → text ≡ old.text ++ text_of areas (ConsLine old.area car (Ref (old.first + 1)) ∷ []))
    → ((car : Value) (rest : List Value) → old.cars.items ≡ car ∷ rest → first ≡ old.first + 1) → area ≡ old.area
    → text ++ text_of areas (object_lines_of 0 first (links area first cars ++ more)) ≡ text_with areas old more
written_first areas old text first area cars more long is_cars is_text is_first is_area = of_cars old.cars.items refl long
  where
    of_cars : (waiting : List Value) → old.cars.items ≡ waiting → 1024 ≤ length waiting → text ++ text_of areas (object_lines_of 0 first (links area first cars ++ more)) ≡ text_with areas old more
    of_cars [] is long = absurd (omega arith)
    of_cars (car ∷ rest) is long =
        ap (λ (l : List Value). text ++ text_of areas (object_lines_of 0 first (links area first l ++ more))) (is_cars car rest is)
        ∙ ap (λ (a : ℕ). text ++ text_of areas (object_lines_of 0 first (links a first rest ++ more))) is_area
        ∙ ap (λ (n : ℕ). text ++ text_of areas (object_lines_of 0 n (links old.area n rest ++ more))) (is_first car rest is)
        ∙ line_more areas old.text text (ConsLine old.area car (Ref (old.first + 1))) (object_lines_of 0 (old.first + 1) (links old.area (old.first + 1) rest ++ more)) (is_text car rest is)
        ∙ ap (λ (l : List WorldLine). old.text ++ text_of areas l) (sym (full old.area old.first car rest more long))
        ∙ ap (λ (l : List Value). old.text ++ text_of areas (object_lines_of 0 old.first (links old.area old.first l ++ more))) (sym is)

-- one of those that wait is written
pub first_written : (areas : List AreaRule) (area first : ℕ) (cars left : List Value) (text new : List ℕ) (next : ℕ) → 0 < length cars
    → ((car : Value) (rest : List Value) → cars ≡ car ∷ rest → left ≡ rest)
    → ((car : Value) (rest : List Value) → cars ≡ car ∷ rest → new ≡ text ++ text_of areas (ConsLine area car (Ref (first + 1)) ∷ []))
    → ((car : Value) (rest : List Value) → cars ≡ car ∷ rest → next ≡ first + 1)
    → (new ++ text_of areas (link_lines area next left) ≡ text ++ text_of areas (link_lines area first cars)) × (next + length left ≡ first + length cars) × (length left < length cars)
first_written areas area first [] left text new next some is_left is_text is_next = absurd (omega arith)
first_written areas area first (car ∷ rest) left text new next some is_left is_text is_next =
    let l : left ≡ rest = is_left car rest refl in
    let n : next ≡ first + 1 = is_next car rest refl in
    let size : length left ≡ length rest = ap length l in (
      ap (λ (x : List Value). new ++ text_of areas (link_lines area next x)) l ∙ ap (λ (m : ℕ). new ++ text_of areas (link_lines area m rest)) n
          ∙ line_more areas text new (ConsLine area car (Ref (first + 1))) (link_lines area (first + 1) rest) (is_text car rest refl),
      omega arith,
      omega arith,
    )

-- a cons that ends a list is written with those that wait
pub group_written : (areas : List AreaRule) (area first : ℕ) (cars all left : List Value) (car : Value) (text new : List ℕ) (next place : ℕ) (more : List Object) → length cars < 1024
    → all ≡ cars ++ car ∷ [] → new ≡ text ++ text_of areas (RunLine area all ∷ []) → left ≡ [] → next ≡ first + length all
    → new ++ text_of areas (object_lines_of 0 next (links place next left ++ more)) ≡ text ++ text_of areas (object_lines_of 0 first (links area first cars ++ ending area car ∷ more))
group_written areas area first cars all left car text new next place more few pushed is none count =
    let last : next ≡ first + suc (length cars) = omega (arith, count, ap length pushed, length_last cars) in
    ap (λ (l : List Value). new ++ text_of areas (object_lines_of 0 next (links place next l ++ more))) none
    ∙ ap (λ (n : ℕ). new ++ text_of areas (object_lines_of 0 n more)) last
    ∙ line_more areas text new (RunLine area (cars ++ car ∷ [])) (object_lines_of 0 (first + suc (length cars)) more) (is ∙ ap (λ (l : List Value). text ++ text_of areas (RunLine area l ∷ [])) pushed)
    ∙ ap (λ (l : List WorldLine). text ++ text_of areas l) (sym (ended area first cars car more few))
  where
    length_last : (l : List Value) → length (l ++ car ∷ []) ≡ suc (length l)
    length_last [] = refl
    length_last (x ∷ l) = ap suc (length_last l)

-- a cons waits after the others
pub link_waits : (areas : List AreaRule) (area first : ℕ) (cars all : List Value) (car : Value) (text : List ℕ) (more : List Object) → all ≡ cars ++ car ∷ []
    → text ++ text_of areas (object_lines_of 0 first (links area first all ++ more)) ≡ text ++ text_of areas (object_lines_of 0 first (links area first cars ++ link area (first + length cars) car ∷ more))
link_waits areas area first cars all car text more pushed =
    ap (λ (l : List Value). text ++ text_of areas (object_lines_of 0 first (links area first l ++ more))) pushed
    ∙ ap (λ (l : List Object). text ++ text_of areas (object_lines_of 0 first l)) (links_more area first cars car more)

-- an object is written alone
pub alone_written : (areas : List AreaRule) (number area place : ℕ) (object : Object) (left : List Value) (text new : List ℕ) (more : List Object) → to_tail object.area number (object ∷ more) ≡ None
    → left ≡ [] → new ≡ text ++ text_of areas (object_line object.area object.body ∷ [])
    → new ++ text_of areas (object_lines_of 0 (number + 1) (links place (number + 1) left ++ more)) ≡ text ++ text_of areas (object_lines_of 0 number (links area number [] ++ object ∷ more))
alone_written areas number area place object left text new more no_tail none is =
    ap (λ (l : List Value). new ++ text_of areas (object_lines_of 0 (number + 1) (links place (number + 1) l ++ more))) none
    ∙ line_more areas text new (object_line object.area object.body) (object_lines_of 0 (number + 1) more) is
    ∙ ap (λ (l : List WorldLine). text ++ text_of areas l) (sym (alone number object more no_tail))

-- Objects are written, one after another

pub written_none : (areas : List AreaRule) (writer : ObjectWriter) → writer.first ≡ 0 → writer.cars.items ≡ [] → AreWritten areas writer.text [] writer
written_none areas writer fresh empty = record {
  text = λ more.
      ap (λ (l : List Value). writer.text ++ text_of areas (object_lines_of 0 writer.first (links writer.area writer.first l ++ more))) empty
      ∙ ap (λ (n : ℕ). writer.text ++ text_of areas (object_lines_of 0 n more)) fresh;
  next = (let size = ap length empty in omega (arith, size, fresh));
  waiting = (let size = ap length empty in omega (arith, size));
}

pub written_more : (areas : List AreaRule) (start : List ℕ) (objects all : List Object) (object : Object) (old new : ObjectWriter) → AreWritten areas start objects old → Adds areas object old new → all ≡ objects ++ object ∷ []
    → AreWritten areas start all new
written_more areas start objects all object old new before adds is = record {
  text = λ more.
      adds.text more ∙ before.text (object ∷ more) ∙ ap (λ (l : List Object). start ++ text_of areas (object_lines_of 0 0 l)) (sym (append_assoc objects (object ∷ []) more))
      ∙ ap (λ (l : List Object). start ++ text_of areas (object_lines_of 0 0 (l ++ more))) (sym is);
  next = (let size = ap length is ∙ length-append objects (object ∷ []) in omega (arith, adds.next, before.next, size));
  waiting = adds.waiting;
}

pub written_whole : (areas : List AreaRule) (start : List ℕ) (objects : List Object) (old new : ObjectWriter) → AreWritten areas start objects old → WritesAll areas old new
    → new.text ≡ start ++ text_of areas (object_lines_of 0 0 objects)
written_whole areas start objects old new before all =
    sym (append-nil new.text)
    ∙ written_all areas old new.text (next_number old) old.area [] [] all.text refl refl refl
    ∙ before.text [] ∙ ap (λ (l : List Object). start ++ text_of areas (object_lines_of 0 0 l)) (append-nil objects)
