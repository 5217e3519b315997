-- The objects of a dump as its lines mean them: their groups are unchanged.
use Rattle.std.proofs.Common.{◌≡◌, ℕ, zero, suc, ◌+◌, ◌-◌, ◌≤◌, List, [], ◌∷◌, ◌++◌, length, take, drop, map, Bool, true, false, Option, Some, None, refl, ap, sym, ◌∙◌, subst, arith}
use Rattle.std.specs.Prelude.{◌==◌, ◌&&◌, if◌then◌else◌, nat_le, option_map}
use Rattle.std.proofs.lemmas.Bool.Decides.{nat_tests}
use Rattle.std.proofs.lemmas.List.{take-append-drop}
use Rattle.trace_text.specs.lisp_graph.Graph.{is_ref}
use Rattle.trace_text.specs.lisp_graph.Effect.{cell_of, link, list_from}
use Rattle.trace_text.specs.lisp_graph.declared.object.Value.{Value}
use Rattle.trace_text.specs.lisp_graph.declared.object.Value.TheVariants.{Fix, Nil, Ref}
use Rattle.trace_text.specs.lisp_graph.declared.object.Body.{Body}
use Rattle.trace_text.specs.lisp_graph.declared.object.Body.TheVariants.{Cons, Block}
use Rattle.trace_text.specs.lisp_graph.declared.object.Object.{Object}
use Rattle.trace_text.specs.lisp_graph.Groups.{group_size, has_cdr, is_cell, is_nil, to_tail}
use Rattle.trace_text.specs.world_text.File.{car_of, line_of_size, object_lines_of}
use Rattle.trace_text.specs.world_text.Spelling.{WorldLine, RunLine}
use Rattle.dump_laws.specs.Loaded.{load_first, loaded_from, own_charge}

abbrev pub car_in : Object → Value
car_in object = car_of object.body

-- An earlier line contains the first ones, which are unchanged

pub loaded_take : (skip number : ℕ) (objects : List Object) → take skip (loaded_from skip number objects) ≡ take skip objects
loaded_take zero number objects = refl
loaded_take (suc skip) number [] = refl
loaded_take (suc skip) number (object ∷ objects) = ap (λ (rest : List Object). object ∷ rest) (loaded_take skip (number + 1) objects)

pub loaded_parts : (skip number : ℕ) (objects : List Object) → loaded_from skip number objects ≡ take skip objects ++ drop skip (loaded_from skip number objects)
loaded_parts skip number objects =
    sym (take-append-drop skip (loaded_from skip number objects)) ∙ ap (λ (front : List Object). front ++ drop skip (loaded_from skip number objects)) (loaded_take skip number objects)

-- A cell

and_parts : (a b : Bool) → (a && b) ≡ true → (a ≡ true) × (b ≡ true)
and_parts true b is = (refl, is)
and_parts false b is = absurd (cc (is))

-- a cell of an area is a cons as a run line makes it
pub record IsCell (area : ℕ) (test : Value → Bool) (object : Object) : Type 0 where
  pub cdr : Value
  pub is : object ≡ cell_of area (car_in object) cdr
  pub passes : test cdr ≡ true

cell_body : (area : ℕ) (test : Value → Bool) (object : Object) (body : Body) → object.body ≡ body → object.area ≡ area → object.charge ≡ 3 → has_cdr test body ≡ true → IsCell area test object
cell_body area test object (Cons car cdr) is here charge passes = record {
  cdr = cdr;
  is = let e : car_in object ≡ car = ap car_of is in rw e (same_object object area 3 (Cons car cdr) here charge is);
  passes = passes;
}
  where
    same_object : (object : Object) (area charge : ℕ) (body : Body) → object.area ≡ area → object.charge ≡ charge → object.body ≡ body → object ≡ record { area = area; charge = charge; body = body }
    same_object object area charge body one two three =
        let object_with : ℕ → ℕ → Body → Object = λ a c b. record { area = a; charge = c; body = b } in
        ap (λ a. object_with a object.charge object.body) one ∙ ap (λ c. object_with area c object.body) two ∙ ap (object_with area charge) three
cell_body area test object (Block code fields) is here charge passes = absurd (cc (passes))

pub cell_is : (area : ℕ) (test : Value → Bool) (object : Object) → is_cell area test object ≡ true → IsCell area test object
cell_is area test object is =
    let last = and_parts (object.area == area && object.charge == 3) (has_cdr test object.body) is in
    let first = and_parts (object.area == area) (object.charge == 3) last.0 in
    let here : object.area ≡ area = grind (arith, nat_tests, first.0) in
    let charge : object.charge ≡ 3 = grind (arith, nat_tests, first.1) in
    cell_body area test object object.body refl here charge last.1

nil_is : (value : Value) → is_nil value ≡ true → value ≡ Nil
nil_is (Fix number) is = absurd (cc (is))
nil_is Nil is = refl
nil_is (Ref name) is = absurd (cc (is))

ref_is : (number : ℕ) (value : Value) → is_ref number value ≡ true → value ≡ Ref number
ref_is number (Fix n) is = absurd (cc (is))
ref_is number Nil is = absurd (cc (is))
ref_is number (Ref name) is = let e : name ≡ number = grind (arith, nat_tests, is) in ap Ref e

-- Objects up to a tail

-- the first is the tail, or a cell before one
pub data TailFrom (area number : ℕ) (object : Object) (objects : List Object) : ℕ → Type 0 where
  tail : is_cell area is_nil object ≡ true → TailFrom area number object objects 1
  cell : (left : ℕ) → is_cell area is_nil object ≡ false → is_cell area (is_ref (number + 1)) object ≡ true → to_tail area (number + 1) objects ≡ Some left → TailFrom area number object objects (left + 1)

pub tail_from : (area number : ℕ) (object : Object) (objects : List Object) (size : ℕ) → to_tail area number (object ∷ objects) ≡ Some size → TailFrom area number object objects size
tail_from area number object objects size is = of_tests (is_cell area is_nil object) (is_cell area (is_ref (number + 1)) object) (to_tail area (number + 1) objects) refl refl refl is
  where
    of_tests : (nil link : Bool) (rest : Option ℕ) → is_cell area is_nil object ≡ nil → is_cell area (is_ref (number + 1)) object ≡ link → to_tail area (number + 1) objects ≡ rest
        → (if nil then Some 1 else if link then option_map (λ count. count + 1) rest else None) ≡ Some size → TailFrom area number object objects size
    of_tests true link rest first second third is = let e : 1 ≡ size = cc (is) in subst (TailFrom area number object objects) e (tail first)
    of_tests false true None first second third is = absurd (cc (is))
    of_tests false true (Some left) first second third is = let e : left + 1 ≡ size = cc (is) in subst (TailFrom area number object objects) e (cell left first second third)
    of_tests false false rest first second third is = absurd (cc (is))

-- the objects of a group are the conses that its line makes
pub record IsGroup (area number size : ℕ) (objects : List Object) : Type 0 where
  pub some : 1 ≤ size
  pub within : size ≤ length objects
  pub is : take size objects ≡ list_from area number (map car_in (take size objects))

linked : (number left : ℕ) (objects : List Object) → 1 ≤ left → left ≤ length objects → Ref (suc number) ≡ link number (map car_in (take left objects))
linked number zero objects some within = absurd (omega arith)
linked number (suc left) [] some within = absurd (omega arith)
linked number (suc left) (first ∷ objects) some within = refl

group_from : (area number : ℕ) (object : Object) (objects : List Object) {size : ℕ} → TailFrom area number object objects size
    → ((left : ℕ) → to_tail area (number + 1) objects ≡ Some left → IsGroup area (number + 1) left objects) → IsGroup area number size (object ∷ objects)
unfolding list_from
group_from area number object objects (tail first) more =
    let c = cell_is area is_nil object first in
    let e : object ≡ cell_of area (car_in object) Nil = c.is ∙ ap (cell_of area (car_in object)) (nil_is c.cdr c.passes) in
    record { some = omega arith; within = omega arith; is = ap (λ (o : Object). o ∷ []) e }
group_from area number object objects (cell left first second third) more =
    let c = cell_is area (is_ref (number + 1)) object second in
    let rest = more left third in
    let next : number + 1 ≡ suc number = omega arith in
    let size : left + 1 ≡ suc left = omega arith in
    let cars : List Value = map car_in (take left objects) in
    let one : object ≡ cell_of area (car_in object) (Ref (suc number)) = c.is ∙ ap (cell_of area (car_in object)) (ref_is (number + 1) c.cdr c.passes ∙ ap Ref next) in
    let others : take left objects ≡ list_from area (suc number) cars = rest.is ∙ ap (λ (n : ℕ). list_from area n cars) next in
    record {
      some = omega arith;
      within = omega (arith, rest.within);
      is = rw size (ap (λ (o : Object). o ∷ take left objects) one ∙ ap (λ (l : List Object). cell_of area (car_in object) (Ref (suc number)) ∷ l) others
          ∙ ap (λ (v : Value). cell_of area (car_in object) v ∷ list_from area (suc number) cars) (linked number left objects rest.some rest.within));
    }

pub group_is : (area number : ℕ) (objects : List Object) (size : ℕ) → to_tail area number objects ≡ Some size → IsGroup area number size objects
group_is area number [] size is = absurd (cc (is))
group_is area number (object ∷ objects) size is = group_from area number object objects (tail_from area number object objects size is) (λ left found. group_is area (number + 1) objects left found)

-- The groups of what is read

-- an object with a line of its own isn't a cell
own_none : (area number : ℕ) (object : Object) (objects : List Object) → to_tail area number (load_first zero object ∷ objects) ≡ None
own_none area number object objects =
    let nil = no_cell area is_nil object in
    let link = no_cell area (is_ref (number + 1)) object in
    rw (nil, link) refl
  where
    and_false : (a b : Bool) → (a && false && b) ≡ false
    and_false true b = refl
    and_false false b = refl

    and_last : (a : Bool) → (a && false) ≡ false
    and_last true = refl
    and_last false = refl

    no_body : (area : ℕ) (test : Value → Bool) (here : ℕ) (body : Body) → (here == area && own_charge body == 3 && has_cdr test body) ≡ false
    no_body area test here (Cons car cdr) = and_false (here == area) (test cdr)
    no_body area test here (Block code fields) = and_last (here == area && own_charge (Block code fields) == 3)

    no_cell : (area : ℕ) (test : Value → Bool) (object : Object) → is_cell area test (load_first zero object) ≡ false
    no_cell area test object = no_body area test object.area object.body

-- a group is unchanged
stays_from : (area number : ℕ) (object : Object) (objects : List Object) {size : ℕ} → TailFrom area number object objects size
    → ((left : ℕ) → to_tail area (number + 1) objects ≡ Some left → to_tail area (number + 1) (loaded_from left (number + 1) objects) ≡ Some left)
    → to_tail area number (loaded_from size number (object ∷ objects)) ≡ Some size
stays_from area number object objects (tail first) more = rw first refl
stays_from area number object objects (cell left first second third) more =
    let size : left + 1 ≡ suc left = omega arith in
    rw (size, first, second, more left third) (ap Some size)

tail_stays : (area number : ℕ) (objects : List Object) (size : ℕ) → to_tail area number objects ≡ Some size → to_tail area number (loaded_from size number objects) ≡ Some size
tail_stays area number [] size is = absurd (cc (is))
tail_stays area number (object ∷ objects) size is = stays_from area number object objects (tail_from area number object objects size is) (λ left found. tail_stays area (number + 1) objects left found)

-- a size of a group is that of objects up to a tail
pub size_is : (found : Option ℕ) (size : ℕ) → group_size found ≡ suc size → (found ≡ Some (suc size)) × (suc size ≤ 1024)
size_is None size is = absurd (cc (is))
size_is (Some count) size is = of_test (nat_le count 1024) refl is
  where
    of_test : (b : Bool) → nat_le count 1024 ≡ b → (if b then count else 0) ≡ suc size → (Some count ≡ Some (suc size)) × (suc size ≤ 1024)
    of_test true few is = (ap Some is, grind (arith, nat_tests, few, is))
    of_test false few is = absurd (cc (is))

size_stays : (number : ℕ) (object : Object) (objects : List Object) (size : ℕ) → group_size (to_tail object.area number (object ∷ objects)) ≡ size
    → group_size (to_tail (load_first size object).area number (load_first size object ∷ loaded_from (size - 1) (number + 1) objects)) ≡ size
size_stays number object objects zero is = ap group_size (own_none object.area number object (loaded_from 0 (number + 1) objects))
size_stays number object objects (suc size) is =
    let found = size_is (to_tail object.area number (object ∷ objects)) size is in
    let less : suc size - 1 ≡ size = omega arith in
    rw less (ap group_size (tail_stays object.area number (object ∷ objects) (suc size) found.0 ∙ sym found.0) ∙ is)

line_stays : (size number : ℕ) (object : Object) (objects : List Object) → line_of_size size (load_first size object) (loaded_from (size - 1) number objects) ≡ line_of_size size object objects
line_stays zero number object objects = refl
line_stays (suc size) number object objects =
    let less : suc size - 1 ≡ size = omega arith in
    rw less (ap (λ (rest : List Object). RunLine object.area (map car_in (object ∷ rest))) (loaded_take size number objects))

pub lines_stay : (skip number : ℕ) (objects : List Object) → object_lines_of skip number (loaded_from skip number objects) ≡ object_lines_of skip number objects
lines_stay skip number [] = refl
lines_stay (suc skip) number (object ∷ objects) = lines_stay skip (number + 1) objects
lines_stay zero number (object ∷ objects) =
    let size : ℕ = group_size (to_tail object.area number (object ∷ objects)) in
    let same = size_stays number object objects size refl in
    ap (λ (n : ℕ). line_of_size n (load_first size object) (loaded_from (size - 1) (number + 1) objects) ∷ object_lines_of (n - 1) (number + 1) (loaded_from (size - 1) (number + 1) objects)) same
    ∙ ap (λ (line : WorldLine). line ∷ object_lines_of (size - 1) (number + 1) (loaded_from (size - 1) (number + 1) objects)) (line_stays size (number + 1) object objects)
    ∙ ap (λ (lines : List WorldLine). line_of_size size object objects ∷ lines) (lines_stay (size - 1) (number + 1) objects)
