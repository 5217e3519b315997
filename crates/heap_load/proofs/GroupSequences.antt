-- The groups with which conses begin, one after another.
use Rattle.std.proofs.Common.{◌≡◌, ℕ, zero, suc, ◌+◌, ◌<◌, ◌≤◌, ◌⊎◌, inl, inr, refl, sym, ap, ◌∙◌, subst, arith, List, ◌∷◌, length, drop, Bool, true, false, Option, Some, None}
use Rattle.std.specs.Prelude.{◌==◌, ◌&&◌, nat_le, option_map}
use Rattle.std.proofs.lemmas.Bool.{and_parts, cases_Bool, cases_lt, eqb-true}
use Rattle.std.proofs.lemmas.Bool.Decides.{nat_tests}
use Rattle.lisp_graph.specs.declared.object.Value.{Value}
use Rattle.lisp_graph.specs.declared.object.Value.TheVariants.{Nil, Fix, Ref}
use Rattle.lisp_graph.specs.declared.object.Body.{Body}
use Rattle.lisp_graph.specs.declared.object.Body.TheVariants.{Cons, Block}
use Rattle.lisp_graph.specs.declared.object.Object.{Object}
use Rattle.lisp_graph.specs.Graph.{is_ref, object_at}
use Rattle.lisp_graph.specs.Groups.{group_size, has_cdr, is_cell, is_nil, to_tail}
use Rattle.cdr_lists.specs.Lists.{cell_code}
use Rattle.heap_load.specs.Loading.{code_for, group_from}
use Rattle.heap_load.specs.Places.{cell_code_of}
use Rattle.heap_load.proofs.GroupSearch.{at_end, drop_at, further, goes_on, group_of, none_left, stops}
use Rattle.heap_load.proofs.ConsGroups.{group_is}

-- The first cons of a group

has_cons : (test : Value → Bool) (body : Body) → has_cdr test body ≡ true → (car : Value) × (cdr : Value) × (body ≡ Cons car cdr)
has_cons test (Cons car cdr) e = (car, cdr, refl)
has_cons test (Block code fields) e = absurd (cc (e))

record IsCell (area : ℕ) (object : Object) : Type 0 where
  pub area_is : object.area ≡ area
  pub cons : (car : Value) × (cdr : Value) × (object.body ≡ Cons car cdr)

cell_is : (area : ℕ) (test : Value → Bool) (object : Object) → is_cell area test object ≡ true → IsCell area object
cell_is area test object e =
    let p = and_parts (object.area == area && object.charge == 3) (has_cdr test object.body) e in
    let q = and_parts (object.area == area) (object.charge == 3) p.0 in
    record { area_is = eqb-true object.area area q.0; cons = has_cons test object.body p.1 }

tail_first : (area number count : ℕ) (object : Object) (rest : List Object) → to_tail area number (object ∷ rest) ≡ Some count → IsCell area object
tail_first area number count object rest e = go (cases_Bool (is_cell area is_nil object)) (cases_Bool (is_cell area (is_ref (number + 1)) object))
  where
    go : (is_cell area is_nil object ≡ true) ⊎ (is_cell area is_nil object ≡ false) → (is_cell area (is_ref (number + 1)) object ≡ true) ⊎ (is_cell area (is_ref (number + 1)) object ≡ false) → IsCell area object
    go (inl t) _ = cell_is area is_nil object t
    go (inr f) (inl t) = cell_is area (is_ref (number + 1)) object t
    go (inr f) (inr h) = let none = rw (f, h) at e in absurd (cc (none))

-- the rest of two or more
tail_rest : (area number count : ℕ) (object : Object) (rest : List Object) → to_tail area number (object ∷ rest) ≡ Some (suc (suc count)) → to_tail area (number + 1) rest ≡ Some (suc count)
tail_rest area number count object rest e = go (cases_Bool (is_cell area is_nil object)) (cases_Bool (is_cell area (is_ref (number + 1)) object))
  where
    left : (found : Option ℕ) → to_tail area (number + 1) rest ≡ found → option_map (λ n. n + 1) found ≡ Some (suc (suc count)) → to_tail area (number + 1) rest ≡ Some (suc count)
    left None f g = absurd (cc (g))
    left (Some n) f g =
        let same : n + 1 ≡ suc (suc count) = cc (g) in
        let less : n ≡ suc count = omega arith in
        f ∙ ap (λ (k : ℕ). Some k) less

    go : (is_cell area is_nil object ≡ true) ⊎ (is_cell area is_nil object ≡ false) → (is_cell area (is_ref (number + 1)) object ≡ true) ⊎ (is_cell area (is_ref (number + 1)) object ≡ false) → to_tail area (number + 1) rest ≡ Some (suc count)
    go (inl t) _ = let one = rw t at e in let same : 1 ≡ suc (suc count) = cc (one) in absurd (omega arith)
    go (inr f) (inl t) = let more = rw (f, t) at e in left (to_tail area (number + 1) rest) refl more
    go (inr f) (inr h) = let none = rw (f, h) at e in absurd (cc (none))

-- Groups

-- a group begins with this cons
pub record Begins (objects : List Object) (number count : ℕ) : Type 0 where
  pub inside : number < length objects
  pub is : to_tail (object_at objects number).area number (drop number objects) ≡ Some count
  pub few : count ≤ 1024

pub group_begins : (objects : List Object) (number count : ℕ) → group_from objects number ≡ suc count → Begins objects number (suc count)
group_begins objects number count e =
    let tail : Option ℕ = to_tail (object_at objects number).area number (drop number objects) in
    let group = group_of tail (λ none. (let z : 0 ≡ suc count = sym none ∙ e in absurd (omega arith))) in
    let is = group.is ∙ ap (λ (k : ℕ). Some k) e in
    record {
      inside = elim (cases_lt number (length objects)) [
        | inl low ↦ low
        | inr past ↦ (let none = sym is ∙ none_left (object_at objects number).area number objects past in absurd (cc (none)))
      ];
      is = is;
      few = (let few = group.few in omega arith);
    }

pub group_cons : (objects : List Object) (number count : ℕ) → group_from objects number ≡ suc count → (car : Value) × (cdr : Value) × ((object_at objects number).body ≡ Cons car cdr)
group_cons objects number count e =
    let b = group_begins objects number count e in
    let area = (object_at objects number).area in
    (tail_first area number (suc count) (object_at objects number) (drop (number + 1) objects) (ap (to_tail area number) (sym (drop_at objects number b.inside)) ∙ b.is)).cons

-- a group of at most 1,024 has the size of its tail
pub size_whole : (count : ℕ) → count ≤ 1024 → group_size (Some count) ≡ count
size_whole count few = let small : nat_le count 1024 ≡ true = grind (arith, nat_tests) in rw small refl

-- the group of the next cons is one shorter
pub group_after : (objects : List Object) (number count : ℕ) → group_from objects number ≡ suc (suc count) → group_from objects (suc number) ≡ suc count
group_after objects number count e =
    let b = group_begins objects number (suc count) e in
    let area = (object_at objects number).area in
    let rest = tail_rest area number count (object_at objects number) (drop (number + 1) objects) (ap (to_tail area number) (sym (drop_at objects number b.inside)) ∙ b.is) in
    let inside : number + 1 < length objects =
    elim (cases_lt (number + 1) (length objects)) [
      | inl low ↦ low
      | inr past ↦ (let none = sym rest ∙ none_left area (number + 1) objects past in absurd (cc (none)))
    ] in
    let first = tail_first area (number + 1) (suc count) (object_at objects (number + 1)) (drop (number + 1 + 1) objects) (ap (to_tail area (number + 1)) (sym (drop_at objects (number + 1) inside)) ∙ rest) in
    let step : suc number ≡ number + 1 = omega arith in
    ap (group_from objects) step
    ∙ ap (λ (a : ℕ). group_size (to_tail a (number + 1) (drop (number + 1) objects))) first.area_is
    ∙ ap group_size rest
    ∙ size_whole (suc count) (let few = b.few in omega arith)

group_step : (objects : List Object) (number count : ℕ) → group_from objects number ≡ count → 2 ≤ count → group_from objects (suc number) + 1 ≡ count
group_step objects number zero e two = absurd (omega arith)
group_step objects number (suc zero) e two = absurd (omega arith)
group_step objects number (suc (suc count)) e two = let next = group_after objects number count e in ap (λ (k : ℕ). k + 1) next ∙ (omega arith)

-- the rest of a group, after `i` of its conses
pub group_along : (objects : List Object) (number count i : ℕ) → group_from objects number ≡ count → i < count → group_from objects (number + i) + i ≡ count
group_along objects number count zero e low =
    let here : number + 0 ≡ number = omega arith in
    ap (λ (n : ℕ). group_from objects n + 0) here ∙ (ap (λ (k : ℕ). k + 0) e ∙ (omega arith))
group_along objects number count (suc i) e low = go (group_from objects (number + i)) refl (group_along objects number count i e (omega arith))
  where
    last : (a k : ℕ) → a + 1 ≡ k → k + i ≡ count → a + suc i ≡ count
    last a k one sum = omega arith

    go : (k : ℕ) → group_from objects (number + i) ≡ k → k + i ≡ count → group_from objects (number + suc i) + suc i ≡ count
    go k is sum =
        let step = group_step objects (number + i) k is (omega arith) in
        let there : number + suc i ≡ suc (number + i) = omega arith in
        ap (λ (n : ℕ). group_from objects n + suc i) there ∙ last (group_from objects (suc (number + i))) k step sum

-- the code of a cell is that of the rest of its group
pub code_left : (count i left : ℕ) → left + i ≡ count → i < count → cell_code count i ≡ code_for left
code_left count i zero e low = absurd (omega arith)
code_left count i (suc zero) e low = let last : (suc i == count) ≡ true = grind (arith, nat_tests) in rw last refl
code_left count i (suc (suc left)) e low = let more : (suc i == count) ≡ false = grind (arith, nat_tests) in rw more refl

-- the cdr code of a cell follows from its cdr

nil_code : (cdr : Value) → is_nil cdr ≡ true → code_for 1 ≡ cell_code_of cdr
nil_code Nil e = refl
nil_code (Ref name) e = absurd (cc (e))
nil_code (Fix number) e = absurd (cc (e))

ref_code : (cdr : Value) (next : ℕ) → is_ref next cdr ≡ true → code_for 2 ≡ cell_code_of cdr
ref_code Nil next e = absurd (cc (e))
ref_code (Ref name) next e = refl
ref_code (Fix number) next e = absurd (cc (e))

cdr_passes : (area : ℕ) (test : Value → Bool) (object : Object) (car cdr : Value) → object.body ≡ Cons car cdr → is_cell area test object ≡ true → test cdr ≡ true
cdr_passes area test object car cdr body e = ap (has_cdr test) (sym body) ∙ (and_parts (object.area == area && object.charge == 3) (has_cdr test object.body) e).1

code_of_more : (count : ℕ) → 2 ≤ count → code_for count ≡ code_for 2
code_of_more zero two = absurd (omega arith)
code_of_more (suc zero) two = absurd (omega arith)
code_of_more (suc (suc count)) two = refl

-- a group of one more has at least two
two_or_more : (area number : ℕ) (rest : List Object) (found : Option ℕ) → to_tail area number rest ≡ found → 1 ≤ group_size (further 1 found) → 2 ≤ group_size (further 1 found)
two_or_more area number rest None is some = absurd (omega arith)
two_or_more area number rest (Some count) is some = go (cases_Bool (nat_le (count + 1) 1024))
  where
    go : (nat_le (count + 1) 1024 ≡ true) ⊎ (nat_le (count + 1) 1024 ≡ false) → 2 ≤ group_size (Some (count + 1))
    go (inl t) = let one : 1 ≤ count = (group_is area number count rest is).0 in let two : 2 ≤ count + 1 = omega arith in rw t two
    go (inr f) = let none = rw f at some in absurd (omega (arith, none))

pub code_by_cdr : (objects : List Object) (number : ℕ) (car cdr : Value) → number < length objects → (object_at objects number).body ≡ Cons car cdr → 1 ≤ group_from objects number → code_for (group_from objects number) ≡ cell_code_of cdr
code_by_cdr objects number car cdr low body some =
    go (cases_Bool (is_cell (object_at objects number).area is_nil (object_at objects number))) (cases_Bool (is_cell (object_at objects number).area (is_ref (number + 1)) (object_at objects number)))
  where
    go : (is_cell (object_at objects number).area is_nil (object_at objects number) ≡ true) ⊎ (is_cell (object_at objects number).area is_nil (object_at objects number) ≡ false) → (is_cell (object_at objects number).area (is_ref (number + 1)) (object_at objects number) ≡ true) ⊎ (is_cell (object_at objects number).area (is_ref (number + 1)) (object_at objects number) ≡ false)
        → code_for (group_from objects number) ≡ cell_code_of cdr
    go (inl t) _ = ap (λ (o : Option ℕ). code_for (group_size o)) (at_end (object_at objects number).area number objects low t) ∙ nil_code cdr (cdr_passes (object_at objects number).area is_nil (object_at objects number) car cdr body t)
    go (inr f) (inl t) =
        let area = (object_at objects number).area in
        let rest = to_tail area (number + 1) (drop (number + 1) objects) in
        let more = ap group_size (goes_on area number objects low f t) in
        let two = two_or_more area (number + 1) (drop (number + 1) objects) rest refl (subst (λ (k : ℕ). 1 ≤ k) more some) in
        ap code_for more ∙ code_of_more (group_size (further 1 rest)) two ∙ ref_code cdr (number + 1) (cdr_passes area (is_ref (number + 1)) (object_at objects number) car cdr body t)
    go (inr f) (inr h) = let none = ap group_size (stops (object_at objects number).area number objects low f h) in absurd (omega (arith, none))
