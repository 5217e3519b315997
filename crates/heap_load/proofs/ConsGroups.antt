-- A group of conses is a list.
use Rattle.std.proofs.Common.{◌≡◌, ℕ, zero, suc, ◌+◌, ◌≤◌, ◌⊎◌, inl, inr, List, [], ◌∷◌, length, map, take, Bool, true, false, Option, Some, None, refl, sym, ap, ap₂, ◌∙◌, subst, arith}
use Rattle.std.specs.Prelude.{◌==◌, ◌&&◌, option_map}
use Rattle.std.proofs.lemmas.Bool.{and_parts, cases_Bool, eqb-true}
use Rattle.lisp_graph.specs.declared.object.Value.{Value}
use Rattle.lisp_graph.specs.declared.object.Value.TheVariants.{Nil, Fix, Ref}
use Rattle.lisp_graph.specs.declared.object.Body.{Body}
use Rattle.lisp_graph.specs.declared.object.Body.TheVariants.{Cons, Block}
use Rattle.lisp_graph.specs.declared.object.Object.{Object}
use Rattle.lisp_graph.specs.Graph.{is_ref}
use Rattle.lisp_graph.specs.Groups.{has_cdr, is_cell, is_nil, to_tail}
use Rattle.lisp_graph.specs.Effect.{cell_of, list_from}
use Rattle.heap_load.specs.Drafts.{car_of}

-- the cars of these conses
abbrev cars : List Object → List Value
cars objects = map (λ (object : Object). car_of object.body) objects

nil_is : (value : Value) → is_nil value ≡ true → value ≡ Nil
nil_is Nil e = refl
nil_is (Fix number) e = absurd (cc (e))
nil_is (Ref name) e = absurd (cc (e))

ref_is : (name : ℕ) (value : Value) → is_ref name value ≡ true → value ≡ Ref name
ref_is name Nil e = absurd (cc (e))
ref_is name (Fix number) e = absurd (cc (e))
ref_is name (Ref other) e = ap Ref (eqb-true other name e)

-- a cell of the area whose cdr is this value
cell_is : (area : ℕ) (test : Value → Bool) (cdr : Value) (object : Object) → ((value : Value) → test value ≡ true → value ≡ cdr) → is_cell area test object ≡ true → object ≡ cell_of area (car_of object.body) cdr
cell_is area test cdr object only e =
    let p = and_parts (object.area == area && object.charge == 3) (has_cdr test object.body) e in
    let q = and_parts (object.area == area) (object.charge == 3) p.0 in
    of_body object.area object.charge object.body (eqb-true object.area area q.0) (eqb-true object.charge 3 q.1) p.1
  where
    of_body : (a c : ℕ) (body : Body) → a ≡ area → c ≡ 3 → has_cdr test body ≡ true → (let o : Object = record { area = a; charge = c; body = body } in o ≡ cell_of area (car_of body) cdr)
    of_body a c (Cons car rest) one two has = let r = only rest has in λ i. record { area = one i; charge = two i; body = Cons car (r i) }
    of_body a c (Block code fields) one two has = absurd (cc (has))

pub record IsList (area number count : ℕ) (objects : List Object) : Type 0 where
  pub some : 1 ≤ count
  pub within : count ≤ length objects
  pub is : take count objects ≡ list_from area number (cars (take count objects))

list_one : (area number : ℕ) (car : Value) → list_from area number (car ∷ []) ≡ cell_of area car Nil ∷ []
unfolding list_from
list_one area number car = refl

list_more : (area number : ℕ) (car next : Value) (others : List Value) → list_from area number (car ∷ next ∷ others) ≡ cell_of area car (Ref (suc number)) ∷ list_from area (suc number) (next ∷ others)
unfolding list_from
list_more area number car next others = refl

-- a cell in front of a list
in_front : (area number count : ℕ) (object : Object) (objects : List Object) → object ≡ cell_of area (car_of object.body) (Ref (number + 1)) → IsList area (number + 1) count objects → IsList area number (suc count) (object ∷ objects)
in_front area number zero object objects e rest = absurd (let l = rest.some in omega arith)
in_front area number (suc count) object [] e rest = absurd (let l = rest.within in omega arith)
in_front area number (suc count) object (next ∷ objects) e rest =
    let n : number + 1 ≡ suc number = omega arith in
    let P : ℕ → Type 0 = λ k. (object ≡ cell_of area (car_of object.body) (Ref k)) × (take (suc count) (next ∷ objects) ≡ list_from area k (cars (take (suc count) (next ∷ objects)))) in
    let at = subst P n (e, rest.is) in
    record {
      some = omega arith;
      within = (let l = rest.within in omega arith);
      is = ap₂ (λ (first : Object) (others : List Object). first ∷ others) at.0 at.1 ∙ sym (list_more area number (car_of object.body) (car_of next.body) (cars (take count objects)));
    }

group_list : (area number count : ℕ) (objects : List Object) → to_tail area number objects ≡ Some count → IsList area number count objects
group_list area number count [] e = absurd (cc (e))
group_list area number count (object ∷ objects) e = at_end (cases_Bool (is_cell area is_nil object)) (λ left. group_list area (number + 1) left objects)
  where
    further : (found : Option ℕ) → to_tail area (number + 1) objects ≡ found → option_map (λ n. n + 1) found ≡ Some count → is_cell area (is_ref (number + 1)) object ≡ true → ((left : ℕ) → to_tail area (number + 1) objects ≡ Some left → IsList area (number + 1) left objects) → IsList area number count (object ∷ objects)
    further None f g h rest = absurd (cc (g))
    further (Some left) f g h rest =
        let same : left + 1 ≡ count = cc (g) in
        let one : left + 1 ≡ suc left = omega arith in
        let P : ℕ → Type 0 = λ n. IsList area number n (object ∷ objects) in
        subst P (sym one ∙ same) (in_front area number left object objects (cell_is area (is_ref (number + 1)) (Ref (number + 1)) object (ref_is (number + 1)) h) (rest left f))

    goes_on : is_cell area is_nil object ≡ false → (is_cell area (is_ref (number + 1)) object ≡ true) ⊎ (is_cell area (is_ref (number + 1)) object ≡ false) → ((left : ℕ) → to_tail area (number + 1) objects ≡ Some left → IsList area (number + 1) left objects) → IsList area number count (object ∷ objects)
    goes_on t (inl h) rest = further (to_tail area (number + 1) objects) refl (rw (t, h) at e) h rest
    goes_on t (inr h) rest = let f = rw (t, h) at e in absurd (cc (f))

    at_end : (is_cell area is_nil object ≡ true) ⊎ (is_cell area is_nil object ≡ false) → ((left : ℕ) → to_tail area (number + 1) objects ≡ Some left → IsList area (number + 1) left objects) → IsList area number count (object ∷ objects)
    at_end (inl t) rest =
        let f = rw t at e in
        let same : 1 ≡ count = cc (f) in
        let P : ℕ → Type 0 = λ n. IsList area number n (object ∷ objects) in
        subst P same (record {
          some = omega arith;
          within = omega arith;
          is = ap (λ (first : Object). first ∷ []) (cell_is area is_nil Nil object nil_is t) ∙ sym (list_one area number (car_of object.body));
        })
    at_end (inr t) rest = goes_on t (cases_Bool (is_cell area (is_ref (number + 1)) object)) rest

pub group_is : (area number count : ℕ) (objects : List Object) → to_tail area number objects ≡ Some count
    → (1 ≤ count) × (count ≤ length objects) × (take count objects ≡ list_from area number (map (λ (object : Object). car_of object.body) (take count objects)))
group_is area number count objects e = let l = group_list area number count objects e in (l.some, l.within, l.is)
