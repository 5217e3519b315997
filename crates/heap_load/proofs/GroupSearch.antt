-- Groups of conses are searched for from their first on.
use Rattle.std.proofs.Common.{◌≡◌, ℕ, zero, suc, ◌+◌, ◌-◌, ◌<◌, ◌≤◌, inl, inr, refl, sym, ap, ◌∙◌, arith, List, [], ◌∷◌, length, drop, Bool, true, false, Option, Some, None}
use Rattle.std.specs.Prelude.{◌==◌, ◌&&◌, max, min, nat_le, if◌then◌else◌}
use Rattle.std.proofs.Math.Seq.{drop-cons}
use Rattle.std.proofs.lemmas.Bool.{and_parts, cases_lt, eqb-true}
use Rattle.std.proofs.lemmas.Bool.Decides.{nat_tests}
use Rattle.lisp_graph.specs.declared.object.Value.{Value}
use Rattle.lisp_graph.specs.declared.object.Value.TheVariants.{Nil, Fix, Ref}
use Rattle.lisp_graph.specs.declared.object.Body.{Body}
use Rattle.lisp_graph.specs.declared.object.Body.TheVariants.{Cons, Block}
use Rattle.lisp_graph.specs.declared.object.Object.{Object}
use Rattle.lisp_graph.specs.Graph.{is_ref, no_object, object_at}
use Rattle.lisp_graph.specs.Groups.{group_size, has_cdr, is_cell, is_nil, to_tail}
use Rattle.heap_load.specs.Loading.{AreLinked, group_from}
use Rattle.heap_load.proofs.ConsGroups.{group_is}

-- `done` more
abbrev pub further : ℕ → Option ℕ → Option ℕ
further done None = None
further done (Some count) = Some (count + done)

-- the objects from a number on are the one there and the others
pub drop_at : (objects : List Object) (i : ℕ) → i < length objects → drop i objects ≡ object_at objects i ∷ drop (i + 1) objects
drop_at objects i low =
    let e : suc i ≡ i + 1 = omega arith in
    drop-cons objects i no_object low ∙ ap (λ (n : ℕ). object_at objects i ∷ drop n objects) e

-- no object remains
pub none_left : (area i : ℕ) (objects : List Object) → length objects ≤ i → to_tail area i (drop i objects) ≡ None
none_left area i [] past = nothing i
  where
    nothing : (n : ℕ) → to_tail area i (drop n []) ≡ None
    nothing zero = refl
    nothing (suc n) = refl
none_left area zero (object ∷ objects) past = absurd (omega arith)
none_left area (suc i) (object ∷ objects) past = go (drop i objects) (none i objects (omega arith))
  where
    none : (n : ℕ) (rest : List Object) → length rest ≤ n → drop n rest ≡ []
    none zero [] l = refl
    none (suc n) [] l = refl
    none zero (o ∷ rest) l = absurd (omega arith)
    none (suc n) (o ∷ rest) l = none n rest (omega arith)

    go : (rest : List Object) → rest ≡ [] → to_tail area (suc i) rest ≡ None
    go rest e = ap (to_tail area (suc i)) e

pub at_end : (area i : ℕ) (objects : List Object) → i < length objects → is_cell area is_nil (object_at objects i) ≡ true → to_tail area i (drop i objects) ≡ Some 1
at_end area i objects low is = ap (to_tail area i) (drop_at objects i low) ∙ rw is refl

pub goes_on : (area i : ℕ) (objects : List Object) → i < length objects → is_cell area is_nil (object_at objects i) ≡ false → is_cell area (is_ref (i + 1)) (object_at objects i) ≡ true
    → to_tail area i (drop i objects) ≡ further 1 (to_tail area (i + 1) (drop (i + 1) objects))
goes_on area i objects low more is = ap (to_tail area i) (drop_at objects i low) ∙ rw (more, is) (same (to_tail area (i + 1) (drop (i + 1) objects)))
  where
    same : (o : Option ℕ) → Rattle.std.specs.Option.option_map (λ count. count + 1) o ≡ further 1 o
    same None = refl
    same (Some count) = refl

pub stops : (area i : ℕ) (objects : List Object) → i < length objects → is_cell area is_nil (object_at objects i) ≡ false → is_cell area (is_ref (i + 1)) (object_at objects i) ≡ false
    → to_tail area i (drop i objects) ≡ None
stops area i objects low more none = ap (to_tail area i) (drop_at objects i low) ∙ rw (more, none) refl

-- a group of more than 1,024 conses isn't one
too_many : (area i : ℕ) (objects : List Object) → group_size (further 1024 (to_tail area i objects)) ≡ 0
too_many area i objects = go (to_tail area i objects) refl
  where
    go : (o : Option ℕ) → to_tail area i objects ≡ o → group_size (further 1024 o) ≡ 0
    go None e = refl
    go (Some count) e =
        let some = (group_is area i count objects e).0 in
        let more : nat_le (count + 1024) 1024 ≡ false = grind (arith, nat_tests) in
        rw more refl

-- one that ends with this cons
group_ends : (done : ℕ) → done < 1024 → group_size (further done (Some 1)) ≡ done + 1
group_ends done few =
    let small : nat_le (1 + done) 1024 ≡ true = grind (arith, nat_tests) in
    let e : 1 + done ≡ done + 1 = omega arith in
    rw small e

further_twice : (more done : ℕ) (o : Option ℕ) → further more (further done o) ≡ further (done + more) o
further_twice more done None = refl
further_twice more done (Some count) = let e : count + done + more ≡ count + (done + more) = omega arith in ap (λ (n : ℕ). Some n) e

further_none : (o : Option ℕ) → o ≡ further 0 o
further_none None = refl
further_none (Some count) = let e : count ≡ count + 0 = omega arith in ap (λ (n : ℕ). Some n) e

-- a cons that refers to the next isn't the last
not_nil : (name : ℕ) (body : Body) → has_cdr (is_ref name) body ≡ true → has_cdr is_nil body ≡ false
not_nil name (Cons car Nil) is = absurd (cc (is))
not_nil name (Cons car (Fix number)) is = refl
not_nil name (Cons car (Ref other)) is = refl
not_nil name (Block code fields) is = refl

not_last : (area name : ℕ) (object : Object) → is_cell area (is_ref name) object ≡ true → is_cell area is_nil object ≡ false
not_last area name object is =
    let p = and_parts (object.area == area && object.charge == 3) (has_cdr (is_ref name) object.body) is in
    rw (p.0, not_nil name object.body p.1) refl

-- a cell of an area belongs to it
area_of : (area : ℕ) (test : Value → Bool) (object : Object) → is_cell area test object ≡ true → object.area ≡ area
area_of area test object is =
    let p = and_parts (object.area == area && object.charge == 3) (has_cdr test object.body) is in
    eqb-true object.area area (and_parts (object.area == area) (object.charge == 3) p.0).0

-- objects that refer each to the next precede the rest of the list
linked_by : (area : ℕ) (objects : List Object) (count number : ℕ) → number + count ≤ length objects → ((i : ℕ) → number ≤ i → i < number + count → is_cell area (is_ref (i + 1)) (object_at objects i) ≡ true)
    → to_tail area number (drop number objects) ≡ further count (to_tail area (number + count) (drop (number + count) objects))
linked_by area objects zero number low linked =
    let e : number ≡ number + 0 = omega arith in
    further_none (to_tail area number (drop number objects)) ∙ ap (λ (n : ℕ). further 0 (to_tail area n (drop n objects))) e
linked_by area objects (suc count) number low linked =
    let here = linked number (omega arith) (omega arith) in
    let next : number + 1 + count ≡ number + suc count = omega arith in
    let more : count + 1 ≡ suc count = omega arith in
    goes_on area number objects (omega arith) (not_last area (number + 1) (object_at objects number) here) here
    ∙ ap (further 1) (linked_by area objects count (number + 1) (omega arith) (λ i from below. linked i (omega arith) (omega arith)))
    ∙ further_twice 1 count (to_tail area (number + 1 + count) (drop (number + 1 + count) objects))
    ∙ ap (λ (n : ℕ). further n (to_tail area (number + 1 + count) (drop (number + 1 + count) objects))) more
    ∙ ap (λ (n : ℕ). further (suc count) (to_tail area n (drop n objects))) next

-- they are also from a later number on
pub linked_later : (objects : List Object) (number later end : ℕ) → number ≤ later → AreLinked objects number end → AreLinked objects later end
linked_later objects number later end order linked i from below =
    let area = area_of (object_at objects number).area (is_ref (later + 1)) (object_at objects later) (linked later order (omega arith)) in
    ap (λ (a : ℕ). is_cell a (is_ref (i + 1)) (object_at objects i)) area ∙ linked i (omega arith) below

-- a search continues from the end of the latest one
module _ (objects : List Object) (number linked from at area : ℕ) (known : AreLinked objects number linked) (area_is : area ≡ (object_at objects number).area) (from_is : from ≡ max number linked)
    (skipped : (i : ℕ) → from ≤ i → i < at → is_cell area (is_ref (i + 1)) (object_at objects i) ≡ true) where
  linked_to : (i : ℕ) → number ≤ i → i < at → is_cell area (is_ref (i + 1)) (object_at objects i) ≡ true
  linked_to i low below = elim (cases_lt i from) [
    | inl before ↦ ap (λ (a : ℕ). is_cell a (is_ref (i + 1)) (object_at objects i)) area_is ∙ known i low (omega (arith, from_is))
    | inr past ↦ skipped i past below
  ]

  pub stays_linked : AreLinked objects number at
  stays_linked i low below = ap (λ (a : ℕ). is_cell a (is_ref (i + 1)) (object_at objects i)) (sym area_is) ∙ linked_to i low below

  -- the group is what begins there, and the objects in front of that
  module _ (order : number ≤ at) (inside : at ≤ length objects) where
    group_by : (o : Option ℕ) → to_tail area at (drop at objects) ≡ o → group_from objects number ≡ group_size (further (at - number) o)
    group_by o is =
        let count : number + (at - number) ≡ at = omega arith in
        ap (λ (a : ℕ). group_size (to_tail a number (drop number objects))) (sym area_is)
        ∙ ap group_size (linked_by area objects (at - number) number (omega arith) (λ i low below. linked_to i low (omega arith))
        ∙ ap (λ (n : ℕ). further (at - number) (to_tail area n (drop n objects))) count ∙ ap (further (at - number)) is)

    pub group_found : at < length objects → at - number < 1024 → is_cell area is_nil (object_at objects at) ≡ true → at - number + 1 ≡ group_from objects number
    group_found low few last = sym (group_by (Some 1) (at_end area at objects low last) ∙ group_ends (at - number) few)

    pub group_stops : at < length objects → is_cell area is_nil (object_at objects at) ≡ false → is_cell area (is_ref (at + 1)) (object_at objects at) ≡ false → 0 ≡ group_from objects number
    group_stops low last link = sym (group_by None (stops area at objects low last link))

    pub group_past : length objects ≤ at → 0 ≡ group_from objects number
    group_past past = sym (group_by None (none_left area at objects past))

    pub group_long : at ≡ number + 1024 → 0 ≡ group_from objects number
    group_long long =
        let many : at - number ≡ 1024 = omega arith in
        sym (group_by (to_tail area at (drop at objects)) refl ∙ ap (λ (n : ℕ). group_size (further n (to_tail area at (drop at objects)))) many ∙ too_many area at (drop at objects))

    -- whichever of the two it is
    pub group_none : at ≡ number + min (length objects - number) 1024 → 0 ≡ group_from objects number
    group_none is = elim (cases_lt at (length objects)) [ inl low ↦ group_long (omega arith) | inr past ↦ group_past past ]

-- a size that isn't 0 is the group's, at most 1,024
pub record IsGroup (o : Option ℕ) (count : ℕ) : Type 0 where
  pub is : o ≡ Some count
  pub few : count ≤ 1024

pub group_of : (o : Option ℕ) → (group_size o ≡ 0 → ⊥) → IsGroup o (group_size o)
group_of None some = absurd (some refl)
group_of (Some count) some = go (nat_le count 1024) refl
  where
    go : (b : Bool) → nat_le count 1024 ≡ b → IsGroup (Some count) (if b then count else 0)
    go true e = record { is = refl; few = grind (arith, nat_tests) }
    go false e = absurd (some (rw e refl))
