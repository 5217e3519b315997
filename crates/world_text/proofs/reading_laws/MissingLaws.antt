-- No number is missing if and only if each reference is to one of the objects.
use Rattle.std.proofs.Common.{◌≡◌, ℕ, ◌<◌, List, [], ◌∷◌, length, Bool, true, false, Option, Some, None, refl, arith}
use Rattle.std.specs.Prelude.{fold, nat_lt, if◌then◌else◌}
use Rattle.std.specs.List.{All}
use Rattle.std.proofs.lemmas.Bool.Decides.{nat_tests}
use Rattle.std.proofs.lemmas.List.Elements.{All-cons, All-head, All-nil, All-tail}
use Rattle.lisp_graph.specs.Graph.{PartsReferBelow, RefersBelow}
use Rattle.lisp_graph.specs.declared.object.Value.{Value}
use Rattle.lisp_graph.specs.declared.object.Value.TheVariants.{Fix, Nil, Ref}
use Rattle.lisp_graph.specs.declared.object.Body.{Body}
use Rattle.lisp_graph.specs.declared.object.Body.TheVariants.{Cons, Block}
use Rattle.lisp_graph.specs.declared.object.Object.{Object}
use Rattle.world_text.specs.reading.Closing.{lesser, missing, missing_body, missing_value}
use Rattle.world_text.specs.reading.Limits.{AllRefer}

lesser_some : (found : Option ℕ) (number : ℕ) → lesser found number ≡ None → ⊥
lesser_some None number is = cc (is)
lesser_some (Some m) number is = cc (is)

ref_none : (b : Bool) (count number : ℕ) (found : Option ℕ) → nat_lt number count ≡ b → (if b then found else lesser found number) ≡ None → (found ≡ None) × (number < count)
ref_none true count number found below is = (is, grind (arith, nat_tests, below))
ref_none false count number found below is = absurd (lesser_some found number is)

pub value_none : (count : ℕ) (found : Option ℕ) (value : Value) → missing_value count found value ≡ None → (found ≡ None) × RefersBelow count value
value_none count found (Fix number) is = (is, tt)
value_none count found Nil is = (is, tt)
value_none count found (Ref number) is = ref_none (nat_lt number count) count number found refl is

pub value_keeps : (count : ℕ) (value : Value) → RefersBelow count value → missing_value count None value ≡ None
value_keeps count (Fix number) below = refl
value_keeps count Nil below = refl
value_keeps count (Ref number) below = let e : nat_lt number count ≡ true = grind (arith, nat_tests) in rw e refl

fields_none : (count : ℕ) (found : Option ℕ) (fields : List Value) → fold (missing_value count) found fields ≡ None → (found ≡ None) × All (RefersBelow count) fields
fields_none count found [] is = (is, All-nil (RefersBelow count))
fields_none count found (value ∷ fields) is =
    let rest = fields_none count (missing_value count found value) fields is in
    let first = value_none count found value rest.0 in
    (first.0, All-cons (RefersBelow count) value fields first.1 rest.1)

fields_keep : (count : ℕ) (fields : List Value) → All (RefersBelow count) fields → fold (missing_value count) None fields ≡ None
fields_keep count [] below = refl
fields_keep count (value ∷ fields) below =
    rw (value_keeps count value (All-head (RefersBelow count) value fields below)) (fields_keep count fields (All-tail (RefersBelow count) value fields below))

body_none : (count : ℕ) (found : Option ℕ) (body : Body) → missing_body count found body ≡ None → (found ≡ None) × PartsReferBelow count body
body_none count found (Cons car cdr) is =
    let second = value_none count (missing_value count found car) cdr is in
    let first = value_none count found car second.0 in
    (first.0, (first.1, second.1))
body_none count found (Block code fields) is = fields_none count found fields is

body_keeps : (count : ℕ) (body : Body) → PartsReferBelow count body → missing_body count None body ≡ None
body_keeps count (Cons car cdr) below = rw (value_keeps count car below.0) (value_keeps count cdr below.1)
body_keeps count (Block code fields) below = fields_keep count fields below

abbrev Refers : ℕ → Object → Type 0
Refers count object = PartsReferBelow count object.body

abbrev missing_in : ℕ → Option ℕ → List Object → Option ℕ
missing_in count found objects = fold (λ found object. missing_body count found object.body) found objects

objects_none : (count : ℕ) (found : Option ℕ) (objects : List Object) → missing_in count found objects ≡ None → (found ≡ None) × All (Refers count) objects
objects_none count found [] is = (is, All-nil (Refers count))
objects_none count found (object ∷ objects) is =
    let rest = objects_none count (missing_body count found object.body) objects is in
    let first = body_none count found object.body rest.0 in
    (first.0, All-cons (Refers count) object objects first.1 rest.1)

objects_keep : (count : ℕ) (objects : List Object) → All (Refers count) objects → missing_in count None objects ≡ None
objects_keep count [] below = refl
objects_keep count (object ∷ objects) below =
    rw (body_keeps count object.body (All-head (Refers count) object objects below)) (objects_keep count objects (All-tail (Refers count) object objects below))

pub missing_none : (objects : List Object) → missing objects ≡ None → AllRefer objects
missing_none objects is = (objects_none (length objects) None objects is).1

pub none_missing : (objects : List Object) → AllRefer objects → missing objects ≡ None
none_missing objects refer = objects_keep (length objects) objects refer
