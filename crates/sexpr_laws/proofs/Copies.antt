-- What is made when the printed objects are read: the same objects, named by their places among the printed names.
use Rattle.std.proofs.Common.{◌≡◌, ℕ, ◌+◌, List, [], ◌∷◌, ◌++◌, length, map, drop, Bool, true, false, refl, ap, sym, ◌∙◌, arith, length-append, append-nil, append_assoc}
use Rattle.std.proofs.lemmas.List.{drop_at, length-map, map-append}
use Rattle.file_modes.specs.lisp_graph.Graph.{object_at}
use Rattle.file_modes.specs.lisp_graph.declared.object.Value.{Value}
use Rattle.file_modes.specs.lisp_graph.declared.object.Value.TheVariants.{Fix, Nil, Ref}
use Rattle.file_modes.specs.lisp_graph.declared.object.Body.{Body}
use Rattle.file_modes.specs.lisp_graph.declared.object.Body.TheVariants.{Cons, Block}
use Rattle.file_modes.specs.lisp_graph.declared.object.Object.{Object}
use Rattle.file_modes.specs.sexpr_text.declared.token.Token.{Token}
use Rattle.file_modes.specs.sexpr_print.Places.{is_among}
use Rattle.file_modes.specs.sexpr_print.Printing.{Prints, PrintsConses, PrintsFields, PrintsForm, again, block, dotted, done, ends, first, goes, list, more, none, number}
use Rattle.file_modes.proofs.dump_laws.NumberingGrowth.{Grows, grows_none, grows_one, grows_twice}
use Rattle.file_modes.proofs.dump_laws.KeyNumbers.{numbered_last}
use Rattle.sexpr_laws.proofs.Labels.{place_front, place_last, place_of}

-- Copies

-- a value whose object is named by its place among the names
abbrev pub value_in : List ℕ → Value → Value
value_in names (Fix i) = Fix i
value_in names Nil = Nil
value_in names (Ref name) = Ref (place_of names name)

abbrev pub body_in : List ℕ → Body → Body
body_in names (Cons car cdr) = Cons (value_in names car) (value_in names cdr)
body_in names (Block code fields) = Block code (map (value_in names) fields)

abbrev pub object_in : List ℕ → Object → Object
object_in names object = record object { body = body_in names object.body }

-- the objects of these names
abbrev pub copies : List Object → List ℕ → List ℕ → List Object
copies objects all names = map (λ name. object_in all (object_at objects name)) names

-- the objects that were printed since
abbrev pub since : List Object → List ℕ → List ℕ → List ℕ → List Object
since objects all printed after = copies objects all (drop (length printed) after)

-- Names that were printed since

pub since_none : (objects : List Object) (all printed : List ℕ) → since objects all printed printed ≡ []
since_none objects all printed = ap (copies objects all) (ap (drop (length printed)) (sym (append-nil printed)) ∙ drop_at printed [] (length printed) refl)

pub since_later : (objects : List Object) (all printed after : List ℕ) (grows : Grows printed after) → since objects all printed after ≡ copies objects all grows.later
since_later objects all printed after grows = ap (copies objects all) (ap (drop (length printed)) grows.is ∙ drop_at printed grows.later (length printed) refl)

pub since_twice : (objects : List Object) (all printed middle after : List ℕ) → Grows printed middle → Grows middle after → since objects all printed after ≡ since objects all printed middle ++ since objects all middle after
since_twice objects all printed middle after one two =
    since_later objects all printed after (record { later = one.later ++ two.later; is = two.is ∙ ap (λ (l : List ℕ). l ++ two.later) one.is ∙ append_assoc printed one.later two.later })
    ∙ map-append (λ name. object_in all (object_at objects name)) one.later two.later
    ∙ ap (λ (l : List Object). l ++ copies objects all two.later) (sym (since_later objects all printed middle one))
    ∙ ap (λ (l : List Object). since objects all printed middle ++ l) (sym (since_later objects all middle after two))

pub since_one : (objects : List Object) (all printed after : List ℕ) (name : ℕ) → Grows (printed ++ name ∷ []) after → since objects all printed after ≡ object_in all (object_at objects name) ∷ since objects all (printed ++ name ∷ []) after
since_one objects all printed after name grows =
    since_twice objects all printed (printed ++ name ∷ []) after (grows_one printed name) grows
    ∙ ap (λ (l : List Object). l ++ since objects all (printed ++ name ∷ []) after) (since_later objects all printed (printed ++ name ∷ []) (record { later = name ∷ []; is = refl }))

-- this many objects are made
pub since_long : (objects : List Object) (all printed after : List ℕ) → Grows printed after → length printed + length (since objects all printed after) ≡ length after
since_long objects all printed after grows =
    omega (
      arith,
      ap length (since_later objects all printed after grows),
      length-map grows.later (λ name. object_in all (object_at objects name)),
      ap length grows.is,
      length-append printed grows.later,
    )

-- an object that is printed next follows those that were printed
pub place_next : (printed all : List ℕ) (name : ℕ) → is_among printed name ≡ false → Grows (printed ++ name ∷ []) all → place_of all name ≡ length printed
place_next printed all name fresh grows = ap (λ (l : List ℕ). place_of l name) grows.is ∙ place_front (printed ++ name ∷ []) grows.later name (numbered_last printed name) ∙ place_last printed name fresh

pub place_stays : (printed all : List ℕ) (name : ℕ) → is_among printed name ≡ true → Grows printed all → place_of all name ≡ place_of printed name
place_stays printed all name old grows = ap (λ (l : List ℕ). place_of l name) grows.is ∙ place_front printed grows.later name old

-- Printing adds names

mutual
  pub prints_grow : {objects : List Object} {shared : ℕ → Bool} {printed : List ℕ} {value : Value} {tokens : List Token} {after : List ℕ} → Prints objects shared printed value tokens after → Grows printed after
  prints_grow (number printed i) = grows_none printed
  prints_grow (none printed) = grows_none printed
  prints_grow (again printed name old) = grows_none printed
  prints_grow (first printed after name form fresh prints) = grows_twice (grows_one printed name) (form_grows prints)

  pub form_grows : {objects : List Object} {shared : ℕ → Bool} {area charge : ℕ} {printed : List ℕ} {body : Body} {tokens : List Token} {after : List ℕ} → PrintsForm objects shared area charge printed body tokens after → Grows printed after
  form_grows (list area charge printed after car cdr tokens prints) = conses_grow prints
  form_grows (block area charge code printed after fields tokens prints) = fields_grow prints

  pub conses_grow : {objects : List Object} {shared : ℕ → Bool} {area charge : ℕ} {printed : List ℕ} {body : Body} {tokens : List Token} {after : List ℕ} → PrintsConses objects shared area charge printed body tokens after → Grows printed after
  conses_grow (ends area charge printed after car element prints) = prints_grow prints
  conses_grow (goes area charge printed middle after car cdr next element others prints is rest) = grows_twice (prints_grow prints) (grows_twice (grows_one middle next) (conses_grow rest))
  conses_grow (dotted area charge printed middle after car cdr element last prints some is rest) = grows_twice (prints_grow prints) (prints_grow rest)

  pub fields_grow : {objects : List Object} {shared : ℕ → Bool} {printed : List ℕ} {fields : List Value} {tokens : List Token} {after : List ℕ} → PrintsFields objects shared printed fields tokens after → Grows printed after
  fields_grow (done printed) = grows_none printed
  fields_grow (more printed middle after value fields field others prints rest) = grows_twice (prints_grow prints) (fields_grow rest)
