-- What is printed of a graph, as tokens.
use Rattle.std.specs.Prelude.{◌≡◌, ℕ, ◌+◌, ℤ, pos, List, [], ◌∷◌, ◌++◌, Bool, true, false, ◌==◌, ◌&&◌, not, count_by, take, Option, Some, None, if◌then◌else◌}
use Rattle.std.specs.List.{position_or_len}
use Rattle.lisp_graph.specs.Graph.{object_at}
use Rattle.lisp_graph.specs.declared.object.Value.{Value}
use Rattle.lisp_graph.specs.declared.object.Value.TheVariants.{Fix, Nil, Ref}
use Rattle.lisp_graph.specs.declared.object.Body.{Body}
use Rattle.lisp_graph.specs.declared.object.Body.TheVariants.{Cons, Block}
use Rattle.lisp_graph.specs.declared.object.Object.{Object}
use Rattle.lisp_graph.specs.Groups.{is_nil}
use Rattle.sexpr_text.specs.declared.bracket.Bracket.{Bracket}
use Rattle.sexpr_text.specs.declared.bracket.Bracket.TheVariants.{Round, Square, Curly}
use Rattle.sexpr_text.specs.declared.token.Token.{Token}
use Rattle.sexpr_text.specs.declared.token.Token.TheVariants.{Root, Dot, Atom, Label, Again, Open, Close}
use Rattle.sexpr_print.specs.Places.{is_among, is_cons_like}

-- the brackets of a list form, by the charge of its conses
abbrev pub bracket_of : ℕ → Bracket
bracket_of charge = if charge == 2 then Round else Square

-- before an object that is shared its label, which counts the shared objects that were printed
abbrev pub mark : (ℕ → Bool) → List ℕ → ℕ → List Token
mark shared printed name = if shared name then Label (count_by shared printed) ∷ [] else []

-- the label that an object got when it was printed
abbrev pub label_of : (ℕ → Bool) → List ℕ → ℕ → ℕ
label_of shared printed name = count_by shared (take (position_or_len (λ other. name == other) printed) printed)

-- the cons that continues a list form: a cdr of the same area and charge that is neither shared nor printed
abbrev pub next_of : List Object → (ℕ → Bool) → List ℕ → ℕ → ℕ → Value → Option ℕ
next_of objects shared printed area charge (Ref name) =
    if is_cons_like area charge (object_at objects name) && not (shared name) && not (is_among printed name) then Some name else None
next_of objects shared printed area charge _ = None

-- After the objects `printed`, a value or a form is printed as these tokens; then the printed objects are the ones given last.
mutual
  -- a value
  pub data Prints (objects : List Object) (shared : ℕ → Bool) : List ℕ → Value → List Token → List ℕ → Type 0 where
    number : (printed : List ℕ) (number : ℤ) → Prints objects shared printed (Fix number) (Atom (Fix number) ∷ []) printed
    none : (printed : List ℕ) → Prints objects shared printed Nil (Atom Nil ∷ []) printed
    again : (printed : List ℕ) (name : ℕ) → is_among printed name ≡ true → Prints objects shared printed (Ref name) (Again (label_of shared printed name) ∷ []) printed
    first : (printed after : List ℕ) (name : ℕ) (form : List Token) → is_among printed name ≡ false
        → PrintsForm objects shared (object_at objects name).area (object_at objects name).charge (printed ++ name ∷ []) (object_at objects name).body form after
        → Prints objects shared printed (Ref name) (mark shared printed name ++ form) after

  -- the form of an object of this area and charge
  pub data PrintsForm (objects : List Object) (shared : ℕ → Bool) : ℕ → ℕ → List ℕ → Body → List Token → List ℕ → Type 0 where
    list : (area charge : ℕ) (printed after : List ℕ) (car cdr : Value) (tokens : List Token) → PrintsConses objects shared area charge printed (Cons car cdr) tokens after
        → PrintsForm objects shared area charge printed (Cons car cdr) (Open (Some area) (bracket_of charge) ∷ tokens) after
    block : (area charge code : ℕ) (printed after : List ℕ) (fields : List Value) (tokens : List Token) → PrintsFields objects shared printed fields tokens after
        → PrintsForm objects shared area charge printed (Block code fields) (Open (Some area) Curly ∷ Atom (Fix (pos code)) ∷ (tokens ++ Close Curly ∷ [])) after

  -- the conses of a list form from this one on, and the closing bracket
  pub data PrintsConses (objects : List Object) (shared : ℕ → Bool) : ℕ → ℕ → List ℕ → Body → List Token → List ℕ → Type 0 where
    ends : (area charge : ℕ) (printed after : List ℕ) (car : Value) (element : List Token) → Prints objects shared printed car element after
        → PrintsConses objects shared area charge printed (Cons car Nil) (element ++ Close (bracket_of charge) ∷ []) after
    goes : (area charge : ℕ) (printed middle after : List ℕ) (car cdr : Value) (next : ℕ) (element others : List Token) → Prints objects shared printed car element middle
        → next_of objects shared middle area charge cdr ≡ Some next → PrintsConses objects shared area charge (middle ++ next ∷ []) (object_at objects next).body others after
        → PrintsConses objects shared area charge printed (Cons car cdr) (element ++ others) after
    dotted : (area charge : ℕ) (printed middle after : List ℕ) (car cdr : Value) (element last : List Token) → Prints objects shared printed car element middle
        → is_nil cdr ≡ false → next_of objects shared middle area charge cdr ≡ None → Prints objects shared middle cdr last after
        → PrintsConses objects shared area charge printed (Cons car cdr) (element ++ Dot ∷ (last ++ Close (bracket_of charge) ∷ [])) after

  -- fields, one after another
  pub data PrintsFields (objects : List Object) (shared : ℕ → Bool) : List ℕ → List Value → List Token → List ℕ → Type 0 where
    done : (printed : List ℕ) → PrintsFields objects shared printed [] [] printed
    more : (printed middle after : List ℕ) (value : Value) (values : List Value) (field others : List Token) → Prints objects shared printed value field middle
        → PrintsFields objects shared middle values others after → PrintsFields objects shared printed (value ∷ values) (field ++ others) after

-- for each register from this one on that isn't nil, the tokens of its line
pub data PrintsRoots (objects : List Object) (shared : ℕ → Bool) : ℕ → List ℕ → List Value → List (List Token) → Type 0 where
  done : (register : ℕ) (printed : List ℕ) → PrintsRoots objects shared register printed [] []
  nothing : (register : ℕ) (printed : List ℕ) (values : List Value) (lines : List (List Token)) → PrintsRoots objects shared (register + 1) printed values lines
      → PrintsRoots objects shared register printed (Nil ∷ values) lines
  line : (register : ℕ) (printed middle : List ℕ) (value : Value) (values : List Value) (tokens : List Token) (lines : List (List Token)) → is_nil value ≡ false
      → Prints objects shared printed value tokens middle → PrintsRoots objects shared (register + 1) middle values lines
      → PrintsRoots objects shared register printed (value ∷ values) ((Root ∷ Atom (Fix (pos register)) ∷ tokens) ∷ lines)
