-- The world that a text means: its references are to its objects, and its sizes are in their ranges.
use Rattle.std.proofs.Common.{◌≡◌, ℕ, zero, suc, ◌+◌, ◌<◌, ◌≤◌, List, [], ◌∷◌, ◌++◌, length, drop, Bool, true, false, Option, Some, None, Result, Ok, Err, refl, sym, ap, ◌∙◌, subst, arith}
use Rattle.std.specs.Prelude.{⊤, if◌then◌else◌, nat_le, nat_eq, is_some}
use Rattle.std.specs.List.{All}
use Rattle.std.proofs.lemmas.Bool.Decides.{nat_tests}
use Rattle.std.proofs.lemmas.List.{length-append}
use Rattle.std.proofs.lemmas.List.Elements.{All-append, All-cons, All-drop, All-head, All-nil, All-tail}
use Rattle.lisp_graph.specs.Graph.{IsObject, RefersBelow}
use Rattle.lisp_graph.specs.declared.object.Value.{Value}
use Rattle.lisp_graph.specs.declared.object.Value.TheVariants.{Fix, Nil, Ref}
use Rattle.world_text.specs.Next.{◌>>=◌}
use Rattle.world_text.specs.Objects.{block_with}
use Rattle.sexpr_text.specs.declared.bracket.Bracket.{Bracket}
use Rattle.sexpr_text.specs.declared.bracket.Bracket.TheVariants.{Round, Square, Curly}
use Rattle.sexpr_text.specs.declared.token.Piece.{Piece}
use Rattle.sexpr_text.specs.declared.token.Token.{Token}
use Rattle.sexpr_text.specs.declared.token.Token.TheVariants.{Atom, Label, Again, Open, Close, Dot, Root, EndSexpr, Unknown, End}
use Rattle.sexpr_text.specs.declared.fault.SexprReason.{SexprReason}
use Rattle.sexpr_text.specs.declared.fault.SexprReason.TheVariants.{LabelTwice, NoLabel}
use Rattle.sexpr_text.specs.declared.fault.SexprFault.{SexprFault}
use Rattle.sexpr_text.specs.declared.begun.Inside.{Inside}
use Rattle.sexpr_text.specs.declared.begun.Inside.TheVariants.{Nothing, Conses, Block}
use Rattle.sexpr_text.specs.Labels.{name_of}
use Rattle.sexpr_text.specs.Pieces.{token_at}
use Rattle.sexpr_text.specs.Reading.{Beginning, Read, Reader, again, begun, begun_by, block_begun, cdr_behind, closed, closes, code_at, conses, cons_in, expression, fields, form_begun, form_by, form_in, found_at, is_dot, object_begun, read_inside, refused, surplus}

-- Steps

pub bind_parts : {A B E : Type 0} (m : Result A E) (f : A → Result B E) (y : B) → m >>= f ≡ Ok y → (x : A) × (m ≡ Ok x) × (f x ≡ Ok y)
bind_parts (Ok x) f y is = (x, refl, is)
bind_parts (Err e) f y is = absurd (cc (is))

pub ok_is : {A E : Type 0} (x y : A) → (let r : Result A E = Ok x in r) ≡ Ok y → x ≡ y
ok_is x y is = cc (is)

-- Pieces whose atoms are `nil` or integers

abbrev pub IsPlain : Token → Type 0
IsPlain (Atom (Ref name)) = ⊥
IsPlain _ = ⊤

abbrev pub ArePlain : List Piece → Type 0
ArePlain pieces = All (λ piece. IsPlain piece.token) pieces

pub plain_at : (pieces : List Piece) → ArePlain pieces → IsPlain (token_at pieces)
plain_at [] plain = tt
plain_at (piece ∷ pieces) plain = All-head (λ one. IsPlain one.token) piece pieces plain

pub behind : (n : ℕ) (pieces : List Piece) → ArePlain pieces → ArePlain (drop n pieces)
behind n pieces plain = All-drop (λ piece. IsPlain piece.token) n pieces plain

-- Labels

abbrev pub AreBelow : ℕ → List (ℕ × ℕ) → Type 0
AreBelow bound labels = All (λ label. label.1 < bound) labels

one_below : (bound name one : ℕ) (b : Bool) (rest : Option ℕ) → one < bound → (rest ≡ Some name → name < bound) → (if b then Some one else rest) ≡ Some name → name < bound
one_below bound name one true rest below others so = let e : one ≡ name = cc (so) in subst (λ (n : ℕ). n < bound) e below
one_below bound name one false rest below others so = others so

name_below : (bound label name : ℕ) (labels : List (ℕ × ℕ)) → AreBelow bound labels → name_of labels label ≡ Some name → name < bound
name_below bound label name [] below is = absurd (cc (is))
name_below bound label name (one ∷ labels) below is =
    one_below bound name one.1 (nat_eq label one.0) (name_of labels label) (All-head (λ l. l.1 < bound) one labels below)
    (name_below bound label name labels (All-tail (λ l. l.1 < bound) one labels below)) is

found_some : {A : Type 0} (pieces : List Piece) (reason : SexprReason) (o : Option A) (x : A) → found_at pieces reason o ≡ Ok x → o ≡ Some x
found_some pieces reason None x is = absurd (cc (is))
found_some pieces reason (Some y) x is = ap Some (ok_is y x is)

pub token_plain : (pieces : List Piece) (token : Token) → ArePlain pieces → token_at pieces ≡ token → IsPlain token
token_plain pieces token plain is = subst IsPlain is (plain_at pieces plain)

-- The beginning of an expression

abbrev IsBegun : ℕ → ℕ → Value → List (ℕ × ℕ) → Inside → Type 0
IsBegun bound next value labels Nothing = RefersBelow bound value × AreBelow bound labels
IsBegun bound next value labels inside = (value ≡ Ref next) × (next < bound → AreBelow bound labels)

abbrev Begins : ℕ → ℕ → Beginning → Type 0
Begins bound next b = IsBegun bound next b.value b.labels b.inside × ArePlain b.rest

abbrev is_form : Inside → Bool
is_form Nothing = false
is_form inside = true

block_form : (pieces : List Piece) (area : ℕ) (r : Inside × List Piece) → ArePlain pieces → block_begun pieces area ≡ Ok r → (is_form r.0 ≡ true) × ArePlain r.1
unfolding block_begun
block_form pieces area r plain is =
    let p = bind_parts (code_at pieces) _ r is in
    let e : (Block area p.0, drop 1 pieces) ≡ r = ok_is _ r p.2 in
    subst (λ (q : Inside × List Piece). (is_form q.0 ≡ true) × ArePlain q.1) e (refl, behind 1 pieces plain)

form_fits : (pieces : List Piece) (area : ℕ) (bracket : Bracket) (r : Inside × List Piece) → ArePlain pieces → form_in pieces area bracket ≡ Ok r → (is_form r.0 ≡ true) × ArePlain r.1
form_fits pieces area Curly r plain is = block_form (drop 1 pieces) area r (behind 1 pieces plain) is
form_fits pieces area Round r plain is = subst (λ (q : Inside × List Piece). (is_form q.0 ≡ true) × ArePlain q.1) (ok_is (Conses area Round, drop 1 pieces) r is) (refl, behind 1 pieces plain)
form_fits pieces area Square r plain is = subst (λ (q : Inside × List Piece). (is_form q.0 ≡ true) × ArePlain q.1) (ok_is (Conses area Square, drop 1 pieces) r is) (refl, behind 1 pieces plain)

form_begins : (pieces : List Piece) (token : Token) (r : Inside × List Piece) → ArePlain pieces → form_by pieces token ≡ Ok r → (is_form r.0 ≡ true) × ArePlain r.1
form_begins pieces (Open (Some area) bracket) r plain is = form_fits pieces area bracket r plain is
form_begins pieces (Open None bracket) r plain is = absurd (cc (is))
form_begins pieces (Atom value) r plain is = absurd (cc (is))
form_begins pieces (Label label) r plain is = absurd (cc (is))
form_begins pieces (Again label) r plain is = absurd (cc (is))
form_begins pieces (Close bracket) r plain is = absurd (cc (is))
form_begins pieces Dot r plain is = absurd (cc (is))
form_begins pieces Root r plain is = absurd (cc (is))
form_begins pieces EndSexpr r plain is = absurd (cc (is))
form_begins pieces Unknown r plain is = absurd (cc (is))
form_begins pieces End r plain is = absurd (cc (is))

-- an object gets the next name
begun_form : (bound next : ℕ) (labels : List (ℕ × ℕ)) (inside : Inside) → is_form inside ≡ true → (next < bound → AreBelow bound labels) → IsBegun bound next (Ref next) labels inside
begun_form bound next labels Nothing is below = absurd (cc (is))
begun_form bound next labels (Conses area bracket) is below = (refl, below)
begun_form bound next labels (Block area code) is below = (refl, below)

object_begins : (bound next : ℕ) (labels : List (ℕ × ℕ)) (pieces : List Piece) (b : Beginning) → ArePlain pieces → (next < bound → AreBelow bound labels) → object_begun next labels pieces ≡ Ok b → Begins bound next b
unfolding object_begun
object_begins bound next labels pieces b plain below is =
    let p = bind_parts (form_begun pieces) _ b is in
    let form = form_begins pieces (token_at pieces) p.0 plain p.1 in
    let e : (record { value = Ref next; inside = p.0.0; labels = labels; rest = p.0.1 }) ≡ b = ok_is _ b p.2 in
    subst (Begins bound next) e (begun_form bound next labels p.0.0 form.0 below, form.1)

label_begins : (b : Bool) (bound next label : ℕ) (labels : List (ℕ × ℕ)) (pieces : List Piece) (r : Beginning) → ArePlain pieces → AreBelow bound labels
    → (if b then refused pieces LabelTwice else object_begun next (labels ++ (label, next) ∷ []) (drop 1 pieces)) ≡ Ok r → Begins bound next r
label_begins true bound next label labels pieces r plain below is = absurd (cc (is))
label_begins false bound next label labels pieces r plain below is =
    object_begins bound next (labels ++ (label, next) ∷ []) (drop 1 pieces) r (behind 1 pieces plain)
    (λ within. All-append (λ l. l.1 < bound) labels ((label, next) ∷ []) below (All-cons (λ l. l.1 < bound) (label, next) [] within (All-nil (λ l. l.1 < bound)))) is

again_begins : (bound next label : ℕ) (labels : List (ℕ × ℕ)) (pieces : List Piece) (b : Beginning) → ArePlain pieces → AreBelow bound labels → again labels pieces label ≡ Ok b → Begins bound next b
unfolding again
again_begins bound next label labels pieces b plain below is =
    let p = bind_parts (found_at pieces (NoLabel label) (name_of labels label)) _ b is in
    let e : (record { value = Ref p.0; inside = Nothing; labels = labels; rest = drop 1 pieces }) ≡ b = ok_is _ b p.2 in
    subst (Begins bound next) e ((name_below bound label p.0 labels below (found_some pieces (NoLabel label) (name_of labels label) p.0 p.1), below), behind 1 pieces plain)

-- an expression, by its first token
expression_begins : (bound next : ℕ) (labels : List (ℕ × ℕ)) (pieces : List Piece) (token : Token) (b : Beginning) → token_at pieces ≡ token → ArePlain pieces → AreBelow bound labels → begun_by next labels pieces token ≡ Ok b → Begins bound next b
expression_begins bound next labels pieces (Atom Nil) b at plain below is =
    subst (Begins bound next) (ok_is (record { value = Nil; inside = Nothing; labels = labels; rest = drop 1 pieces }) b is) ((tt, below), behind 1 pieces plain)
expression_begins bound next labels pieces (Atom (Fix number)) b at plain below is =
    subst (Begins bound next) (ok_is (record { value = Fix number; inside = Nothing; labels = labels; rest = drop 1 pieces }) b is) ((tt, below), behind 1 pieces plain)
expression_begins bound next labels pieces (Atom (Ref name)) b at plain below is = absurd (token_plain pieces (Atom (Ref name)) plain at)
expression_begins bound next labels pieces (Again label) b at plain below is = again_begins bound next label labels pieces b plain below is
expression_begins bound next labels pieces (Label label) b at plain below is =
    label_begins (is_some (name_of labels label)) bound next label labels pieces b plain below is
expression_begins bound next labels pieces (Open area bracket) b at plain below is = object_begins bound next labels pieces b plain (λ _. below) is
expression_begins bound next labels pieces (Close bracket) b at plain below is = object_begins bound next labels pieces b plain (λ _. below) is
expression_begins bound next labels pieces Dot b at plain below is = object_begins bound next labels pieces b plain (λ _. below) is
expression_begins bound next labels pieces Root b at plain below is = object_begins bound next labels pieces b plain (λ _. below) is
expression_begins bound next labels pieces EndSexpr b at plain below is = object_begins bound next labels pieces b plain (λ _. below) is
expression_begins bound next labels pieces Unknown b at plain below is = object_begins bound next labels pieces b plain (λ _. below) is
expression_begins bound next labels pieces End b at plain below is = object_begins bound next labels pieces b plain (λ _. below) is

-- The result of reading; each name in it is below the bound

pub record IsRead (bound : ℕ) (read : Read Value) : Type 0 where
  pub value : RefersBelow bound read.value
  pub objects : All (IsObject bound) read.objects
  pub labels : AreBelow bound read.labels
  pub rest : ArePlain read.rest

-- a reader whose names are below each bound of the labels that it starts with and of the objects that it makes
abbrev pub IsSound : Reader → Type 0
IsSound reader = (bound next : ℕ) (labels : List (ℕ × ℕ)) (pieces : List Piece) (read : Read Value) → reader next labels pieces ≡ Ok read
    → AreBelow bound labels → ArePlain pieces → next + length read.objects ≤ bound → IsRead bound read

-- the result of reading the fields of a block after the first ones
record AreRead (bound had : ℕ) (read : Read (List Value)) : Type 0 where
  values : All (RefersBelow bound) read.value
  few : had + length read.value ≤ 2047
  objects : All (IsObject bound) read.objects
  labels : AreBelow bound read.labels
  rest : ArePlain read.rest

with_rest : (bound : ℕ) (read : Read Value) (n : ℕ) → IsRead bound read → IsRead bound (record read { rest = drop n read.rest })
with_rest bound read n is = record { value = is.value; objects = is.objects; labels = is.labels; rest = behind n read.rest is.rest }

-- a test before the reading
if_read : {A : Type 0} (b : Bool) (first : A) (fault : SexprFault) (read : A) → (if b then Ok first else Err fault) ≡ Ok read → first ≡ read
if_read true first fault read is = ok_is first read is
if_read false first fault read is = absurd (cc (is))

-- The conses of a list form

cdr_sound : (more reader : Reader) (bracket : Bracket) → IsSound more → IsSound reader → IsSound (cdr_behind more reader bracket)
unfolding cdr_behind
cdr_sound more reader bracket goes sound bound next labels pieces read is below plain within =
    by_close (closes bracket (token_at pieces)) is
  where
    dotted : (cdr : Read Value) → reader next labels (drop 1 pieces) ≡ Ok cdr → closed bracket cdr ≡ Ok read → IsRead bound read
    dotted cdr first behind_it =
        let e : record cdr { rest = drop 1 cdr.rest } ≡ read = if_read (closes bracket (token_at cdr.rest)) (record cdr { rest = drop 1 cdr.rest }) _ read behind_it in
        let size : length cdr.objects ≡ length read.objects = ap (λ (r : Read Value). length r.objects) e in
        subst (IsRead bound) e (with_rest bound cdr 1 (sound bound next labels (drop 1 pieces) cdr first below (behind 1 pieces plain) (omega (arith, within, size))))

    by_dot : (b : Bool) → (if b then (reader next labels (drop 1 pieces) >>= closed bracket) else more next labels pieces) ≡ Ok read → IsRead bound read
    by_dot true so = let p = bind_parts (reader next labels (drop 1 pieces)) (closed bracket) read so in dotted p.0 p.1 p.2
    by_dot false so = goes bound next labels pieces read so below plain within

    by_close : (b : Bool) → (if b then Ok (record { value = Nil; objects = []; labels = labels; rest = drop 1 pieces })
        else if is_dot (token_at pieces) then (reader next labels (drop 1 pieces) >>= closed bracket) else more next labels pieces) ≡ Ok read → IsRead bound read
    by_close true so = subst (IsRead bound) (ok_is (record { value = Nil; objects = []; labels = labels; rest = drop 1 pieces }) read so)
        (record { value = tt; objects = All-nil (IsObject bound); labels = below; rest = behind 1 pieces plain })
    by_close false so = by_dot (is_dot (token_at pieces)) so

conses_sound : (reader : Reader) → IsSound reader → (count area : ℕ) (bracket : Bracket) → IsSound (conses reader count area bracket)
unfolding conses
conses_sound reader sound zero area bracket bound next labels pieces read is below plain within = absurd (cc (is))
conses_sound reader sound (suc count) area bracket bound next labels pieces read is below plain within =
    let p = bind_parts (reader (next + 1) labels pieces) _ read is in
    let car = p.0 in
    let others : Reader = conses reader count area bracket in
    let q = bind_parts (cdr_behind others reader bracket (next + 1 + length car.objects) car.labels car.rest) _ read p.2 in
    let cdr = q.0 in
    let made : Read Value = record { value = Ref next; objects = cons_in area bracket car.value cdr.value ∷ (car.objects ++ cdr.objects); labels = cdr.labels; rest = cdr.rest } in
    let e : made ≡ read = ok_is made read q.2 in
    let size : length read.objects ≡ suc (length car.objects + length cdr.objects) = sym (ap (λ (r : Read Value). length r.objects) e) ∙ ap suc (length-append car.objects cdr.objects) in
    let first = sound bound (next + 1) labels pieces car p.1 below plain (omega (arith, within, size)) in
    let last = cdr_sound others reader bracket (conses_sound reader sound count area bracket) sound bound (next + 1 + length car.objects) car.labels car.rest cdr q.1 first.labels first.rest (omega (arith, within, size)) in
    subst (IsRead bound) e (record {
      value = omega (arith, within, size);
      objects = All-cons (IsObject bound) (cons_in area bracket car.value cdr.value) (car.objects ++ cdr.objects) (record { refers = (first.value, last.value); wide = omega arith })
          (All-append (IsObject bound) car.objects cdr.objects first.objects last.objects);
      labels = last.labels;
      rest = last.rest;
    })

-- each list form has a cons
some_conses : (reader : Reader) (count area : ℕ) (bracket : Bracket) (next : ℕ) (labels : List (ℕ × ℕ)) (pieces : List Piece) (read : Read Value) → conses reader count area bracket next labels pieces ≡ Ok read → 1 ≤ length read.objects
unfolding conses
some_conses reader zero area bracket next labels pieces read is = absurd (cc (is))
some_conses reader (suc count) area bracket next labels pieces read is =
    let p = bind_parts (reader (next + 1) labels pieces) _ read is in
    let q = bind_parts (cdr_behind (conses reader count area bracket) reader bracket (next + 1 + length p.0.objects) p.0.labels p.0.rest) _ read p.2 in
    let made : Read Value = record { value = Ref next; objects = cons_in area bracket p.0.value q.0.value ∷ (p.0.objects ++ q.0.objects); labels = q.0.labels; rest = q.0.rest } in
    let size : length made.objects ≡ length read.objects = ap (λ (r : Read Value). length r.objects) (ok_is made read q.2) in
    omega (arith, size)

-- The fields of a block

fields_sound : (reader : Reader) → IsSound reader → (count had bound next : ℕ) (labels : List (ℕ × ℕ)) (pieces : List Piece) (read : Read (List Value)) → fields reader count had next labels pieces ≡ Ok read
    → AreBelow bound labels → ArePlain pieces → next + length read.objects ≤ bound → had ≤ 2047 → AreRead bound had read
unfolding fields
fields_sound reader sound zero had bound next labels pieces read is below plain within few = absurd (cc (is))
fields_sound reader sound (suc count) had bound next labels pieces read is below plain within few =
    by_close (closes Curly (token_at pieces)) (λ full. fields_sound reader sound count (had + 1)) is
  where
    more : (had < 2047) → ((bound next : ℕ) (labels : List (ℕ × ℕ)) (pieces : List Piece) (read : Read (List Value)) → fields reader count (had + 1) next labels pieces ≡ Ok read
        → AreBelow bound labels → ArePlain pieces → next + length read.objects ≤ bound → had + 1 ≤ 2047 → AreRead bound (had + 1) read)
        → (reader next labels pieces >>= λ field. fields reader count (had + 1) (next + length field.objects) field.labels field.rest >>= λ others.
        Ok (record { value = field.value ∷ others.value; objects = field.objects ++ others.objects; labels = others.labels; rest = others.rest })) ≡ Ok read → AreRead bound had read
    more room goes so =
        let p = bind_parts (reader next labels pieces) _ read so in
        let field = p.0 in
        let q = bind_parts (fields reader count (had + 1) (next + length field.objects) field.labels field.rest) _ read p.2 in
        let others = q.0 in
        let made : Read (List Value) = record { value = field.value ∷ others.value; objects = field.objects ++ others.objects; labels = others.labels; rest = others.rest } in
        let e : made ≡ read = ok_is made read q.2 in
        let size : length read.objects ≡ length field.objects + length others.objects = sym (ap (λ (r : Read (List Value)). length r.objects) e) ∙ length-append field.objects others.objects in
        let first = sound bound next labels pieces field p.1 below plain (omega (arith, within, size)) in
        let last = goes bound (next + length field.objects) field.labels field.rest others q.1 first.labels first.rest (omega (arith, within, size)) (omega (arith, room)) in
        subst (AreRead bound had) e (record {
          values = All-cons (RefersBelow bound) field.value others.value first.value last.values;
          few = omega (arith, last.few);
          objects = All-append (IsObject bound) field.objects others.objects first.objects last.objects;
          labels = last.labels;
          rest = last.rest;
        })

    by_full : (b : Bool) → nat_le 2047 had ≡ b → ((bound next : ℕ) (labels : List (ℕ × ℕ)) (pieces : List Piece) (read : Read (List Value)) → fields reader count (had + 1) next labels pieces ≡ Ok read
        → AreBelow bound labels → ArePlain pieces → next + length read.objects ≤ bound → had + 1 ≤ 2047 → AreRead bound (had + 1) read)
        → (if b then refused pieces (surplus (token_at pieces))
        else (reader next labels pieces >>= λ field. fields reader count (had + 1) (next + length field.objects) field.labels field.rest >>= λ others.
        Ok (record { value = field.value ∷ others.value; objects = field.objects ++ others.objects; labels = others.labels; rest = others.rest }))) ≡ Ok read → AreRead bound had read
    by_full true full goes so = absurd (cc (so))
    by_full false full goes so = more (grind (arith, nat_tests, full)) goes so

    by_close : (b : Bool) → (Unit {0} → (bound next : ℕ) (labels : List (ℕ × ℕ)) (pieces : List Piece) (read : Read (List Value)) → fields reader count (had + 1) next labels pieces ≡ Ok read
        → AreBelow bound labels → ArePlain pieces → next + length read.objects ≤ bound → had + 1 ≤ 2047 → AreRead bound (had + 1) read)
        → (if b then Ok (record { value = []; objects = []; labels = labels; rest = drop 1 pieces })
        else if nat_le 2047 had then refused pieces (surplus (token_at pieces))
        else (reader next labels pieces >>= λ field. fields reader count (had + 1) (next + length field.objects) field.labels field.rest >>= λ others.
        Ok (record { value = field.value ∷ others.value; objects = field.objects ++ others.objects; labels = others.labels; rest = others.rest }))) ≡ Ok read → AreRead bound had read
    by_close true goes so = subst (AreRead bound had) (ok_is (record { value = []; objects = []; labels = labels; rest = drop 1 pieces }) read so)
        (record { values = All-nil (RefersBelow bound); few = omega (arith, few); objects = All-nil (IsObject bound); labels = below; rest = behind 1 pieces plain })
    by_close false goes so = by_full (nat_le 2047 had) refl (goes tt) so

-- Whole expressions

inside_sound : (reader : Reader) → IsSound reader → (bound next : ℕ) (value : Value) (inside : Inside) (labels : List (ℕ × ℕ)) (pieces : List Piece) (read : Read Value)
    → read_inside reader next value inside labels pieces ≡ Ok read → IsBegun bound next value labels inside → ArePlain pieces → next + length read.objects ≤ bound → IsRead bound read
inside_sound reader sound bound next value Nothing labels pieces read is begins plain within =
    subst (IsRead bound) (ok_is (record { value = value; objects = []; labels = labels; rest = pieces }) read is)
    (record { value = begins.0; objects = All-nil (IsObject bound); labels = begins.1; rest = plain })
inside_sound reader sound bound next value (Conses area bracket) labels pieces read is begins plain within =
    let p = bind_parts (conses reader (length pieces) area bracket next labels pieces) _ read is in
    let made : Read Value = record { value = value; objects = p.0.objects; labels = p.0.labels; rest = p.0.rest } in
    let e : made ≡ read = ok_is made read p.2 in
    let size : length p.0.objects ≡ length read.objects = ap (λ (r : Read Value). length r.objects) e in
    let some = some_conses reader (length pieces) area bracket next labels pieces p.0 p.1 in
    let all = conses_sound reader sound (length pieces) area bracket bound next labels pieces p.0 p.1 (begins.1 (omega (arith, within, size, some))) plain (omega (arith, within, size)) in
    subst (IsRead bound) e (record { value = subst (RefersBelow bound) (sym begins.0) (omega (arith, within, size, some)); objects = all.objects; labels = all.labels; rest = all.rest })
inside_sound reader sound bound next value (Block area code) labels pieces read is begins plain within =
    let p = bind_parts (fields reader (length pieces) 0 (next + 1) labels pieces) _ read is in
    let made : Read Value = record { value = value; objects = block_with area code p.0.value ∷ p.0.objects; labels = p.0.labels; rest = p.0.rest } in
    let e : made ≡ read = ok_is made read p.2 in
    let size : suc (length p.0.objects) ≡ length read.objects = ap (λ (r : Read Value). length r.objects) e in
    let all = fields_sound reader sound (length pieces) 0 bound (next + 1) labels pieces p.0 p.1 (begins.1 (omega (arith, within, size))) plain (omega (arith, within, size)) (omega arith) in
    subst (IsRead bound) e (record {
      value = subst (RefersBelow bound) (sym begins.0) (omega (arith, within, size));
      objects = All-cons (IsObject bound) (block_with area code p.0.value) p.0.objects (record { refers = all.values; wide = omega (arith, all.few) }) all.objects;
      labels = all.labels;
      rest = all.rest;
    })

pub expression_sound : (depth : ℕ) → IsSound (expression depth)
unfolding expression
expression_sound zero bound next labels pieces read is below plain within = absurd (cc (is))
expression_sound (suc depth) bound next labels pieces read is below plain within =
    let p = bind_parts (begun next labels pieces) _ read is in
    let begins = expression_begins bound next labels pieces (token_at pieces) p.0 refl plain below p.1 in
    inside_sound (expression depth) (expression_sound depth) bound next p.0.value p.0.inside p.0.labels p.0.rest read p.2 begins.0 begins.1 within
