-- What is read leaves fewer pieces.
use Rattle.std.proofs.Common.{◌≡◌, ℕ, zero, suc, ◌+◌, ◌<◌, ◌≤◌, List, [], ◌∷◌, ◌++◌, length, drop, Bool, true, false, Some, None, Result, Ok, Err, sym, subst, arith, length-drop}
use Rattle.std.specs.Prelude.{IfOk, IfErr, if◌then◌else◌, nat_le, is_some}
use Rattle.lisp_graph.specs.declared.object.Value.{Value}
use Rattle.lisp_graph.specs.declared.object.Value.TheVariants.{Nil, Ref}
use Rattle.world_text.specs.Next.{◌>>=◌}
use Rattle.world_text.specs.Objects.{block_with}
use Rattle.sexpr_text.specs.declared.bracket.Bracket.{Bracket}
use Rattle.sexpr_text.specs.declared.bracket.Bracket.TheVariants.{Round, Square, Curly}
use Rattle.sexpr_text.specs.declared.token.Piece.{Piece}
use Rattle.sexpr_text.specs.declared.token.Token.{Token}
use Rattle.sexpr_text.specs.declared.token.Token.TheVariants.{Root, EndSexpr, Dot, Atom, Label, Again, Open, Close, Unknown, End}
use Rattle.sexpr_text.specs.declared.fault.SexprReason.TheVariants.{NoLabel}
use Rattle.sexpr_text.specs.declared.fault.SexprFault.{SexprFault}
use Rattle.sexpr_text.specs.declared.begun.Inside.{Inside}
use Rattle.sexpr_text.specs.declared.begun.Inside.TheVariants.{Nothing, Conses, Block}
use Rattle.sexpr_text.specs.Labels.{name_of}
use Rattle.sexpr_text.specs.Pieces.{token_at}
use Rattle.sexpr_text.specs.Reading.{Read, Reader, again, begun, begun_by, block_begun, cdr_behind, closed, closes, code_at, conses, cons_in, expression, fields, form_begun, form_by, form_in, found_at, is_dot, object_begun, read_inside, refused}

-- one step after another
pub then_ok : {A B E : Type 0} (first : Result A E) (next : A → Result B E) (P : A → Type 0) (Q : B → Type 0) → IfOk first P → ((x : A) → P x → IfOk (next x) Q) → IfOk (first >>= next) Q
then_ok (Ok x) next P Q here there = there x here
then_ok (Err e) next P Q here there = tt

pub weaker : {A E : Type 0} (one : Result A E) (P Q : A → Type 0) → ((x : A) → P x → Q x) → IfOk one P → IfOk one Q
weaker (Ok x) P Q leads here = leads x here
weaker (Err e) P Q leads here = tt

either_ok : {A E : Type 0} (test : Bool) (one other : Result A E) (P : A → Type 0) → IfOk one P → IfOk other P → IfOk (if test then one else other) P
either_ok true one other P first second = first
either_ok false one other P first second = second

any_ok : {A E : Type 0} (one : Result A E) → IfOk one (λ _. Unit {0})
any_ok (Ok x) = tt
any_ok (Err e) = tt

fewer : (pieces : List Piece) → length (drop 1 pieces) ≤ length pieces
fewer pieces = omega (arith, length-drop 1 pieces)

-- Beginnings

block_fewer : (pieces : List Piece) (area : ℕ) → IfOk (block_begun pieces area) (λ x. length x.1 ≤ length pieces)
unfolding block_begun
block_fewer pieces area =
    then_ok (code_at pieces) (λ code. Ok (Block area code, drop 1 pieces)) (λ _. Unit {0}) (λ x. length x.1 ≤ length pieces) (any_ok (code_at pieces)) (λ code _. fewer pieces)

form_fewer_in : (piece : Piece) (pieces : List Piece) (area : ℕ) (bracket : Bracket) → IfOk (form_in (piece ∷ pieces) area bracket) (λ x. length x.1 < length (piece ∷ pieces))
form_fewer_in piece pieces area Round = omega arith
form_fewer_in piece pieces area Square = omega arith
form_fewer_in piece pieces area Curly = weaker (block_begun pieces area) (λ x. length x.1 ≤ length pieces) (λ x. length x.1 < length (piece ∷ pieces)) (λ x here. omega arith) (block_fewer pieces area)

form_fewer_by : (piece : Piece) (pieces : List Piece) (token : Token) → IfOk (form_by (piece ∷ pieces) token) (λ x. length x.1 < length (piece ∷ pieces))
form_fewer_by piece pieces (Open (Some area) bracket) = form_fewer_in piece pieces area bracket
form_fewer_by piece pieces (Open None bracket) = tt
form_fewer_by piece pieces Root = tt
form_fewer_by piece pieces EndSexpr = tt
form_fewer_by piece pieces Dot = tt
form_fewer_by piece pieces (Atom value) = tt
form_fewer_by piece pieces (Label label) = tt
form_fewer_by piece pieces (Again label) = tt
form_fewer_by piece pieces (Close bracket) = tt
form_fewer_by piece pieces Unknown = tt
form_fewer_by piece pieces End = tt

form_fewer : (pieces : List Piece) → IfOk (form_begun pieces) (λ x. length x.1 < length pieces)
form_fewer [] = tt
form_fewer (piece ∷ pieces) = form_fewer_by piece pieces piece.token

object_fewer : (next : ℕ) (labels : List (ℕ × ℕ)) (pieces : List Piece) → IfOk (object_begun next labels pieces) (λ b. length b.rest < length pieces)
unfolding object_begun
object_fewer next labels pieces =
    then_ok (form_begun pieces) (λ x. Ok (record { value = Ref next; inside = x.0; labels = labels; rest = x.1 })) (λ x. length x.1 < length pieces) (λ b. length b.rest < length pieces) (form_fewer pieces) (λ x here. here)

again_fewer : (labels : List (ℕ × ℕ)) (piece : Piece) (pieces : List Piece) (label : ℕ) → IfOk (again labels (piece ∷ pieces) label) (λ b. length b.rest < length (piece ∷ pieces))
unfolding again
again_fewer labels piece pieces label =
    let found = found_at (piece ∷ pieces) (NoLabel label) (name_of labels label) in
    then_ok found (λ name. Ok (record { value = Ref name; inside = Nothing; labels = labels; rest = drop 1 (piece ∷ pieces) })) (λ _. Unit {0}) (λ b. length b.rest < length (piece ∷ pieces)) (any_ok found) (λ name _. omega arith)

begun_fewer_by : (next : ℕ) (labels : List (ℕ × ℕ)) (piece : Piece) (pieces : List Piece) (token : Token) → IfOk (begun_by next labels (piece ∷ pieces) token) (λ b. length b.rest < length (piece ∷ pieces))
begun_fewer_by next labels piece pieces (Atom value) = omega arith
begun_fewer_by next labels piece pieces (Again label) = again_fewer labels piece pieces label
begun_fewer_by next labels piece pieces (Label label) =
    let fresh = object_begun next (labels ++ (label, next) ∷ []) pieces in
    either_ok (is_some (name_of labels label)) (refused (piece ∷ pieces) _) fresh (λ b. length b.rest < length (piece ∷ pieces)) tt
    (weaker fresh (λ b. length b.rest < length pieces) (λ b. length b.rest < length (piece ∷ pieces)) (λ b here. omega arith) (object_fewer next (labels ++ (label, next) ∷ []) pieces))
begun_fewer_by next labels piece pieces (Open area bracket) = object_fewer next labels (piece ∷ pieces)
begun_fewer_by next labels piece pieces Root = object_fewer next labels (piece ∷ pieces)
begun_fewer_by next labels piece pieces EndSexpr = object_fewer next labels (piece ∷ pieces)
begun_fewer_by next labels piece pieces Dot = object_fewer next labels (piece ∷ pieces)
begun_fewer_by next labels piece pieces (Close bracket) = object_fewer next labels (piece ∷ pieces)
begun_fewer_by next labels piece pieces Unknown = object_fewer next labels (piece ∷ pieces)
begun_fewer_by next labels piece pieces End = object_fewer next labels (piece ∷ pieces)

pub begun_fewer : (next : ℕ) (labels : List (ℕ × ℕ)) (pieces : List Piece) → IfOk (begun next labels pieces) (λ b. length b.rest < length pieces)
begun_fewer next labels [] = object_fewer next labels []
begun_fewer next labels (piece ∷ pieces) = begun_fewer_by next labels piece pieces piece.token

-- Readers

-- the reader leaves fewer pieces
pub record Takes (read : Reader) : Type 0 where
  pub takes : (next : ℕ) (labels : List (ℕ × ℕ)) (pieces : List Piece) → IfOk (read next labels pieces) (λ r. length r.rest < length pieces)

closed_fewer : (bracket : Bracket) (one : Read Value) (count : ℕ) → length one.rest < count → IfOk (closed bracket one) (λ r. length r.rest < count)
closed_fewer bracket one count less =
    either_ok (closes bracket (token_at one.rest)) (Ok (record one { rest = drop 1 one.rest })) (refused one.rest _) (λ r. length r.rest < count) (omega (arith, fewer one.rest)) tt

-- what follows an element leaves no more pieces
cdr_fewer : (goes read : Reader) (bracket : Bracket) (next : ℕ) (labels : List (ℕ × ℕ)) (pieces : List Piece) → Takes goes → Takes read → IfOk (cdr_behind goes read bracket next labels pieces) (λ r. length r.rest ≤ length pieces)
unfolding cdr_behind
cdr_fewer goes read bracket next labels pieces first second =
    let P : Read Value → Type 0 = λ r. length r.rest ≤ length pieces in
    let dotted = read next labels (drop 1 pieces) >>= closed bracket in
    either_ok (closes bracket (token_at pieces)) (Ok (record { value = Nil; objects = []; labels = labels; rest = drop 1 pieces })) _ P (fewer pieces)
    (either_ok (is_dot (token_at pieces)) dotted (goes next labels pieces) P
    (weaker dotted (λ r. length r.rest < length (drop 1 pieces)) P (λ r here. omega (arith, fewer pieces))
    (then_ok (read next labels (drop 1 pieces)) (closed bracket) (λ r. length r.rest < length (drop 1 pieces)) (λ r. length r.rest < length (drop 1 pieces)) (second.takes next labels (drop 1 pieces)) (λ r here. closed_fewer bracket r (length (drop 1 pieces)) here)))
    (weaker (goes next labels pieces) (λ r. length r.rest < length pieces) P (λ r here. omega arith) (first.takes next labels pieces)))

pub conses_take : (read : Reader) (more area : ℕ) (bracket : Bracket) → Takes read → Takes (conses read more area bracket)
unfolding conses
conses_take read zero area bracket takes = record { takes = λ next labels pieces. tt }
conses_take read (suc more) area bracket takes = record {
  takes = λ next labels pieces.
      let goes : Reader = conses read more area bracket in
      let ending : Read Value → Read Value → Read Value = λ car cdr. record { value = Ref next; objects = cons_in area bracket car.value cdr.value ∷ (car.objects ++ cdr.objects); labels = cdr.labels; rest = cdr.rest } in
      let behind : Read Value → Result (Read Value) SexprFault = λ car. cdr_behind goes read bracket (next + 1 + length car.objects) car.labels car.rest >>= λ cdr. Ok (ending car cdr) in
      then_ok (read (next + 1) labels pieces) behind (λ r. length r.rest < length pieces) (λ r. length r.rest < length pieces) (takes.takes (next + 1) labels pieces)
      (λ car here. then_ok (cdr_behind goes read bracket (next + 1 + length car.objects) car.labels car.rest) (λ cdr. Ok (ending car cdr)) (λ r. length r.rest ≤ length car.rest) (λ r. length r.rest < length pieces)
      (cdr_fewer goes read bracket (next + 1 + length car.objects) car.labels car.rest (conses_take read more area bracket takes) takes) (λ cdr there. omega arith));
}

pub fields_fewer : (read : Reader) (more had next : ℕ) (labels : List (ℕ × ℕ)) (pieces : List Piece) → Takes read → IfOk (fields read more had next labels pieces) (λ r. length r.rest ≤ length pieces)
unfolding fields
fields_fewer read zero had next labels pieces takes = tt
fields_fewer read (suc more) had next labels pieces takes =
    let P : Read (List Value) → Type 0 = λ r. length r.rest ≤ length pieces in
    let ending : Read Value → Read (List Value) → Read (List Value) = λ field others. record { value = field.value ∷ others.value; objects = field.objects ++ others.objects; labels = others.labels; rest = others.rest } in
    let others : Read Value → Result (Read (List Value)) SexprFault = λ field. fields read more (had + 1) (next + length field.objects) field.labels field.rest in
    let behind : Read Value → Result (Read (List Value)) SexprFault = λ field. others field >>= λ all. Ok (ending field all) in
    either_ok (closes Curly (token_at pieces)) (Ok (record { value = []; objects = []; labels = labels; rest = drop 1 pieces })) _ P (fewer pieces)
    (either_ok (nat_le 2047 had) (refused pieces _) (read next labels pieces >>= behind) P tt
    (then_ok (read next labels pieces) behind (λ r. length r.rest < length pieces) P (takes.takes next labels pieces)
    (λ field here. then_ok (others field) (λ all. Ok (ending field all)) (λ r. length r.rest ≤ length field.rest) P
    (fields_fewer read more (had + 1) (next + length field.objects) field.labels field.rest takes) (λ all there. omega arith))))

-- what the brackets contain leaves no more pieces
pub inside_fewer : (read : Reader) (next : ℕ) (value : Value) (inside : Inside) (labels : List (ℕ × ℕ)) (pieces : List Piece) → Takes read → IfOk (read_inside read next value inside labels pieces) (λ r. length r.rest ≤ length pieces)
inside_fewer read next value Nothing labels pieces takes = omega arith
inside_fewer read next value (Conses area bracket) labels pieces takes =
    then_ok (conses read (length pieces) area bracket next labels pieces) (λ all. Ok (record { value = value; objects = all.objects; labels = all.labels; rest = all.rest })) (λ r. length r.rest < length pieces) (λ r. length r.rest ≤ length pieces)
    ((conses_take read (length pieces) area bracket takes).takes next labels pieces) (λ all here. omega arith)
inside_fewer read next value (Block area code) labels pieces takes =
    then_ok (fields read (length pieces) 0 (next + 1) labels pieces) (λ all. Ok (record { value = value; objects = block_with area code all.value ∷ all.objects; labels = all.labels; rest = all.rest })) (λ r. length r.rest ≤ length pieces) (λ r. length r.rest ≤ length pieces)
    (fields_fewer read (length pieces) 0 (next + 1) labels pieces takes) (λ all here. here)

pub expression_takes : (depth : ℕ) → Takes (expression depth)
unfolding expression
expression_takes zero = record { takes = λ next labels pieces. tt }
expression_takes (suc depth) = record {
  takes = λ next labels pieces.
      then_ok (begun next labels pieces) (λ b. read_inside (expression depth) next b.value b.inside b.labels b.rest) (λ b. length b.rest < length pieces) (λ r. length r.rest < length pieces) (begun_fewer next labels pieces)
      (λ b here. weaker (read_inside (expression depth) next b.value b.inside b.labels b.rest) (λ r. length r.rest ≤ length b.rest) (λ r. length r.rest < length pieces) (λ r there. omega arith)
      (inside_fewer (expression depth) next b.value b.inside b.labels b.rest (expression_takes depth)));
}

-- an error that is passed on
pub passed_on : {A : Type 0} (one : Result A SexprFault) (fault : SexprFault) (P : SexprFault → Type 0) → (x : SexprFault) → one ≡ Err x → x ≡ fault → P fault → IfErr one P
passed_on {A} one fault P x is same here =
    let Q : Result A SexprFault → Type 0 = λ r. IfErr r P in subst Q (sym is) (subst P (sym same) here)
