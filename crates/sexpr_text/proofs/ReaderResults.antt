-- What readers give, if their depth and their count are enough.
use Rattle.std.proofs.Common.{◌≡◌, ℕ, zero, suc, ◌+◌, ◌-◌, ◌≤◌, List, [], ◌∷◌, ◌++◌, length, drop, Bool, true, false, Result, Ok, Err, refl, ap, sym, arith}
use Rattle.std.specs.Prelude.{IfOk, if◌then◌else◌, nat_le}
use Rattle.lisp_graph.specs.declared.object.Value.{Value}
use Rattle.lisp_graph.specs.declared.object.Value.TheVariants.{Ref}
use Rattle.world_text.specs.Next.{◌>>=◌}
use Rattle.world_text.specs.Objects.{block_with}
use Rattle.sexpr_text.specs.declared.bracket.Bracket.{Bracket}
use Rattle.sexpr_text.specs.declared.bracket.Bracket.TheVariants.{Curly}
use Rattle.sexpr_text.specs.declared.token.Piece.{Piece}
use Rattle.sexpr_text.specs.declared.fault.SexprReason.TheVariants.{NoEnd}
use Rattle.sexpr_text.specs.declared.fault.SexprFault.{SexprFault}
use Rattle.sexpr_text.specs.declared.fault.SexprFault.TheVariants.{Bad}
use Rattle.sexpr_text.specs.declared.begun.Inside.{Inside}
use Rattle.sexpr_text.specs.declared.begun.Inside.TheVariants.{Nothing, Conses, Block}
use Rattle.sexpr_text.specs.Pieces.{token_at}
use Rattle.sexpr_text.specs.Reading.{Read, Reader, begun, cdr_behind, closes, conses, cons_in, expression, fields, object_begun, read_inside, refused, surplus}
use Rattle.sexpr_text.proofs.RemainingPieces.{then_ok}

-- an expression is its beginning and what is inside
pub expression_is : (depth next : ℕ) (labels : List (ℕ × ℕ)) (pieces : List Piece) → length pieces ≤ depth
    → expression depth next labels pieces ≡ begun next labels pieces >>= λ b. read_inside (expression (depth - 1)) next b.value b.inside b.labels b.rest
unfolding expression object_begun
expression_is zero next labels [] deep = refl
expression_is zero next labels (piece ∷ pieces) deep = absurd (omega arith)
expression_is (suc depth) next labels pieces deep =
    let e : suc depth - 1 ≡ depth = omega arith in rw e refl

-- if no pieces remain there is no expression
expression_none : (depth next : ℕ) (labels : List (ℕ × ℕ)) → expression depth next labels [] ≡ Err (Bad 0 NoEnd)
unfolding expression object_begun
expression_none zero next labels = refl
expression_none (suc depth) next labels = refl

-- the conses from an element on are the element and the cdr after it
abbrev pub element : Reader → ℕ → ℕ → Bracket → ℕ → Read Value → Result (Read Value) SexprFault
element read many area bracket next car =
    cdr_behind (conses read many area bracket) read bracket (next + 1 + length car.objects) car.labels car.rest >>= λ cdr.
    Ok (record { value = Ref next; objects = cons_in area bracket car.value cdr.value ∷ (car.objects ++ cdr.objects); labels = cdr.labels; rest = cdr.rest })

pub conses_is : (depth many area : ℕ) (bracket : Bracket) (next : ℕ) (labels : List (ℕ × ℕ)) (pieces : List Piece) → length pieces ≤ many
    → conses (expression depth) many area bracket next labels pieces ≡ expression depth (next + 1) labels pieces >>= element (expression depth) (many - 1) area bracket next
unfolding conses
conses_is depth zero area bracket next labels [] few = sym (ap (λ r. r >>= element (expression depth) (0 - 1) area bracket next) (expression_none depth (next + 1) labels))
conses_is depth zero area bracket next labels (piece ∷ pieces) few = absurd (omega arith)
conses_is depth (suc many) area bracket next labels pieces few =
    let e : suc many - 1 ≡ many = omega arith in rw e refl

-- a field, and those after it
abbrev pub field_more : Reader → ℕ → ℕ → ℕ → Read Value → Result (Read (List Value)) SexprFault
field_more read many had next field =
    fields read many (had + 1) (next + length field.objects) field.labels field.rest >>= λ others.
    Ok (record { value = field.value ∷ others.value; objects = field.objects ++ others.objects; labels = others.labels; rest = others.rest })

-- the fields from here on
abbrev pub fields_here : Reader → ℕ → ℕ → ℕ → List (ℕ × ℕ) → List Piece → Result (Read (List Value)) SexprFault
fields_here read many had next labels pieces =
    if closes Curly (token_at pieces) then Ok (record { value = []; objects = []; labels = labels; rest = drop 1 pieces })
    else if nat_le 2047 had then refused pieces (surplus (token_at pieces))
    else read next labels pieces >>= field_more read many had next

none_here : (test : Bool) (read : Result (Read Value) SexprFault) (next : Read Value → Result (Read (List Value)) SexprFault) → read ≡ Err (Bad 0 NoEnd)
    → Err (Bad 0 NoEnd) ≡ (if test then Err (Bad 0 NoEnd) else read >>= next)
none_here true read next is = refl
none_here false read next is = sym (ap (λ r. r >>= next) is)

pub fields_is : (depth many had next : ℕ) (labels : List (ℕ × ℕ)) (pieces : List Piece) → length pieces ≤ many
    → fields (expression depth) many had next labels pieces ≡ fields_here (expression depth) (many - 1) had next labels pieces
unfolding fields
fields_is depth zero had next labels [] few = none_here (nat_le 2047 had) (expression depth next labels []) (field_more (expression depth) (0 - 1) had next) (expression_none depth next labels)
fields_is depth zero had next labels (piece ∷ pieces) few = absurd (omega arith)
fields_is depth (suc many) had next labels pieces few =
    let e : suc many - 1 ≡ many = omega arith in rw e refl

-- the value of the conses refers to the first one
pub conses_value : (depth many area : ℕ) (bracket : Bracket) (next : ℕ) (labels : List (ℕ × ℕ)) (pieces : List Piece) → IfOk (conses (expression depth) many area bracket next labels pieces) (λ r. r.value ≡ Ref next)
unfolding conses
conses_value depth zero area bracket next labels pieces = tt
conses_value depth (suc many) area bracket next labels pieces =
    let P : Read Value → Type 0 = λ r. r.value ≡ Ref next in
    then_ok (expression depth (next + 1) labels pieces) (element (expression depth) many area bracket next) (λ _. Unit {0}) P (any (expression depth (next + 1) labels pieces))
    (λ car _. then_ok (behind car) (λ cdr. Ok (record { value = Ref next; objects = cons_in area bracket car.value cdr.value ∷ (car.objects ++ cdr.objects); labels = cdr.labels; rest = cdr.rest })) (λ _. Unit {0}) P (any (behind car)) (λ cdr _. refl))
  where
    behind : Read Value → Result (Read Value) SexprFault
    behind car = cdr_behind (conses (expression depth) many area bracket) (expression depth) bracket (next + 1 + length car.objects) car.labels car.rest

    any : {A E : Type 0} (one : Result A E) → IfOk one (λ _. Unit {0})
    any (Ok x) = tt
    any (Err e) = tt

-- the value of an expression is known from its beginning
pub inside_value : (read : Reader) (next : ℕ) (value : Value) (inside : Inside) (labels : List (ℕ × ℕ)) (pieces : List Piece) → IfOk (read_inside read next value inside labels pieces) (λ r. r.value ≡ value)
inside_value read next value Nothing labels pieces = refl
inside_value read next value (Conses area bracket) labels pieces = of_ok (conses read (length pieces) area bracket next labels pieces)
  where
    of_ok : (all : Result (Read Value) SexprFault) → IfOk {T = Read Value} (all >>= λ all. Ok (record { value = value; objects = all.objects; labels = all.labels; rest = all.rest })) (λ r. r.value ≡ value)
    of_ok (Ok all) = refl
    of_ok (Err fault) = tt
inside_value read next value (Block area code) labels pieces = of_fields (fields read (length pieces) 0 (next + 1) labels pieces)
  where
    of_fields : (all : Result (Read (List Value)) SexprFault) → IfOk {T = Read Value} (all >>= λ all. Ok (record { value = value; objects = block_with area code all.value ∷ all.objects; labels = all.labels; rest = all.rest })) (λ r. r.value ≡ value)
    of_fields (Ok all) = refl
    of_fields (Err fault) = tt
