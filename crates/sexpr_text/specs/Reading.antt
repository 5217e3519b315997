-- What the pieces of a text mean: the grammar, the objects that it names, and the first piece that can't continue a text.
use Rattle.std.specs.Prelude.{◌≡◌, ℕ, zero, suc, ◌+◌, pos, negsuc, ℤ, List, [], ◌∷◌, ◌++◌, length, drop, Bool, true, false, nat_le, nat_lt, if◌then◌else◌, is_some, Option, Some, None, Result, Ok, Err}
use Rattle.lisp_graph.specs.declared.object.Value.{Value}
use Rattle.lisp_graph.specs.declared.object.Value.TheVariants.{Fix, Nil, Ref}
use Rattle.lisp_graph.specs.declared.object.Body.TheVariants.{Cons}
use Rattle.lisp_graph.specs.declared.object.Object.{Object}
use Rattle.world_text.specs.Next.{◌>>=◌}
use Rattle.world_text.specs.Objects.{block_with}
use Rattle.sexpr_text.specs.declared.bracket.Bracket.{Bracket}
use Rattle.sexpr_text.specs.declared.bracket.Bracket.TheVariants.{Round, Curly}
use Rattle.sexpr_text.specs.declared.token.Piece.{Piece}
use Rattle.sexpr_text.specs.declared.token.Token.{Token}
use Rattle.sexpr_text.specs.declared.token.Token.TheVariants.{Atom, Label, Again, Open, Close, Dot, Unknown, End}
use Rattle.sexpr_text.specs.declared.fault.SexprReason.{SexprReason}
use Rattle.sexpr_text.specs.declared.fault.SexprReason.TheVariants.{BadToken, BadForm, NoArea, BadNumber, TooManyFields, LabelTwice, NoLabel, NoEnd}
use Rattle.sexpr_text.specs.declared.fault.SexprFault.{SexprFault}
use Rattle.sexpr_text.specs.declared.fault.SexprFault.TheVariants.{Bad, TooSmall, NoMemory}
use Rattle.sexpr_text.specs.declared.begun.Inside.{Inside}
use Rattle.sexpr_text.specs.declared.begun.Inside.TheVariants.{Nothing, Conses, Block}
use Rattle.sexpr_text.specs.Brackets.{same_bracket}
use Rattle.sexpr_text.specs.Labels.{name_of}
use Rattle.sexpr_text.specs.Pieces.{line_at, token_at}

-- Refusals

-- the next piece is refused for this reason
abbrev pub refused : {A : Type 0} → List Piece → SexprReason → Result A SexprFault
refused pieces reason = Err (Bad (line_at pieces) reason)

-- why the grammar doesn't allow a token
abbrev pub misplaced : Token → SexprReason
misplaced Unknown = BadToken
misplaced End = NoEnd
misplaced _ = BadForm

-- Tokens by themselves

abbrev pub closes : Bracket → Token → Bool
closes bracket (Close other) = same_bracket bracket other
closes bracket _ = false

abbrev pub is_dot : Token → Bool
is_dot Dot = true
is_dot _ = false

-- the number, if it is at least 0 and below the count
abbrev pub natural_below : ℕ → ℤ → Option ℕ
natural_below count (pos number) = if nat_lt number count then Some number else None
natural_below count (negsuc number) = None

-- the integer that the next piece is
abbrev pub integer_in : List Piece → Token → Result ℤ SexprFault
integer_in pieces (Atom (Fix number)) = Ok number
integer_in pieces token = refused pieces (misplaced token)

abbrev pub integer_at : List Piece → Result ℤ SexprFault
integer_at pieces = integer_in pieces (token_at pieces)

-- what was found, or a refusal of the next piece
abbrev pub found_at : {A : Type 0} → List Piece → SexprReason → Option A → Result A SexprFault
found_at pieces reason None = refused pieces reason
found_at pieces reason (Some x) = Ok x

-- the code of a block
unfoldable pub code_at : List Piece → Result ℕ SexprFault
code_at pieces = do
  number ← integer_at pieces
  found_at pieces BadNumber (natural_below 65536 number)

-- The beginning of an expression

-- a block of an area, from the piece after its bracket: what remains to be read, and the pieces there
unfoldable pub block_begun : List Piece → ℕ → Result (Inside × List Piece) SexprFault
block_begun pieces area = do
  code ← code_at pieces
  Ok (Block area code, drop 1 pieces)

-- a form of an area, whose bracket is the next piece
abbrev pub form_in : List Piece → ℕ → Bracket → Result (Inside × List Piece) SexprFault
form_in pieces area Curly = block_begun (drop 1 pieces) area
form_in pieces area bracket = Ok (Conses area bracket, drop 1 pieces)

-- a form
abbrev pub form_by : List Piece → Token → Result (Inside × List Piece) SexprFault
form_by pieces (Open (Some area) bracket) = form_in pieces area bracket
form_by pieces (Open None bracket) = refused pieces NoArea
form_by pieces token = refused pieces (misplaced token)

abbrev pub form_begun : List Piece → Result (Inside × List Piece) SexprFault
form_begun pieces = form_by pieces (token_at pieces)

-- the value of an expression, what remains to be read of it, and the labels and pieces there
pub record Beginning : Type 0 where
  pub value : Value
  pub inside : Inside
  pub labels : List (ℕ × ℕ)
  pub rest : List Piece

-- a form, whose first object gets the next name
unfoldable pub object_begun : ℕ → List (ℕ × ℕ) → List Piece → Result Beginning SexprFault
object_begun next labels pieces = do
  (inside, rest) ← form_begun pieces
  Ok (record { value = Ref next; inside = inside; labels = labels; rest = rest })

-- the object of a label
unfoldable pub again : List (ℕ × ℕ) → List Piece → ℕ → Result Beginning SexprFault
again labels pieces label = do
  name ← found_at pieces (NoLabel label) (name_of labels label)
  Ok (record { value = Ref name; inside = Nothing; labels = labels; rest = drop 1 pieces })

-- `nil` or an integer, `#k#`, or a form with or without `#k=` before it
abbrev pub begun_by : ℕ → List (ℕ × ℕ) → List Piece → Token → Result Beginning SexprFault
begun_by next labels pieces (Atom value) = Ok (record { value = value; inside = Nothing; labels = labels; rest = drop 1 pieces })
begun_by next labels pieces (Again label) = again labels pieces label
begun_by next labels pieces (Label label) =
    if is_some (name_of labels label) then refused pieces LabelTwice
    else object_begun next (labels ++ (label, next) ∷ []) (drop 1 pieces)
begun_by next labels pieces token = object_begun next labels pieces

-- the beginning of an expression
abbrev pub begun : ℕ → List (ℕ × ℕ) → List Piece → Result Beginning SexprFault
begun next labels pieces = begun_by next labels pieces (token_at pieces)

-- Whole expressions

-- what was read: a value, the objects that were made, and the labels and pieces after it
pub record Read (A : Type 0) : Type 0 where
  pub value : A
  pub objects : List Object
  pub labels : List (ℕ × ℕ)
  pub rest : List Piece

-- reads an expression; the next new object gets this name
abbrev pub Reader : Type 0
Reader = ℕ → List (ℕ × ℕ) → List Piece → Result (Read Value) SexprFault

-- a cons in round brackets is charged 2 words, and one in square brackets 3
abbrev pub cons_charge : Bracket → ℕ
cons_charge Round = 2
cons_charge _ = 3

abbrev pub cons_in : ℕ → Bracket → Value → Value → Object
cons_in area bracket car cdr = record { area = area; charge = cons_charge bracket; body = Cons car cdr }

-- the bracket closes after what was read
abbrev pub closed : Bracket → Read Value → Result (Read Value) SexprFault
closed bracket read =
    if closes bracket (token_at read.rest) then Ok (record read { rest = drop 1 read.rest })
    else refused read.rest (misplaced (token_at read.rest))

-- the cdr after an element of a list form: nil if the bracket closes, an expression between a dot and the bracket, or the conses that go on
unfoldable pub cdr_behind : Reader → Reader → Bracket → Reader
cdr_behind conses read bracket next labels pieces =
    if closes bracket (token_at pieces) then Ok (record { value = Nil; objects = []; labels = labels; rest = drop 1 pieces })
    else if is_dot (token_at pieces) then (do
      cdr ← read next labels (drop 1 pieces)
      closed bracket cdr)
    else conses next labels pieces

-- the conses of a list form from an element on, with at most this many elements: each has the element as its car
unfoldable pub conses : Reader → ℕ → ℕ → Bracket → Reader
conses read zero area bracket next labels pieces = refused pieces NoEnd
conses read (suc more) area bracket next labels pieces = do
  car ← read (next + 1) labels pieces
  cdr ← cdr_behind (conses read more area bracket) read bracket (next + 1 + length car.objects) car.labels car.rest
  Ok (record { value = Ref next; objects = cons_in area bracket car.value cdr.value ∷ (car.objects ++ cdr.objects); labels = cdr.labels; rest = cdr.rest })

-- the reason for which a token can't begin a 2,048th field
abbrev pub surplus : Token → SexprReason
surplus (Atom value) = TooManyFields
surplus (Label label) = TooManyFields
surplus (Again label) = TooManyFields
surplus (Open (Some area) bracket) = TooManyFields
surplus (Open None bracket) = NoArea
surplus token = misplaced token

-- the fields of a block up to its closing bracket, at most this many, after the first ones
unfoldable pub fields : Reader → ℕ → ℕ → ℕ → List (ℕ × ℕ) → List Piece → Result (Read (List Value)) SexprFault
fields read zero had next labels pieces = refused pieces NoEnd
fields read (suc more) had next labels pieces =
    if closes Curly (token_at pieces) then Ok (record { value = []; objects = []; labels = labels; rest = drop 1 pieces })
    else if nat_le 2047 had then refused pieces (surplus (token_at pieces))
    else (do
      field ← read next labels pieces
      others ← fields read more (had + 1) (next + length field.objects) field.labels field.rest
      Ok (record { value = field.value ∷ others.value; objects = field.objects ++ others.objects; labels = others.labels; rest = others.rest }))

-- what the brackets of a form contain; its beginning was read, and has this value
abbrev pub read_inside : Reader → ℕ → Value → Inside → List (ℕ × ℕ) → List Piece → Result (Read Value) SexprFault
read_inside read next value Nothing labels pieces = Ok (record { value = value; objects = []; labels = labels; rest = pieces })
read_inside read next value (Conses area bracket) labels pieces =
    conses read (length pieces) area bracket next labels pieces >>= λ all.
    Ok (record { value = value; objects = all.objects; labels = all.labels; rest = all.rest })
read_inside read next value (Block area code) labels pieces =
    fields read (length pieces) 0 (next + 1) labels pieces >>= λ all.
    Ok (record { value = value; objects = block_with area code all.value ∷ all.objects; labels = all.labels; rest = all.rest })

-- An expression that is nested less deep than this number.
unfoldable pub expression : ℕ → Reader
expression zero next labels pieces = refused pieces NoEnd
expression (suc depth) next labels pieces = do
  first ← begun next labels pieces
  read_inside (expression depth) next first.value first.inside first.labels first.rest

-- What a function returned

-- the error is what reading gives, or memory ran out
abbrev pub IsFault : {Y : Type 0} → SexprFault → Result Y SexprFault → Type 0
IsFault (Bad line reason) read = read ≡ Err (Bad line reason)
IsFault (TooSmall line) read = read ≡ Err (TooSmall line)
IsFault NoMemory read = Unit {0}

-- it is what reading gives, seen through `view`, unless memory ran out
abbrev pub MayGive : {X Y : Type 0} → (X → Y) → Result X SexprFault → Result Y SexprFault → Type 0
MayGive view (Ok x) read = read ≡ Ok (view x)
MayGive view (Err fault) read = IsFault fault read
