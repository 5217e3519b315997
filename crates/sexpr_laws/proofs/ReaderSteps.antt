-- How the reader proceeds, step by step.
use Rattle.std.proofs.Common.{◌≡◌, ℕ, ◌+◌, ◌-◌, ◌<◌, ◌≤◌, List, [], ◌∷◌, ◌++◌, length, drop, Bool, true, false, Option, Some, None, Result, Ok, refl, ap, ◌∙◌, arith}
use Rattle.std.specs.Prelude.{if◌then◌else◌, ◌==◌, pos, nat_lt, nat_le, is_some}
use Rattle.std.proofs.lemmas.Bool.Decides.{nat_tests}
use Rattle.file_modes.specs.lisp_graph.declared.object.Value.{Value}
use Rattle.file_modes.specs.lisp_graph.declared.object.Value.TheVariants.{Fix, Nil, Ref}
use Rattle.file_modes.specs.world_text.Next.{◌>>=◌}
use Rattle.file_modes.specs.world_text.Objects.{block_with}
use Rattle.file_modes.specs.sexpr_text.declared.bracket.Bracket.{Bracket}
use Rattle.file_modes.specs.sexpr_text.declared.bracket.Bracket.TheVariants.{Round, Square, Curly}
use Rattle.file_modes.specs.sexpr_text.declared.token.Piece.{Piece}
use Rattle.file_modes.specs.sexpr_text.declared.token.Token.{Token}
use Rattle.file_modes.specs.sexpr_text.declared.token.Token.TheVariants.{Atom, Label, Again, Open}
use Rattle.file_modes.specs.sexpr_text.declared.fault.SexprReason.TheVariants.{BadNumber, LabelTwice, NoLabel}
use Rattle.file_modes.specs.sexpr_text.declared.fault.SexprFault.{SexprFault}
use Rattle.file_modes.specs.sexpr_text.declared.begun.Inside.{Inside}
use Rattle.file_modes.specs.sexpr_text.declared.begun.Inside.TheVariants.{Nothing, Conses, Block}
use Rattle.file_modes.specs.sexpr_text.Labels.{name_of}
use Rattle.file_modes.specs.sexpr_text.Pieces.{token_at}
use Rattle.file_modes.specs.sexpr_text.Reading.{Beginning, Read, Reader, again as label_again, begun_by, block_begun, cdr_behind, closed, closes, code_at, conses, cons_in, expression, fields, form_by, form_in, found_at, integer_in, is_dot, misplaced, natural_below, object_begun, read_inside, refused, surplus}
use Rattle.file_modes.proofs.sexpr_text.ReaderResults.{conses_is, element, expression_is, field_more, fields_is}
use Rattle.file_modes.specs.sexpr_print.Printing.{bracket_of}
use Rattle.sexpr_laws.proofs.TokenPrefixes.{Begins, takes}

abbrev pub Labels : Type 0
Labels = List (ℕ × ℕ)

-- what the expression contains that was begun
abbrev pub inside_of : ℕ → ℕ → Beginning → Result (Read Value) SexprFault
inside_of depth next b = read_inside (expression depth) next b.value b.inside b.labels b.rest

-- Expressions

pub atom_reads : (depth next : ℕ) (labels : Labels) (value : Value) (pieces rest : List Piece) → length pieces ≤ depth → Begins (Atom value ∷ []) pieces rest
    → expression depth next labels pieces ≡ Ok (record { value = value; objects = []; labels = labels; rest = rest })
atom_reads depth next labels value pieces rest deep begins =
    let one = takes (Atom value) [] pieces rest begins in
    expression_is depth next labels pieces deep
    ∙ ap (λ (token : Token). begun_by next labels pieces token >>= inside_of (depth - 1) next) one.token
    ∙ ap (λ (left : List Piece). Ok (record { value = value; objects = []; labels = labels; rest = left })) one.behind

known_label : (depth next label place : ℕ) (labels : Labels) (pieces : List Piece) → name_of labels label ≡ Some place
    → (label_again labels pieces label >>= inside_of depth next) ≡ Ok (record { value = Ref place; objects = []; labels = labels; rest = drop 1 pieces })
unfolding label_again
known_label depth next label place labels pieces known =
    ap (λ (found : Option ℕ). (found_at pieces (NoLabel label) found >>= λ name. Ok (record { value = Ref name; inside = Nothing; labels = labels; rest = drop 1 pieces })) >>= inside_of depth next) known

pub again_reads : (depth next label place : ℕ) (labels : Labels) (pieces rest : List Piece) → length pieces ≤ depth → Begins (Again label ∷ []) pieces rest → name_of labels label ≡ Some place
    → expression depth next labels pieces ≡ Ok (record { value = Ref place; objects = []; labels = labels; rest = rest })
again_reads depth next label place labels pieces rest deep begins known =
    let one = takes (Again label) [] pieces rest begins in
    expression_is depth next labels pieces deep
    ∙ ap (λ (token : Token). begun_by next labels pieces token >>= inside_of (depth - 1) next) one.token
    ∙ known_label (depth - 1) next label place labels pieces known
    ∙ ap (λ (left : List Piece). Ok (record { value = Ref place; objects = []; labels = labels; rest = left })) one.behind

-- a form with a label before it
pub label_reads : (depth next label : ℕ) (labels : Labels) (form : List Token) (pieces rest : List Piece) → length pieces ≤ depth → Begins (Label label ∷ form) pieces rest → name_of labels label ≡ None
    → expression depth next labels pieces ≡ object_begun next (labels ++ (label, next) ∷ []) (drop 1 pieces) >>= inside_of (depth - 1) next
label_reads depth next label labels form pieces rest deep begins new =
    let one = takes (Label label) form pieces rest begins in
    expression_is depth next labels pieces deep
    ∙ ap (λ (token : Token). begun_by next labels pieces token >>= inside_of (depth - 1) next) one.token
    ∙ ap (λ (found : Option ℕ). (if is_some found then refused pieces LabelTwice else object_begun next (labels ++ (label, next) ∷ []) (drop 1 pieces)) >>= inside_of (depth - 1) next) new

-- a form without one
pub form_reads : (depth next area : ℕ) (bracket : Bracket) (labels : Labels) (form : List Token) (pieces rest : List Piece) → length pieces ≤ depth → Begins (Open (Some area) bracket ∷ form) pieces rest
    → expression depth next labels pieces ≡ object_begun next labels pieces >>= inside_of (depth - 1) next
form_reads depth next area bracket labels form pieces rest deep begins =
    let one = takes (Open (Some area) bracket) form pieces rest begins in
    expression_is depth next labels pieces deep
    ∙ ap (λ (token : Token). begun_by next labels pieces token >>= inside_of (depth - 1) next) one.token

-- Forms

list_in : (pieces : List Piece) (area charge : ℕ) → form_in pieces area (bracket_of charge) ≡ Ok (Conses area (bracket_of charge), drop 1 pieces)
list_in pieces area charge = of_test (charge == 2)
  where
    of_test : (b : Bool) → form_in pieces area (if b then Round else Square) ≡ Ok (Conses area (if b then Round else Square), drop 1 pieces)
    of_test true = refl
    of_test false = refl

-- what a form contains
abbrev pub opened : ℕ → ℕ → Labels → Result (Inside × List Piece) SexprFault → Result (Read Value) SexprFault
opened depth next labels form = (form >>= λ f. Ok (record { value = Ref next; inside = f.0; labels = labels; rest = f.1 })) >>= inside_of depth next

object_opened : (depth next : ℕ) (labels : Labels) (pieces : List Piece) → (object_begun next labels pieces >>= inside_of depth next) ≡ opened depth next labels (form_by pieces (token_at pieces))
unfolding object_begun
object_opened depth next labels pieces = refl

pub list_reads : (depth next area charge : ℕ) (labels : Labels) (tokens : List Token) (pieces rest : List Piece) (all : Read Value) → Begins (Open (Some area) (bracket_of charge) ∷ tokens) pieces rest
    → conses (expression depth) (length (drop 1 pieces)) area (bracket_of charge) next labels (drop 1 pieces) ≡ Ok all
    → (object_begun next labels pieces >>= inside_of depth next) ≡ Ok (record { value = Ref next; objects = all.objects; labels = all.labels; rest = all.rest })
list_reads depth next area charge labels tokens pieces rest all begins reads =
    let one = takes (Open (Some area) (bracket_of charge)) tokens pieces rest begins in
    object_opened depth next labels pieces
    ∙ ap (λ (token : Token). opened depth next labels (form_by pieces token)) one.token
    ∙ ap (opened depth next labels) (list_in pieces area charge)
    ∙ ap (λ (r : Result (Read Value) SexprFault). r >>= λ all. Ok (record { value = Ref next; objects = all.objects; labels = all.labels; rest = all.rest })) reads

code_is : (code : ℕ) (pieces : List Piece) → code ≤ 65535 → token_at pieces ≡ Atom (Fix (pos code)) → code_at pieces ≡ Ok code
unfolding code_at
code_is code pieces small is =
    let below : nat_lt code 65536 ≡ true = grind (arith, nat_tests) in
    ap (λ (token : Token). integer_in pieces token >>= λ number. found_at pieces BadNumber (natural_below 65536 number)) is
    ∙ ap (λ (b : Bool). found_at pieces BadNumber (if b then Some code else None)) below

block_in : (area code : ℕ) (pieces : List Piece) → code_at pieces ≡ Ok code → block_begun pieces area ≡ Ok (Block area code, drop 1 pieces)
unfolding block_begun
block_in area code pieces is = ap (λ (r : Result ℕ SexprFault). r >>= λ code. Ok (Block area code, drop 1 pieces)) is

pub block_reads : (depth next area code : ℕ) (labels : Labels) (tokens : List Token) (pieces rest : List Piece) (all : Read (List Value)) → Begins (Open (Some area) Curly ∷ Atom (Fix (pos code)) ∷ tokens) pieces rest → code ≤ 65535
    → fields (expression depth) (length (drop 1 (drop 1 pieces))) 0 (next + 1) labels (drop 1 (drop 1 pieces)) ≡ Ok all
    → (object_begun next labels pieces >>= inside_of depth next) ≡ Ok (record { value = Ref next; objects = block_with area code all.value ∷ all.objects; labels = all.labels; rest = all.rest })
block_reads depth next area code labels tokens pieces rest all begins small reads =
    let one = takes (Open (Some area) Curly) (Atom (Fix (pos code)) ∷ tokens) pieces rest begins in
    let two = takes (Atom (Fix (pos code))) tokens (drop 1 pieces) rest one.behind in
    object_opened depth next labels pieces
    ∙ ap (λ (token : Token). opened depth next labels (form_by pieces token)) one.token
    ∙ ap (opened depth next labels) (block_in area code (drop 1 pieces) (code_is code (drop 1 pieces) small two.token))
    ∙ ap (λ (r : Result (Read (List Value)) SexprFault). r >>= λ all. Ok (record { value = Ref next; objects = block_with area code all.value ∷ all.objects; labels = all.labels; rest = all.rest })) reads

-- Conses

-- a cons whose car and cdr were read
abbrev pub cons_read : ℕ → Bracket → ℕ → Read Value → Read Value → Read Value
cons_read area bracket next car cdr = record { value = Ref next; objects = cons_in area bracket car.value cdr.value ∷ (car.objects ++ cdr.objects); labels = cdr.labels; rest = cdr.rest }

cons_goes : (depth many area : ℕ) (bracket : Bracket) (next : ℕ) (labels : Labels) (pieces : List Piece) (car cdr : Read Value) → length pieces ≤ many → expression depth (next + 1) labels pieces ≡ Ok car
    → cdr_behind (conses (expression depth) (many - 1) area bracket) (expression depth) bracket (next + 1 + length car.objects) car.labels car.rest ≡ Ok cdr
    → conses (expression depth) many area bracket next labels pieces ≡ Ok (cons_read area bracket next car cdr)
cons_goes depth many area bracket next labels pieces car cdr few first behind =
    conses_is depth many area bracket next labels pieces few
    ∙ ap (λ (r : Result (Read Value) SexprFault). r >>= element (expression depth) (many - 1) area bracket next) first
    ∙ ap (λ (r : Result (Read Value) SexprFault). r >>= λ cdr. Ok (cons_read area bracket next car cdr)) behind

-- the bracket closes after the car
abbrev pub nil_read : Labels → List Piece → Read Value
nil_read labels pieces = record { value = Nil; objects = []; labels = labels; rest = drop 1 pieces }

cdr_ends : (more read : Reader) (bracket : Bracket) (next : ℕ) (labels : Labels) (pieces : List Piece) → closes bracket (token_at pieces) ≡ true → cdr_behind more read bracket next labels pieces ≡ Ok (nil_read labels pieces)
unfolding cdr_behind
cdr_ends more read bracket next labels pieces is = rw is refl

cdr_goes : (more read : Reader) (bracket : Bracket) (next : ℕ) (labels : Labels) (pieces : List Piece) → closes bracket (token_at pieces) ≡ false → is_dot (token_at pieces) ≡ false
    → cdr_behind more read bracket next labels pieces ≡ more next labels pieces
unfolding cdr_behind
cdr_goes more read bracket next labels pieces unshut plain = rw (unshut, plain) refl

cdr_dotted : (more read : Reader) (bracket : Bracket) (next : ℕ) (labels : Labels) (pieces : List Piece) (cdr : Read Value) → closes bracket (token_at pieces) ≡ false → is_dot (token_at pieces) ≡ true
    → read next labels (drop 1 pieces) ≡ Ok cdr → closes bracket (token_at cdr.rest) ≡ true → cdr_behind more read bracket next labels pieces ≡ Ok (record cdr { rest = drop 1 cdr.rest })
unfolding cdr_behind
cdr_dotted more read bracket next labels pieces cdr unshut dot reads shut =
    ap (λ (b : Bool). if b then Ok (nil_read labels pieces) else if is_dot (token_at pieces) then (read next labels (drop 1 pieces) >>= λ cdr. closed bracket cdr) else more next labels pieces) unshut
    ∙ ap (λ (b : Bool). if b then (read next labels (drop 1 pieces) >>= λ cdr. closed bracket cdr) else more next labels pieces) dot
    ∙ ap (λ (r : Result (Read Value) SexprFault). r >>= λ cdr. closed bracket cdr) reads
    ∙ ap (λ (b : Bool). if b then Ok (record cdr { rest = drop 1 cdr.rest }) else refused cdr.rest (misplaced (token_at cdr.rest))) shut

pub conses_end : (depth many area : ℕ) (bracket : Bracket) (next : ℕ) (labels : Labels) (pieces : List Piece) (car : Read Value) → length pieces ≤ many → expression depth (next + 1) labels pieces ≡ Ok car
    → closes bracket (token_at car.rest) ≡ true → conses (expression depth) many area bracket next labels pieces ≡ Ok (cons_read area bracket next car (nil_read car.labels car.rest))
conses_end depth many area bracket next labels pieces car few first shut =
    cons_goes depth many area bracket next labels pieces car (nil_read car.labels car.rest) few first
    (cdr_ends (conses (expression depth) (many - 1) area bracket) (expression depth) bracket (next + 1 + length car.objects) car.labels car.rest shut)

pub conses_go : (depth many area : ℕ) (bracket : Bracket) (next : ℕ) (labels : Labels) (pieces : List Piece) (car cdr : Read Value) → length pieces ≤ many → expression depth (next + 1) labels pieces ≡ Ok car
    → closes bracket (token_at car.rest) ≡ false → is_dot (token_at car.rest) ≡ false
    → conses (expression depth) (many - 1) area bracket (next + 1 + length car.objects) car.labels car.rest ≡ Ok cdr
    → conses (expression depth) many area bracket next labels pieces ≡ Ok (cons_read area bracket next car cdr)
conses_go depth many area bracket next labels pieces car cdr few first unshut plain others =
    cons_goes depth many area bracket next labels pieces car cdr few first
    (cdr_goes (conses (expression depth) (many - 1) area bracket) (expression depth) bracket (next + 1 + length car.objects) car.labels car.rest unshut plain ∙ others)

pub conses_dotted : (depth many area : ℕ) (bracket : Bracket) (next : ℕ) (labels : Labels) (pieces : List Piece) (car cdr : Read Value) → length pieces ≤ many → expression depth (next + 1) labels pieces ≡ Ok car
    → closes bracket (token_at car.rest) ≡ false → is_dot (token_at car.rest) ≡ true → expression depth (next + 1 + length car.objects) car.labels (drop 1 car.rest) ≡ Ok cdr → closes bracket (token_at cdr.rest) ≡ true
    → conses (expression depth) many area bracket next labels pieces ≡ Ok (cons_read area bracket next car (record cdr { rest = drop 1 cdr.rest }))
conses_dotted depth many area bracket next labels pieces car cdr few first unshut dot last shut =
    cons_goes depth many area bracket next labels pieces car (record cdr { rest = drop 1 cdr.rest }) few first
    (cdr_dotted (conses (expression depth) (many - 1) area bracket) (expression depth) bracket (next + 1 + length car.objects) car.labels car.rest cdr unshut dot last shut)

-- Fields

pub fields_end : (depth many had next : ℕ) (labels : Labels) (pieces : List Piece) → length pieces ≤ many → closes Curly (token_at pieces) ≡ true
    → fields (expression depth) many had next labels pieces ≡ Ok (record { value = []; objects = []; labels = labels; rest = drop 1 pieces })
fields_end depth many had next labels pieces few shut =
    fields_is depth many had next labels pieces few
    ∙ ap (λ (b : Bool). if b then Ok (record { value = []; objects = []; labels = labels; rest = drop 1 pieces })
    else if nat_le 2047 had then refused pieces (surplus (token_at pieces)) else expression depth next labels pieces >>= field_more (expression depth) (many - 1) had next) shut

pub fields_go : (depth many had next : ℕ) (labels : Labels) (pieces : List Piece) (field : Read Value) (others : Read (List Value)) → length pieces ≤ many → closes Curly (token_at pieces) ≡ false → had < 2047
    → expression depth next labels pieces ≡ Ok field → fields (expression depth) (many - 1) (had + 1) (next + length field.objects) field.labels field.rest ≡ Ok others
    → fields (expression depth) many had next labels pieces ≡ Ok (record { value = field.value ∷ others.value; objects = field.objects ++ others.objects; labels = others.labels; rest = others.rest })
fields_go depth many had next labels pieces field others few unshut small first rest =
    let below : nat_le 2047 had ≡ false = grind (arith, nat_tests, small) in
    fields_is depth many had next labels pieces few
    ∙ ap (λ (b : Bool). if b then Ok (record { value = []; objects = []; labels = labels; rest = drop 1 pieces })
    else if nat_le 2047 had then refused pieces (surplus (token_at pieces)) else expression depth next labels pieces >>= field_more (expression depth) (many - 1) had next) unshut
    ∙ ap (λ (b : Bool). if b then refused pieces (surplus (token_at pieces)) else expression depth next labels pieces >>= field_more (expression depth) (many - 1) had next) below
    ∙ ap (λ (r : Result (Read Value) SexprFault). r >>= field_more (expression depth) (many - 1) had next) first
    ∙ ap (λ (r : Result (Read (List Value)) SexprFault). r >>= λ others. Ok (record { value = field.value ∷ others.value; objects = field.objects ++ others.objects; labels = others.labels; rest = others.rest })) rest
