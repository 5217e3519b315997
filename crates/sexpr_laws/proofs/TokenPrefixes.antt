-- Pieces that begin with some tokens.
use Rattle.std.proofs.Common.{◌≡◌, ℕ, ◌+◌, ◌<◌, ◌≤◌, List, [], ◌∷◌, ◌++◌, length, map, drop, Bool, true, false, Some, refl, ap, ◌∙◌, arith}
use Rattle.std.specs.Prelude.{if◌then◌else◌}
use Rattle.file_modes.specs.lisp_graph.declared.object.Value.{Value}
use Rattle.file_modes.specs.lisp_graph.declared.object.Body.{Body}
use Rattle.file_modes.specs.lisp_graph.declared.object.Object.{Object}
use Rattle.file_modes.specs.sexpr_text.declared.bracket.Bracket.{Bracket}
use Rattle.file_modes.specs.sexpr_text.declared.bracket.Bracket.TheVariants.{Round, Square, Curly}
use Rattle.file_modes.specs.sexpr_text.declared.token.Piece.{Piece}
use Rattle.file_modes.specs.sexpr_text.declared.token.Token.{Token}
use Rattle.file_modes.specs.sexpr_text.declared.token.Token.TheVariants.{Root, EndSexpr, Dot, Atom, Label, Again, Open, Close, Unknown, End}
use Rattle.file_modes.specs.sexpr_text.Pieces.{token_at}
use Rattle.file_modes.specs.sexpr_text.Reading.{closes, is_dot}
use Rattle.file_modes.specs.sexpr_print.Printing.{Prints, PrintsConses, PrintsForm, again, block, bracket_of, dotted, ends, first, goes, list, none, number}

-- the pieces are these tokens, and then the rest
abbrev pub Begins : List Token → List Piece → List Piece → Type 0
Begins [] pieces rest = pieces ≡ rest
Begins (token ∷ tokens) [] rest = ⊥
Begins (token ∷ tokens) (piece ∷ pieces) rest = (piece.token ≡ token) × Begins tokens pieces rest

-- the first token and those after it
pub record Takes (one : Token) (tokens : List Token) (pieces rest : List Piece) : Type 0 where
  pub token : token_at pieces ≡ one
  pub behind : Begins tokens (drop 1 pieces) rest
  pub long : length pieces ≡ 1 + length (drop 1 pieces)

pub takes : (token : Token) (tokens : List Token) (pieces rest : List Piece) → Begins (token ∷ tokens) pieces rest → Takes token tokens pieces rest
takes token tokens [] rest begins = absurd begins
takes token tokens (piece ∷ pieces) rest begins = record { token = begins.0; behind = begins.1; long = omega arith }

-- the pieces between
pub record Splits (front others : List Token) (pieces rest : List Piece) : Type 0 where
  pub middle : List Piece
  pub before : Begins front pieces middle
  pub behind : Begins others middle rest

pub splits : (front others : List Token) (pieces rest : List Piece) → Begins (front ++ others) pieces rest → Splits front others pieces rest
splits [] others pieces rest begins = record { middle = pieces; before = refl; behind = begins }
splits (token ∷ front) others [] rest begins = absurd begins
splits (token ∷ front) others (piece ∷ pieces) rest begins =
    let later = splits front others pieces rest begins.1 in
    record { middle = later.middle; before = (begins.0, later.before); behind = later.behind }

pub begins_long : (tokens : List Token) (pieces rest : List Piece) → Begins tokens pieces rest → length rest ≤ length pieces
begins_long [] pieces rest begins = omega (arith, ap length begins)
begins_long (token ∷ tokens) [] rest begins = absurd begins
begins_long (token ∷ tokens) (piece ∷ pieces) rest begins = omega (arith, begins_long tokens pieces rest begins.1)

-- tokens that the pieces have
pub begins_of : (tokens others : List Token) (pieces : List Piece) → map (λ piece. piece.token) pieces ≡ tokens ++ others → Begins tokens pieces (drop (length tokens) pieces)
begins_of [] others pieces is = refl
begins_of (token ∷ tokens) others [] is = absurd (cc (is))
begins_of (token ∷ tokens) others (piece ∷ pieces) is = (cc (is), begins_of tokens others pieces (cc (is)))

pub left_of : (tokens others : List Token) (pieces : List Piece) → map (λ piece. piece.token) pieces ≡ tokens ++ others → map (λ piece. piece.token) (drop (length tokens) pieces) ≡ others
left_of [] others pieces is = is
left_of (token ∷ tokens) others [] is = absurd (cc (is))
left_of (token ∷ tokens) others (piece ∷ pieces) is = left_of tokens others pieces (cc (is))

-- The first token of an expression

-- the token begins an expression
abbrev pub is_start : Token → Bool
is_start (Atom value) = true
is_start (Label label) = true
is_start (Again label) = true
is_start (Open area bracket) = true
is_start _ = false

-- so does the first of these
abbrev pub starts : List Token → Bool
starts [] = false
starts (token ∷ tokens) = is_start token

starts_front : (front others : List Token) → starts front ≡ true → starts (front ++ others) ≡ true
starts_front [] others is = absurd (cc (is))
starts_front (token ∷ front) others is = is

form_starts : {objects : List Object} {shared : ℕ → Bool} {area charge : ℕ} {printed : List ℕ} {body : Body} {tokens : List Token} {after : List ℕ} → PrintsForm objects shared area charge printed body tokens after → starts tokens ≡ true
form_starts (list area charge printed after car cdr tokens prints) = refl
form_starts (block area charge code printed after fields tokens prints) = refl

mark_starts : (b : Bool) (label : ℕ) (form : List Token) → starts form ≡ true → starts ((if b then Label label ∷ [] else []) ++ form) ≡ true
mark_starts true label form is = refl
mark_starts false label form is = is

pub prints_start : {objects : List Object} {shared : ℕ → Bool} {printed : List ℕ} {value : Value} {tokens : List Token} {after : List ℕ} → Prints objects shared printed value tokens after → starts tokens ≡ true
prints_start (number printed i) = refl
prints_start (none printed) = refl
prints_start (again printed name old) = refl
prints_start {shared = shared} (first printed after name form fresh prints) = mark_starts (shared name) _ form (form_starts prints)

pub conses_start : {objects : List Object} {shared : ℕ → Bool} {area charge : ℕ} {printed : List ℕ} {body : Body} {tokens : List Token} {after : List ℕ} → PrintsConses objects shared area charge printed body tokens after → starts tokens ≡ true
conses_start (ends area charge printed after car element prints) = starts_front element _ (prints_start prints)
conses_start (goes area charge printed middle after car cdr next element others prints is rest) = starts_front element others (prints_start prints)
conses_start (dotted area charge printed middle after car cdr element last prints some is rest) = starts_front element _ (prints_start prints)

-- the bracket that a form opens
pub record Opens (form : List Token) : Type 0 where
  pub area : ℕ
  pub bracket : Bracket
  pub behind : List Token
  pub is : form ≡ Open (Some area) bracket ∷ behind

pub form_open : {objects : List Object} {shared : ℕ → Bool} {area charge : ℕ} {printed : List ℕ} {body : Body} {tokens : List Token} {after : List ℕ} → PrintsForm objects shared area charge printed body tokens after → Opens tokens
form_open (list area charge printed after car cdr tokens prints) = record { area = area; bracket = bracket_of charge; behind = tokens; is = refl }
form_open (block area charge code printed after fields tokens prints) = record { area = area; bracket = Curly; behind = _; is = refl }

-- an expression has a token
pub begins_less : (tokens : List Token) (pieces rest : List Piece) → starts tokens ≡ true → Begins tokens pieces rest → length rest < length pieces
begins_less [] pieces rest is begins = absurd (cc (is))
begins_less (token ∷ tokens) [] rest is begins = absurd begins
begins_less (token ∷ tokens) (piece ∷ pieces) rest is begins = omega (arith, begins_long tokens pieces rest begins.1)

-- at the first token of an expression no bracket closes, and there is no dot
start_plain : (bracket : Bracket) (token : Token) → is_start token ≡ true → (closes bracket token ≡ false) × (is_dot token ≡ false)
start_plain bracket (Atom value) is = (refl, refl)
start_plain bracket (Label label) is = (refl, refl)
start_plain bracket (Again label) is = (refl, refl)
start_plain bracket (Open area other) is = (refl, refl)
start_plain bracket Root is = absurd (cc (is))
start_plain bracket EndSexpr is = absurd (cc (is))
start_plain bracket Dot is = absurd (cc (is))
start_plain bracket (Close other) is = absurd (cc (is))
start_plain bracket Unknown is = absurd (cc (is))
start_plain bracket End is = absurd (cc (is))

pub begins_plain : (bracket : Bracket) (tokens : List Token) (pieces rest : List Piece) → starts tokens ≡ true → Begins tokens pieces rest → (closes bracket (token_at pieces) ≡ false) × (is_dot (token_at pieces) ≡ false)
begins_plain bracket [] pieces rest is begins = absurd (cc (is))
begins_plain bracket (token ∷ tokens) [] rest is begins = absurd begins
begins_plain bracket (token ∷ tokens) (piece ∷ pieces) rest is begins = start_plain bracket piece.token (ap is_start begins.0 ∙ is)

-- a bracket closes itself
pub same_closes : (bracket : Bracket) → closes bracket (Close bracket) ≡ true
same_closes Round = refl
same_closes Square = refl
same_closes Curly = refl
