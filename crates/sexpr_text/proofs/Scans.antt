-- Going from piece to piece.
use Rattle.std.proofs.Common.{◌≡◌, ℕ, zero, suc, ◌+◌, ◌-◌, ◌<◌, ◌≤◌, List, [], ◌∷◌, length, take, drop, Bool, true, false, refl, ap, sym, ◌∙◌, arith}
use Rattle.std.specs.Prelude.{slice_index, ◌==◌, ◌||◌, if◌then◌else◌, bytes_eq, codes, Option, Some, None}
use Rattle.lisp_graph.specs.declared.world.AreaRule.{AreaRule}
use Rattle.lisp_graph.specs.declared.object.Value.{Value}
use Rattle.lisp_graph.specs.declared.object.Value.TheVariants.{Fix, Nil, Ref}
use Rattle.world_text.specs.Numbers.{value_of}
use Rattle.lisp_graph.specs.Name.{is_name}
use Rattle.world_text.specs.Numbers.{area_of}
use Rattle.sexpr_text.specs.declared.bracket.Bracket.{Bracket}
use Rattle.sexpr_text.specs.declared.token.Piece.{Piece}
use Rattle.sexpr_text.specs.declared.token.Token.{Token}
use Rattle.sexpr_text.specs.declared.token.Token.TheVariants.{Root, EndSexpr, Dot, Label, Again, Open, Close, Unknown, End}
use Rattle.sexpr_text.specs.Brackets.{closed_by, opened_by}
use Rattle.sexpr_text.specs.Tokens.{atom_of, label_in, label_token, plain_token, token_by_bracket, token_by_mark, token_of}
use Rattle.sexpr_text.specs.Pieces.{is_end, is_feed, is_white, piece_length, pieces_from}

-- after the bytes of the piece before
pub pieces_skip : (areas : List AreaRule) (past skip line : ℕ) (text : List ℕ) → pieces_from areas past skip line text ≡ pieces_from areas past 0 line (drop skip text)
unfolding pieces_from
pieces_skip areas past zero line [] = refl
pieces_skip areas past zero line (byte ∷ bytes) = refl
pieces_skip areas past (suc skip) line [] = refl
pieces_skip areas past (suc skip) line (byte ∷ bytes) = pieces_skip areas past skip line bytes

first_at : (areas : List AreaRule) (past size line byte : ℕ) (bytes : List ℕ) (feed space : Bool) → (space || feed) ≡ false
    → (if feed then pieces_from areas past 0 (line + 1) bytes
    else if space then pieces_from areas past 0 line bytes
    else record { line = line; token = token_of areas (take size (byte ∷ bytes)) } ∷ pieces_from areas past (size - 1) line bytes)
    ≡ record { line = line; token = token_of areas (take size (byte ∷ bytes)) } ∷ pieces_from areas past (size - 1) line bytes
first_at areas past size line byte bytes true true black = absurd (cc)
first_at areas past size line byte bytes true false black = absurd (cc)
first_at areas past size line byte bytes false true black = absurd (cc)
first_at areas past size line byte bytes false false black = refl

size_left : (size : ℕ) (byte : ℕ) (bytes : List ℕ) → 0 < size → drop (size - 1) bytes ≡ drop size (byte ∷ bytes)
size_left zero byte bytes some = absurd (omega arith)
size_left (suc size) byte bytes some = let e : suc size - 1 ≡ size = omega arith in rw e refl

-- a text that begins with a piece
pub pieces_first : (areas : List AreaRule) (past line size : ℕ) (text : List ℕ) → 0 < length text → is_white (slice_index text 0) ≡ false → size ≡ piece_length text → 0 < size
    → pieces_from areas past 0 line text ≡ record { line = line; token = token_of areas (take size text) } ∷ pieces_from areas past 0 line (drop size text)
unfolding pieces_from
pieces_first areas past line size [] some black is one = absurd (omega arith)
pieces_first areas past line size (byte ∷ bytes) some black is one =
    let piece : ℕ → Piece = λ n. record { line = line; token = token_of areas (take n (byte ∷ bytes)) } in
    first_at areas past (piece_length (byte ∷ bytes)) line byte bytes (is_feed byte) (byte == 32) black
    ∙ ap (λ n. piece n ∷ pieces_from areas past (n - 1) line bytes) (sym is)
    ∙ ap (λ ps. piece size ∷ ps) (pieces_skip areas past (size - 1) line bytes ∙ ap (pieces_from areas past 0 line) (size_left size byte bytes one))

-- the end of the text
pub pieces_none : (areas : List AreaRule) (past line : ℕ) (text : List ℕ) → length text ≤ 0 → pieces_from areas past 0 line text ≡ record { line = past; token = End } ∷ []
unfolding pieces_from
pieces_none areas past line [] none = refl
pieces_none areas past line (byte ∷ bytes) none = absurd (omega arith)

-- No token of a piece is the end of the text

either : (test : Bool) (one other : Token) → is_end one ≡ false → is_end other ≡ false → is_end (if test then one else other) ≡ false
either true one other first second = first
either false one other first second = second

no_end_atom : (value : Option Value) → is_end (atom_of value) ≡ false
no_end_atom (Some (Fix number)) = refl
no_end_atom (Some Nil) = refl
no_end_atom (Some (Ref number)) = refl
no_end_atom None = refl

no_end_label : (token : ℕ → Token) (label : Option ℕ) → ((number : ℕ) → is_end (token number) ≡ false) → is_end (label_token token label) ≡ false
no_end_label token None each = refl
no_end_label token (Some label) each = each label

no_end_plain : (piece : List ℕ) → is_end (plain_token piece) ≡ false
no_end_plain piece =
    either (bytes_eq piece (codes "root")) Root _ refl
    (either (bytes_eq piece (codes "end-sexpr")) EndSexpr _ refl
    (either (bytes_eq piece (codes ".")) Dot _ refl (no_end_atom (value_of piece))))

no_end_mark : (piece front : List ℕ) (last : ℕ) → is_end (token_by_mark piece front last) ≡ false
no_end_mark piece front last =
    either (last == 61) (label_token Label (label_in front)) _ (no_end_label Label (label_in front) (λ number. refl))
    (either (last == 35) (label_token Again (label_in front)) (plain_token piece) (no_end_label Again (label_in front) (λ number. refl)) (no_end_plain piece))

no_end_bracket : (areas : List AreaRule) (piece front : List ℕ) (last : ℕ) (opened closed : Option Bracket) → is_end (token_by_bracket areas piece front last opened closed) ≡ false
no_end_bracket areas piece front last (Some bracket) closed = either (is_name front) (Open (area_of areas front) bracket) Unknown refl refl
no_end_bracket areas piece front last None (Some bracket) = either (length front == 0) (Close bracket) Unknown refl refl
no_end_bracket areas piece front last None None = no_end_mark piece front last

pub no_end : (areas : List AreaRule) (piece : List ℕ) → is_end (token_of areas piece) ≡ false
no_end areas piece =
    let last = slice_index piece (length piece - 1) in
    no_end_bracket areas piece (take (length piece - 1) piece) last (opened_by last) (closed_by last)

-- a piece, and those after it
pub pieces_at : (areas : List AreaRule) (past line size : ℕ) (text front rest : List ℕ) (token : Token) → 0 < length text → is_white (slice_index text 0) ≡ false
    → size ≡ piece_length text → 0 < size → front ≡ take size text → rest ≡ drop size text → token ≡ token_of areas front
    → record { line = line; token = token } ∷ (if is_end token then [] else pieces_from areas past 0 line rest) ≡ pieces_from areas past 0 line text
pieces_at areas past line size text front rest token some black is one cut left spelled =
    let piece : Token → Piece = λ t. record { line = line; token = t } in
    let e : token ≡ token_of areas (take size text) = spelled ∙ ap (token_of areas) cut in
    let goes : is_end token ≡ false = ap is_end e ∙ no_end areas (take size text) in
    ap (λ (b : Bool). piece token ∷ (if b then [] else pieces_from areas past 0 line rest)) goes
    ∙ ap (λ (t : Token). piece t ∷ pieces_from areas past 0 line rest) e
    ∙ ap (λ (bytes : List ℕ). piece (token_of areas (take size text)) ∷ pieces_from areas past 0 line bytes) left
    ∙ sym (pieces_first areas past line size text some black is one)
