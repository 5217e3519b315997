-- The pieces of a text of tokens are these tokens.
use Rattle.std.proofs.Common.{◌≡◌, ℕ, ◌+◌, ◌<◌, List, [], ◌∷◌, ◌++◌, length, drop, Bool, true, false, refl, ap, sym, ◌∙◌, arith, append_assoc, length-append}
use Rattle.std.specs.Prelude.{◌||◌, if◌then◌else◌, slice_index}
use Rattle.std.specs.List.{All}
use Rattle.std.proofs.lemmas.List.{drop_at, take_at}
use Rattle.std.proofs.lemmas.List.Elements.{All-head, All-tail}
use Rattle.file_modes.specs.lisp_graph.declared.world.AreaRule.{AreaRule}
use Rattle.file_modes.specs.world_text.Limits.{AreNamed}
use Rattle.file_modes.specs.sexpr_text.declared.token.Piece.{Piece}
use Rattle.file_modes.specs.sexpr_text.declared.token.Token.{Token}
use Rattle.file_modes.specs.sexpr_text.declared.token.Token.TheVariants.{Close, End}
use Rattle.file_modes.specs.sexpr_text.Brackets.{closing}
use Rattle.file_modes.specs.sexpr_text.Pieces.{is_white, line_past, pieces_from, pieces_of}
use Rattle.file_modes.specs.sexpr_text.Tokens.{token_of}
use Rattle.file_modes.proofs.sexpr_text.Scans.{pieces_first}
use Rattle.file_modes.specs.sexpr_print.Spelling.{binds, gap, is_close, lines_text, token_text, tokens_text}
use Rattle.sexpr_laws.specs.Spellable.{AreSpellable, CanSpell}
use Rattle.sexpr_laws.specs.ReadBack.{in_order, tokens_of}
use Rattle.file_modes.proofs.sexpr_text.Cuts.{first_byte}
use Rattle.file_modes.proofs.sexpr_text.Bytes.{closing_stops}
use Rattle.sexpr_laws.proofs.TokenTexts.{token_spelled}
use Rattle.file_modes.proofs.sexpr_text.IntegerPieces.{IsPiece, Stops}
use Rattle.sexpr_laws.proofs.TokenPieces.{token_piece}

-- One piece

piece_read : (areas : List AreaRule) (past line : ℕ) (text rest : List ℕ) → IsPiece text rest
    → pieces_from areas past 0 line (text ++ rest) ≡ record { line = line; token = token_of areas text } ∷ pieces_from areas past 0 line rest
piece_read areas past line text rest piece =
    let some : 0 < length (text ++ rest) = omega (arith, length-append text rest, piece.some) in
    let black : is_white (slice_index (text ++ rest) 0) ≡ false = ap is_white (first_byte text rest piece.some) ∙ piece.black in
    pieces_first areas past line (length text) (text ++ rest) some black piece.size piece.some
    ∙ ap (λ (front : List ℕ). record { line = line; token = token_of areas front } ∷ pieces_from areas past 0 line (drop (length text) (text ++ rest))) (take_at text rest (length text) refl)
    ∙ ap (λ (left : List ℕ). record { line = line; token = token_of areas text } ∷ pieces_from areas past 0 line left) (drop_at text rest (length text) refl)

-- What follows a token

-- the gap, the other tokens of the line, and the lines after it
abbrev behind : List AreaRule → Token → List Token → List ℕ → List ℕ
behind areas token tokens rest = gap token tokens ++ (tokens_text areas tokens ++ 10 ∷ rest)

close_first : (areas : List AreaRule) (next : Token) (tokens : List Token) (rest : List ℕ) → is_close next ≡ true → Stops (tokens_text areas (next ∷ tokens) ++ 10 ∷ rest)
close_first areas (Close bracket) tokens rest is = record {
  byte = closing bracket;
  others = (gap (Close bracket) tokens ++ tokens_text areas tokens) ++ 10 ∷ rest;
  is = refl;
  stop = closing_stops bracket;
}
close_first areas next tokens rest is = absurd (cc (is))

-- it ends the piece of a token that doesn't bind
stops_behind : (areas : List AreaRule) (token : Token) (tokens : List Token) (rest : List ℕ) → binds token ≡ false → Stops (behind areas token tokens rest)
stops_behind areas token [] rest free = record { byte = 10; others = rest; is = refl; stop = record { edge = refl; behind = refl } }
stops_behind areas token (next ∷ tokens) rest free = of_tests (binds token) (is_close next) free refl
  where
    of_tests : (bind close : Bool) → bind ≡ false → is_close next ≡ close → Stops ((if bind || close then [] else 32 ∷ []) ++ (tokens_text areas (next ∷ tokens) ++ 10 ∷ rest))
    of_tests true close free is = absurd (cc (free))
    of_tests false true free is = close_first areas next tokens rest is
    of_tests false false free is = record { byte = 32; others = tokens_text areas (next ∷ tokens) ++ 10 ∷ rest; is = refl; stop = record { edge = refl; behind = refl } }

-- a gap isn't a piece
gap_passed : (areas : List AreaRule) (past line : ℕ) (token : Token) (tokens : List Token) (text : List ℕ) → pieces_from areas past 0 line (gap token tokens ++ text) ≡ pieces_from areas past 0 line text
unfolding pieces_from
gap_passed areas past line token [] text = refl
gap_passed areas past line token (next ∷ tokens) text = of_test (binds token || is_close next)
  where
    of_test : (bound : Bool) → pieces_from areas past 0 line ((if bound then [] else 32 ∷ []) ++ text) ≡ pieces_from areas past 0 line text
    of_test true = refl
    of_test false = refl

-- Lines

line_back : (areas : List AreaRule) (past line : ℕ) (tokens : List Token) (rest : List ℕ) → AreNamed areas → AreSpellable areas tokens
    → tokens_of (pieces_from areas past 0 line (tokens_text areas tokens ++ 10 ∷ rest)) ≡ tokens ++ tokens_of (pieces_from areas past 0 (line + 1) rest)
unfolding pieces_from
line_back areas past line [] rest named can = refl
line_back areas past line (token ∷ tokens) rest named can =
    let text : List ℕ = token_text areas token in
    let after : List ℕ = behind areas token tokens rest in
    let here : CanSpell areas token = All-head (CanSpell areas) token tokens can in
    let split : tokens_text areas (token ∷ tokens) ++ 10 ∷ rest ≡ text ++ after = append_assoc (text ++ gap token tokens) (tokens_text areas tokens) (10 ∷ rest)
    ∙ append_assoc text (gap token tokens) (tokens_text areas tokens ++ 10 ∷ rest) in
    ap (λ (whole : List ℕ). tokens_of (pieces_from areas past 0 line whole)) split
    ∙ ap tokens_of (piece_read areas past line text after (token_piece areas token after named here (stops_behind areas token tokens rest)))
    ∙ ap (λ (t : Token). t ∷ tokens_of (pieces_from areas past 0 line after)) (token_spelled areas token named here)
    ∙ ap (λ (pieces : List Piece). token ∷ tokens_of pieces) (gap_passed areas past line token tokens (tokens_text areas tokens ++ 10 ∷ rest))
    ∙ ap (λ (more : List Token). token ∷ more) (line_back areas past line tokens rest named (All-tail (CanSpell areas) token tokens can))

lines_back : (areas : List AreaRule) (past line : ℕ) (lines : List (List Token)) → AreNamed areas → All (AreSpellable areas) lines
    → tokens_of (pieces_from areas past 0 line (lines_text areas lines)) ≡ in_order lines ++ End ∷ []
unfolding pieces_from
lines_back areas past line [] named can = refl
lines_back areas past line (tokens ∷ lines) named can =
    let rest : List ℕ = lines_text areas lines in
    ap (λ (whole : List ℕ). tokens_of (pieces_from areas past 0 line whole)) (append_assoc (tokens_text areas tokens) (10 ∷ []) rest)
    ∙ line_back areas past line tokens rest named (All-head (AreSpellable areas) tokens lines can)
    ∙ ap (λ (more : List Token). tokens ++ more) (lines_back areas past (line + 1) lines named (All-tail (AreSpellable areas) tokens lines can))
    ∙ sym (append_assoc tokens (in_order lines) (End ∷ []))

pub tokens_back : (areas : List AreaRule) (line : ℕ) (lines : List (List Token)) → AreNamed areas → All (AreSpellable areas) lines
    → tokens_of (pieces_of areas line (lines_text areas lines)) ≡ in_order lines ++ End ∷ []
tokens_back areas line lines named can = lines_back areas (line_past line (lines_text areas lines)) line lines named can
