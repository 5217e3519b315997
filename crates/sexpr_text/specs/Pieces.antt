-- The pieces of a text.
use Rattle.std.specs.Prelude.{ℕ, zero, suc, ◌+◌, ◌-◌, List, [], ◌∷◌, length, take, ◌==◌, ◌||◌, ◌&&◌, not, Bool, true, false, if◌then◌else◌, is_some, slice_index, count_by, position, Option, Some, None}
use Rattle.lisp_graph.specs.declared.world.AreaRule.{AreaRule}
use Rattle.sexpr_text.specs.declared.token.Piece.{Piece}
use Rattle.sexpr_text.specs.declared.token.Token.{Token}
use Rattle.sexpr_text.specs.declared.token.Token.TheVariants.{End}
use Rattle.sexpr_text.specs.Brackets.{closed_by, opened_by}
use Rattle.sexpr_text.specs.Tokens.{token_of}

abbrev pub is_feed : ℕ → Bool
is_feed byte = byte == 10

-- a space or a line feed
abbrev pub is_white : ℕ → Bool
is_white byte = byte == 32 || is_feed byte

-- a byte with which a piece ends: an opening bracket or `=`
abbrev pub is_last : ℕ → Bool
is_last byte = is_some (opened_by byte) || byte == 61

-- a byte with which or before which a piece ends
abbrev pub is_edge : ℕ → Bool
is_edge byte = is_white byte || is_some (closed_by byte) || is_last byte

-- the length of a piece with this first edge
abbrev pub piece_end : List ℕ → Option ℕ → ℕ
piece_end text None = length text
piece_end text (Some edge) = if edge == 0 || is_last (slice_index text edge) then edge + 1 else edge

-- How many bytes the first piece of the text has. It ends before white space or a closing bracket, and after an opening bracket or `=`; a closing bracket is a piece by itself.
abbrev pub piece_length : List ℕ → ℕ
piece_length text = piece_end text (position is_edge text)

-- the pieces of a text from this line on, after `skip` bytes of the piece before; the end of the text is the last one, in the line `past`
unfoldable pub pieces_from : List AreaRule → ℕ → ℕ → ℕ → List ℕ → List Piece
pieces_from areas past skip line [] = record { line = past; token = End } ∷ []
pieces_from areas past (suc skip) line (byte ∷ bytes) = pieces_from areas past skip line bytes
pieces_from areas past zero line (byte ∷ bytes) =
    if is_feed byte then pieces_from areas past 0 (line + 1) bytes
    else if byte == 32 then pieces_from areas past 0 line bytes
    else
    (let size = piece_length (byte ∷ bytes) in
    record { line = line; token = token_of areas (take size (byte ∷ bytes)) } ∷ pieces_from areas past (size - 1) line bytes)

-- a text that ends within a line
abbrev pub is_unfinished : List ℕ → Bool
is_unfinished text = not (length text == 0) && not (is_feed (slice_index text (length text - 1)))

-- the number of the line after the last one, for a text that begins in this line
abbrev pub line_past : ℕ → List ℕ → ℕ
line_past line text = line + count_by is_feed text + (if is_unfinished text then 1 else 0)

-- The pieces of a text that begins in this line.
abbrev pub pieces_of : List AreaRule → ℕ → List ℕ → List Piece
pieces_of areas line text = pieces_from areas (line_past line text) 0 line text

abbrev pub is_end : Token → Bool
is_end End = true
is_end _ = false

-- a piece, and those after it in the text, which goes on in this line
abbrev pub pieces_left : Piece → List AreaRule → ℕ → ℕ → List ℕ → List Piece
pieces_left piece areas past line text = piece ∷ (if is_end piece.token then [] else pieces_from areas past 0 line text)

-- the token of the first piece
abbrev pub token_at : List Piece → Token
token_at [] = End
token_at (piece ∷ pieces) = piece.token

-- the line in which the first piece begins
abbrev pub line_at : List Piece → ℕ
line_at [] = 0
line_at (piece ∷ pieces) = piece.line
