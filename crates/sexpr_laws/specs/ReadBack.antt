-- What is read from a text that was written.
use Rattle.std.specs.Prelude.{◌≡◌, ℕ, ◌+◌, ◌<◌, ◌≤◌, ◌^◌, List, [], ◌∷◌, ◌++◌, length, map, flat_map, codes, replicate, Result, Ok}
use Rattle.file_modes.specs.store_word.declared.space.Space.{Space}
use Rattle.file_modes.specs.lisp_graph.declared.object.Value.TheVariants.{Nil}
use Rattle.file_modes.specs.lisp_graph.declared.world.AreaRule.{AreaRule}
use Rattle.file_modes.specs.lisp_graph.declared.world.World.{World}
use Rattle.file_modes.specs.world_text.Next.{◌>>=◌}
use Rattle.file_modes.specs.sexpr_text.declared.fault.SexprFault.{SexprFault}
use Rattle.file_modes.specs.sexpr_text.declared.token.Piece.{Piece}
use Rattle.file_modes.specs.sexpr_text.declared.token.Token.{Token}
use Rattle.file_modes.specs.sexpr_text.declared.token.Token.TheVariants.{End}
use Rattle.file_modes.specs.sexpr_text.Pieces.{pieces_of}
use Rattle.file_modes.specs.sexpr_text.Meaning.{Head, behind_line, first_line, graph_behind, header, meaning, said_behind, second_place}
use Rattle.file_modes.specs.sexpr_print.Spelling.{header_text, lines_text}

-- Tokens

-- what pieces spell
abbrev pub tokens_of : List Piece → List Token
tokens_of pieces = map (λ piece. piece.token) pieces

-- the tokens of all lines
abbrev pub in_order : List (List Token) → List Token
in_order lines = flat_map (λ line. line) lines

-- The pieces of the text of these lines spell the tokens of all lines, in order, and then the text ends.
abbrev pub AreTokensReadBack : List AreaRule → ℕ → List (List Token) → Type 0
AreTokensReadBack areas line lines = tokens_of (pieces_of areas line (lines_text areas lines)) ≡ in_order lines ++ End ∷ []

-- Headers

-- what a header means: no objects, and nil in each register
abbrev pub bare_world : Space → List AreaRule → World
bare_world space areas = record { space = space; areas = areas; objects = []; roots = replicate space.registers Nil }

-- the number of the line after a header, whose lines are the first one, that of the space, one for each area, and that of the capacities
abbrev pub line_behind : List AreaRule → ℕ
line_behind areas = length areas + 4

-- the header of the world, followed by this text
abbrev pub headed : World → List ℕ → List ℕ
headed world text = header_text world.space world.areas ++ text

-- what the header of the world means when this text follows it
abbrev pub said_with : World → List ℕ → Result World SexprFault
said_with world text =
    graph_behind world.areas world.space.registers (line_behind world.areas) text >>= λ graph. Ok (record world { objects = graph.0; roots = graph.1 })

-- what the lines after the first one mean
abbrev pub header_behind : List ℕ → Result Head SexprFault
header_behind text = header (length text) second_place 2 text

-- The header of the world is read back, whatever text follows it; it has less than 2^20 bytes.
pub record IsHeaderReadBack (world : World) (text : List ℕ) : Type 0 where
  pub first : first_line (headed world text) ≡ codes "sexpr-world 1"
  pub read : header_behind (behind_line (headed world text)) ≡ Ok (record { world = bare_world world.space world.areas; line = line_behind world.areas; rest = text })
  pub said : said_behind (behind_line (headed world text)) ≡ said_with world text
  pub means : length (headed world text) ≤ 2 ^ 40 → meaning (headed world text) ≡ said_with world text
  pub short : length (header_text world.space world.areas) < 2 ^ 20
