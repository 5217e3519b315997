-- How tokens are spelled, and the text of a world.
use Rattle.std.specs.Prelude.{◌≡◌, ℕ, List, [], ◌∷◌, ◌++◌, Bool, true, false, ◌||◌, if◌then◌else◌, take, map, flat_map, codes, decimal, Some, None}
use Rattle.lisp_graph.specs.store_word.declared.space.Space.{Space}
use Rattle.lisp_graph.specs.declared.world.AreaRule.{AreaRule}
use Rattle.lisp_graph.specs.declared.world.World.{World}
use Rattle.lisp_graph.specs.World.{opening}
use Rattle.lisp_graph.specs.KeyedGraph.{keyed}
use Rattle.world_text.specs.Numbering.{IsNumbering}
use Rattle.world_text.specs.Spelling.{SpaceLine, AreaLine, CapacityLine, name_of, value_text}
use Rattle.world_text.specs.File.{text_of}
use Rattle.sexpr_text.specs.declared.token.Token.{Token}
use Rattle.sexpr_text.specs.declared.token.Token.TheVariants.{Root, EndSexpr, Dot, Atom, Label, Again, Open, Close, Unknown, End}
use Rattle.sexpr_text.specs.Brackets.{closing, opening as opening_byte}
use Rattle.sexpr_print.specs.Places.{held, is_shared}
use Rattle.sexpr_print.specs.Printing.{PrintsRoots}

-- the bytes of a token, if areas have these names
abbrev pub token_text : List AreaRule → Token → List ℕ
token_text areas Root = codes "root"
token_text areas EndSexpr = codes "end-sexpr"
token_text areas Dot = codes "."
token_text areas (Atom value) = value_text value
token_text areas (Label label) = codes "#" ++ decimal label ++ codes "="
token_text areas (Again label) = codes "#" ++ decimal label ++ codes "#"
token_text areas (Open (Some area) bracket) = name_of areas area ++ opening_byte bracket ∷ []
token_text areas (Open None bracket) = []
token_text areas (Close bracket) = closing bracket ∷ []
token_text areas Unknown = []
token_text areas End = []

-- a token with no space between it and the next
abbrev pub binds : Token → Bool
binds (Label label) = true
binds (Open area bracket) = true
binds _ = false

-- a token with no space between it and the one before
abbrev pub is_close : Token → Bool
is_close (Close bracket) = true
is_close _ = false

-- a space between a token and the next, but none after a label or an opening bracket, and none before a closing one
abbrev pub gap : Token → List Token → List ℕ
gap token [] = []
gap token (next ∷ tokens) = if binds token || is_close next then [] else 32 ∷ []

-- the text of tokens in one line
abbrev pub tokens_text : List AreaRule → List Token → List ℕ
tokens_text areas [] = []
tokens_text areas (token ∷ tokens) = token_text areas token ++ gap token tokens ++ tokens_text areas tokens

-- lines of tokens, each with its line feed
abbrev pub lines_text : List AreaRule → List (List Token) → List ℕ
lines_text areas lines = flat_map (λ line. tokens_text areas line ++ 10 ∷ []) lines

-- the lines before the roots
abbrev pub header_text : Space → List AreaRule → List ℕ
header_text space areas =
    codes "sexpr-world 1" ++ 10 ∷ text_of areas (SpaceLine space ∷ map AreaLine areas ++ CapacityLine (take space.levels space.capacity) ∷ [])

-- The text is the print of the world: its header, a line for each register that isn't nil, and `end-sexpr`. Shared are the objects to which more than one register or field of the objects that the registers reach refers.
pub record IsPrint (world : World) (text : List ℕ) : Type 0 where
  pub names : List ℕ
  pub reached : IsNumbering (keyed (opening world)) names
  pub lines : List (List Token)
  pub prints : PrintsRoots world.objects (is_shared (held (opening world) names)) 0 [] world.roots lines
  pub is : text ≡ header_text world.space world.areas ++ lines_text world.areas (lines ++ (EndSexpr ∷ []) ∷ [])
