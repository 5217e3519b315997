-- A text to which tokens are added one by one.
use Rattle.std.specs.Prelude.{◌≡◌, ℕ, List, [], ◌∷◌, ◌++◌, Bool, ◌||◌, if◌then◌else◌, Option, Some, None}
use Rattle.lisp_graph.specs.declared.world.AreaRule.{AreaRule}
use Rattle.sexpr_text.specs.declared.token.Token.{Token}
use Rattle.sexpr_text.specs.declared.token.Token.TheVariants.{Label}
use Rattle.sexpr_print.specs.declared.token_text.TokenText.{TokenText}
use Rattle.sexpr_print.specs.Spelling.{binds, is_close, token_text}

-- the bytes before a token: none if the token before it needs no space, or if it closes a bracket
abbrev pub gap_before : Bool → Token → List ℕ
gap_before joined token = if joined || is_close token then [] else 32 ∷ []

-- the bytes that tokens add
abbrev pub added : List AreaRule → Bool → List Token → List ℕ
added areas joined [] = []
added areas joined (token ∷ tokens) = gap_before joined token ++ (token_text areas token ++ added areas (binds token) tokens)

-- whether no space is needed after them
abbrev pub joined_behind : Bool → List Token → Bool
joined_behind joined [] = joined
joined_behind joined (token ∷ tokens) = joined_behind (binds token) tokens

-- these tokens were added
pub record Adds (areas : List AreaRule) (tokens : List Token) (old new : TokenText) : Type 0 where
  pub text : new.text ≡ old.text ++ added areas old.joined tokens
  pub joined : new.joined ≡ joined_behind old.joined tokens

-- a label, if there is one
abbrev pub label_tokens : Option ℕ → List Token
label_tokens None = []
label_tokens (Some label) = Label label ∷ []
