-- How long the text of tokens is.
use Rattle.std.proofs.Common.{ℕ, suc, ◌+◌, ◌*◌, ◌<◌, ◌≤◌, ◌^◌, pos, negsuc, List, [], ◌∷◌, ◌++◌, length, Bool, true, false, Some, None, arith, decimal, length-append}
use Rattle.std.specs.Prelude.{◌||◌, if◌then◌else◌}
use Rattle.std.specs.List.{All}
use Rattle.std.proofs.lemmas.Fmt.{length-decimal-le}
use Rattle.std.proofs.lemmas.List.Elements.{All-head, All-tail}
use Rattle.file_modes.specs.lisp_graph.declared.object.Value.TheVariants.{Fix, Nil, Ref}
use Rattle.file_modes.specs.lisp_graph.declared.world.AreaRule.{AreaRule}
use Rattle.file_modes.specs.world_text.Limits.{AreNamed}
use Rattle.file_modes.specs.world_text.Spelling.{name_of}
use Rattle.file_modes.specs.sexpr_text.declared.token.Token.{Token}
use Rattle.file_modes.specs.sexpr_text.declared.token.Token.TheVariants.{Root, EndSexpr, Dot, Atom, Label, Again, Open, Close, Unknown, End}
use Rattle.file_modes.specs.sexpr_text.Brackets.{opening}
use Rattle.file_modes.specs.sexpr_print.Spelling.{binds, gap, is_close, lines_text, token_text, tokens_text}
use Rattle.sexpr_laws.specs.Spellable.{AreSpellable, CanSpell}
use Rattle.sexpr_laws.specs.ReadBack.{in_order}
use Rattle.sexpr_laws.proofs.TokenPieces.{name_good}

number_short : (number : ℕ) → number < 2 ^ 32 → length (decimal number) ≤ 10
number_short number small = length-decimal-le 10 number (omega arith) (omega arith) (omega arith)

token_short : (areas : List AreaRule) (token : Token) → AreNamed areas → CanSpell areas token → length (token_text areas token) ≤ 31
token_short areas Root named can = omega arith
token_short areas EndSexpr named can = omega arith
token_short areas Dot named can = omega arith
token_short areas (Atom (Fix (pos number))) named can = let short = number_short number (omega arith) in omega arith
token_short areas (Atom (Fix (negsuc number))) named can = let short = number_short (suc number) (omega arith) in omega arith
token_short areas (Atom Nil) named can = omega arith
token_short areas (Atom (Ref number)) named can = absurd can
token_short areas (Label label) named can = omega (arith, number_short label can, length-append (decimal label) (61 ∷ []))
token_short areas (Again label) named can = omega (arith, number_short label can, length-append (decimal label) (35 ∷ []))
token_short areas (Open (Some area) bracket) named can =
    let name = name_good (name_of areas area) (named.names area can) in
    omega (arith, name.short, length-append (name_of areas area) (opening bracket ∷ []))
token_short areas (Open None bracket) named can = absurd can
token_short areas (Close bracket) named can = omega arith
token_short areas Unknown named can = absurd can
token_short areas End named can = absurd can

gap_short : (token : Token) (tokens : List Token) → length (gap token tokens) ≤ 1
gap_short token [] = omega arith
gap_short token (next ∷ tokens) = of_test (binds token || is_close next)
  where
    of_test : (bound : Bool) → length {A = ℕ} (if bound then [] else 32 ∷ []) ≤ 1
    of_test true = omega arith
    of_test false = omega arith

tokens_short : (areas : List AreaRule) (tokens : List Token) → AreNamed areas → AreSpellable areas tokens → length (tokens_text areas tokens) ≤ 32 * length tokens
tokens_short areas [] named can = omega arith
tokens_short areas (token ∷ tokens) named can =
    let here = token_short areas token named (All-head (CanSpell areas) token tokens can) in
    let rest = tokens_short areas tokens named (All-tail (CanSpell areas) token tokens can) in
    omega (arith, here, rest, gap_short token tokens, length-append (token_text areas token ++ gap token tokens) (tokens_text areas tokens), length-append (token_text areas token) (gap token tokens))

pub lines_short : (areas : List AreaRule) (lines : List (List Token)) → AreNamed areas → All (AreSpellable areas) lines → length (lines_text areas lines) ≤ 32 * length (in_order lines) + length lines
lines_short areas [] named can = omega arith
lines_short areas (tokens ∷ lines) named can =
    let here = tokens_short areas tokens named (All-head (AreSpellable areas) tokens lines can) in
    let rest = lines_short areas lines named (All-tail (AreSpellable areas) tokens lines can) in
    omega (
      arith,
      here,
      rest,
      length-append tokens (in_order lines),
      length-append (tokens_text areas tokens ++ 10 ∷ []) (lines_text areas lines),
      length-append (tokens_text areas tokens) (10 ∷ []),
    )
