-- A token is what its text spells.
use Rattle.std.proofs.Common.{◌≡◌, ℕ, ◌-◌, ◌<◌, ◌^◌, List, [], ◌∷◌, ◌++◌, length, take, Bool, false, Option, Some, None, refl, ap, ◌∙◌, arith, decimal}
use Rattle.std.specs.Prelude.{◌==◌, if◌then◌else◌, slice_index}
use Rattle.std.specs.Fmt.{signed_decimal}
use Rattle.std.proofs.lemmas.Bool.Decides.{nat_tests}
use Rattle.std.proofs.lemmas.List.{take_at}
use Rattle.file_modes.specs.lisp_graph.declared.object.Value.TheVariants.{Fix, Nil, Ref}
use Rattle.file_modes.specs.lisp_graph.declared.world.AreaRule.{AreaRule}
use Rattle.file_modes.specs.world_text.Numbers.{area_of}
use Rattle.file_modes.specs.world_text.Limits.{AreNamed}
use Rattle.file_modes.specs.world_text.Spelling.{name_of}
use Rattle.file_modes.proofs.world_text.reading_laws.NumberLaws.{number_reads}
use Rattle.file_modes.specs.sexpr_text.declared.bracket.Bracket.{Bracket}
use Rattle.file_modes.specs.sexpr_text.declared.bracket.Bracket.TheVariants.{Round, Square, Curly}
use Rattle.file_modes.specs.sexpr_text.declared.token.Token.{Token}
use Rattle.file_modes.specs.sexpr_text.declared.token.Token.TheVariants.{Root, EndSexpr, Dot, Atom, Label, Again, Open, Close, Unknown, End}
use Rattle.file_modes.specs.sexpr_text.Brackets.{closed_by, opened_by, opening}
use Rattle.file_modes.specs.sexpr_text.Tokens.{label_in, label_token, token_by_bracket, token_of}
use Rattle.file_modes.specs.sexpr_print.Spelling.{token_text}
use Rattle.sexpr_laws.specs.Spellable.{CanSpell}
use Rattle.file_modes.proofs.sexpr_text.Cuts.{byte_at, size_before}
use Rattle.file_modes.proofs.sexpr_text.Bytes.{opening_opens, signed_name}
use Rattle.file_modes.proofs.sexpr_text.IntegerPieces.{plain_integer, signed_some, token_plain}

-- By the last byte

-- a text that was put together of all but its last byte, and that byte
pub token_last : (areas : List AreaRule) (front : List ℕ) (last : ℕ) → token_of areas (front ++ last ∷ []) ≡ token_by_bracket areas (front ++ last ∷ []) front last (opened_by last) (closed_by last)
token_last areas front last =
    let piece : List ℕ = front ++ last ∷ [] in
    let by : List ℕ → ℕ → Token = λ first end. token_by_bracket areas piece first end (opened_by end) (closed_by end) in
    ap (λ n. by (take n piece) (slice_index piece n)) (size_before front last)
    ∙ ap (λ first. by first (slice_index piece (length front))) (take_at front (last ∷ []) (length front) refl)
    ∙ ap (by front) (byte_at front last [])

-- Labels

pub label_read : (label : ℕ) → label < 2 ^ 32 → label_in (35 ∷ decimal label) ≡ Some label
label_read label small =
    let some : (length (35 ∷ decimal label) == 0) ≡ false = grind (arith, nat_tests) in
    rw some (number_reads 0 (2 ^ 32 - 1) label (omega arith) (omega arith) (omega arith))

-- Every token

pub token_spelled : (areas : List AreaRule) (token : Token) → AreNamed areas → CanSpell areas token → token_of areas (token_text areas token) ≡ token
token_spelled areas Root named can = refl
token_spelled areas EndSexpr named can = refl
token_spelled areas Dot named can = refl
token_spelled areas (Atom (Fix number)) named can = token_plain areas (signed_decimal number) (signed_some number can) (signed_name number can) ∙ plain_integer number can
token_spelled areas (Atom Nil) named can = refl
token_spelled areas (Atom (Ref number)) named can = absurd can
token_spelled areas (Label label) named can = token_last areas (35 ∷ decimal label) 61 ∙ ap (label_token Label) (label_read label can)
token_spelled areas (Again label) named can = token_last areas (35 ∷ decimal label) 35 ∙ ap (label_token Again) (label_read label can)
token_spelled areas (Open (Some area) bracket) named can =
    let name : List ℕ = name_of areas area in
    let last : ℕ = opening bracket in
    token_last areas name last
    ∙ ap (λ (opened : Option Bracket). token_by_bracket areas (name ++ last ∷ []) name last opened (closed_by last)) (opening_opens bracket)
    ∙ ap (λ (b : Bool). if b then Open (area_of areas name) bracket else Unknown) (named.names area can)
    ∙ ap (λ (found : Option ℕ). Open found bracket) (named.found area can)
token_spelled areas (Open None bracket) named can = absurd can
token_spelled areas (Close Round) named can = refl
token_spelled areas (Close Square) named can = refl
token_spelled areas (Close Curly) named can = refl
token_spelled areas Unknown named can = absurd can
token_spelled areas End named can = absurd can
