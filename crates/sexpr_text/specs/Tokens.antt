-- The tokens of a text.
use Rattle.std.specs.Prelude.{ℕ, ◌-◌, ◌^◌, List, length, take, drop, ◌==◌, ◌||◌, not, if◌then◌else◌, bytes_eq, codes, slice_index, Option, Some, None}
use Rattle.lisp_graph.specs.Name.{is_name}
use Rattle.lisp_graph.specs.declared.object.Value.{Value}
use Rattle.lisp_graph.specs.declared.object.Value.TheVariants.{Fix, Nil, Ref}
use Rattle.lisp_graph.specs.declared.world.AreaRule.{AreaRule}
use Rattle.world_text.specs.Numbers.{area_of, number_in, value_of}
use Rattle.sexpr_text.specs.declared.bracket.Bracket.{Bracket}
use Rattle.sexpr_text.specs.declared.token.Token.{Token}
use Rattle.sexpr_text.specs.declared.token.Token.TheVariants.{Root, EndSexpr, Dot, Atom, Label, Again, Open, Close, Unknown}
use Rattle.sexpr_text.specs.Brackets.{closed_by, opened_by}

-- the number of a label, from its spelling without the last byte: `#` and a number
abbrev pub label_in : List ℕ → Option ℕ
label_in front =
    if length front == 0 || not (slice_index front 0 == 35) then None
    else number_in 0 (2 ^ 32 - 1) (drop 1 front)

-- `nil` or an integer
abbrev pub atom_of : Option Value → Token
atom_of (Some (Fix number)) = Atom (Fix number)
atom_of (Some Nil) = Atom Nil
atom_of (Some (Ref number)) = Unknown
atom_of None = Unknown

-- the token without a bracket, `=` or `#` at its end
abbrev pub plain_token : List ℕ → Token
plain_token piece =
    if bytes_eq piece (codes "root") then Root
    else if bytes_eq piece (codes "end-sexpr") then EndSexpr
    else if bytes_eq piece (codes ".") then Dot
    else atom_of (value_of piece)

-- a name followed by an opening bracket
abbrev pub open_token : List AreaRule → List ℕ → Bracket → Token
open_token areas front bracket = if is_name front then Open (area_of areas front) bracket else Unknown

-- a closing bracket is a piece by itself
abbrev pub close_token : List ℕ → Bracket → Token
close_token front bracket = if length front == 0 then Close bracket else Unknown

-- `#k=` and `#k#`
abbrev pub label_token : (ℕ → Token) → Option ℕ → Token
label_token token None = Unknown
label_token token (Some label) = token label

-- a token that doesn't end in a bracket
abbrev pub token_by_mark : List ℕ → List ℕ → ℕ → Token
token_by_mark piece front last =
    if last == 61 then label_token Label (label_in front)
    else if last == 35 then label_token Again (label_in front)
    else plain_token piece

-- the token whose last byte opens the first bracket or closes the second one, if it does
abbrev pub token_by_bracket : List AreaRule → List ℕ → List ℕ → ℕ → Option Bracket → Option Bracket → Token
token_by_bracket areas piece front last (Some bracket) closed = open_token areas front bracket
token_by_bracket areas piece front last None (Some bracket) = close_token front bracket
token_by_bracket areas piece front last None None = token_by_mark piece front last

-- The token that a piece spells, if areas have these names.
abbrev pub token_of : List AreaRule → List ℕ → Token
token_of areas piece =
    let front = take (length piece - 1) piece in
    let last = slice_index piece (length piece - 1) in
    token_by_bracket areas piece front last (opened_by last) (closed_by last)
