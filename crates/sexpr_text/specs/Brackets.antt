-- Brackets, and the bytes that write them.
use Rattle.std.specs.Prelude.{ℕ, ◌==◌, Bool, true, false, if◌then◌else◌, Option, Some, None}
use Rattle.sexpr_text.specs.declared.bracket.Bracket.{Bracket}
use Rattle.sexpr_text.specs.declared.bracket.Bracket.TheVariants.{Round, Square, Curly}

-- the byte that opens a bracket
abbrev pub opening : Bracket → ℕ
opening Round = 40
opening Square = 91
opening Curly = 123

-- the byte that closes it
abbrev pub closing : Bracket → ℕ
closing Round = 41
closing Square = 93
closing Curly = 125

-- the bracket that a byte opens
abbrev pub opened_by : ℕ → Option Bracket
opened_by byte = if byte == 40 then Some Round else if byte == 91 then Some Square else if byte == 123 then Some Curly else None

-- the bracket that a byte closes
abbrev pub closed_by : ℕ → Option Bracket
closed_by byte = if byte == 41 then Some Round else if byte == 93 then Some Square else if byte == 125 then Some Curly else None

abbrev pub same_bracket : Bracket → Bracket → Bool
same_bracket Round Round = true
same_bracket Square Square = true
same_bracket Curly Curly = true
same_bracket _ _ = false
