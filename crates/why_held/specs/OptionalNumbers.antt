-- Numbers of which any may be absent.
use Rattle.std.specs.Prelude.{ℕ, zero, suc, Option, Some, None}

-- the number that an entry means: none at 0, or else one less than the entry
abbrev pub entry_number : ℕ → Option ℕ
entry_number zero = None
entry_number (suc number) = Some number
