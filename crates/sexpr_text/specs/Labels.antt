-- Labels and the objects that they name.
use Rattle.std.specs.Prelude.{ℕ, List, Option, nat_eq}
use Rattle.std.specs.Map.{lookup}

-- the name of a label's object
abbrev pub name_of : List (ℕ × ℕ) → ℕ → Option ℕ
name_of labels label = lookup (nat_eq label) labels
