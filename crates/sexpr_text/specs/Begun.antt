-- The beginning of an expression as the reader keeps it.
use Rattle.std.specs.Prelude.{ℕ, List}
use Rattle.sexpr_text.specs.declared.token.Piece.{Piece}
use Rattle.sexpr_text.specs.declared.begun.OpenExpression.{OpenExpression}
use Rattle.sexpr_text.specs.Reading.{Beginning}

-- with the labels and pieces after it
abbrev pub beginning : OpenExpression → List (ℕ × ℕ) → List Piece → Beginning
beginning begun labels rest = record { value = begun.value; inside = begun.inside; labels = labels; rest = rest }
