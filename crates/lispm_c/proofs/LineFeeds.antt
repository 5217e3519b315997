-- Whether bytes have a line feed.
use Rattle.std.proofs.Common.{◌≡◌, ◌∙◌, ◌||◌, ◌&&◌, ◌==◌, ℕ, Bool, List, [], ◌∷◌, ap, false, not, refl, true}
use Rattle.std.specs.List.{list_any}
use Rattle.line_input.specs.Reader.{no_feed}

or_not : (a b : Bool) → a || not b ≡ not (not a && b)
or_not true b = refl
or_not false b = refl

-- some byte is a line feed if and only if the bytes aren't free of line feeds
pub any_feed : (xs : List ℕ) → list_any (λ x. x == 10) xs ≡ not (no_feed xs)
any_feed [] = refl
any_feed (x ∷ xs) = ap (λ b. (x == 10) || b) (any_feed xs) ∙ or_not (x == 10) (no_feed xs)
