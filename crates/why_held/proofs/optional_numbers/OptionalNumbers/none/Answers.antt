use Rattle.std.proofs.Common.{◌≡◌, ◌∙◌, ℕ, zero, suc, List, ◌∷◌, Option, None, refl, ap, map, replicate}
use Rattle.why_held.specs.OptionalNumbers.{entry_number}
use Rattle.why_held.proofs.Levels.{padded}
use Rattle.why_held.proofs.optional_numbers.OptionalNumbers.none.Goals as goal

no_numbers : (count : ℕ) → map entry_number (replicate count 0) ≡ replicate count None
no_numbers zero = refl
no_numbers (suc count) = ap (λ (l : List (Option ℕ)). None ∷ l) (no_numbers count)

pub returns : goal.returns
returns c =
    ap (map entry_number) (padded c.args.count c.args.count 0 c.new-entries.result c.pad.new.self c.in_ok-pad.ensures.ok c.new-entries.ensures refl)
    ∙ no_numbers c.args.count
