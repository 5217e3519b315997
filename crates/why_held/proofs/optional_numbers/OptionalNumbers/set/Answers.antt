use Rattle.std.proofs.Common.{◌≡◌, ◌∙◌, ◌+◌, ℕ, suc, List, Option, Some, ap, arith, map, set}
use Rattle.std.proofs.lemmas.List.{map-set}
use Rattle.why_held.specs.OptionalNumbers.{entry_number}
use Rattle.why_held.proofs.optional_numbers.OptionalNumbers.set.Goals as goal

pub returns : goal.returns
returns c =
    let entries = c.self.inside.entries in
    let place = c.args.place in
    let more : c.args.number + 1 ≡ suc c.args.number = omega arith in
    ap (map entry_number) c.set.ensures
    ∙ map-set entry_number entries place (c.args.number + 1)
    ∙ ap (λ (n : ℕ). set (map entry_number entries) place (entry_number n)) more
    ∙ ap (λ (l : List (Option ℕ)). set l place (Some c.args.number)) c.self.view_is
