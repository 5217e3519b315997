use Rattle.std.proofs.Common.{◌≡◌, ◌++◌, length, take, drop, sym, ap, ◌∙◌}
use Rattle.std.proofs.lemmas.List.{take-append-drop}
use Rattle.world_text.proofs.reading_laws.ValueLaws.{same_bytes}
use Rattle.world_text.proofs.reading.leading.behind.Goals as goal

pub returns : goal.returns
returns c =
    let front = c.args.front.now in
    let text = c.args.text.now in
    let same : take (length c.args.front.now) c.args.text.now ≡ c.args.front.now = same_bytes _ _ c.in_ok-rest.ensures.cases.0 in
    sym (take-append-drop (length front) text) ∙ ap (λ xs. xs ++ drop (length front) text) same ∙ ap (λ xs. front ++ xs) (sym c.in_ok-rest.ensures.cases.1)
