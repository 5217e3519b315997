use Rattle.std.proofs.Common.{◌≡◌, take, bytes_eq, sym, ap, ◌∙◌, arith}
use Rattle.std.proofs.lemmas.Grind.{common_steps}
use Rattle.world_text.proofs.reading_laws.ValueLaws.{eq_bytes}
use Rattle.world_text.proofs.reading.numbers.is_named_from.Goals as goal

pub returns : goal.returns
returns c =
    let name : take c.loop-at.at c.args.name.now ≡ c.args.name.now = grind (arith, common_steps) in
    let word : take c.loop-at.at c.args.word.now ≡ c.args.word.now = grind (arith, common_steps) in
    let same : c.args.word.now ≡ c.args.name.now = sym (sym name ∙ c.loop-at.invariant ∙ word) in
    sym (ap (λ bytes. bytes_eq c.args.name.now bytes) same ∙ eq_bytes c.args.name.now)
