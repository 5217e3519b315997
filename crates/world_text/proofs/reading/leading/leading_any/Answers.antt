use Rattle.std.proofs.Common.{◌≡◌, ◌++◌, get_or, drop, decimal, sym, ap, ◌∙◌, arith}
use Rattle.std.proofs.lemmas.List.{take_rest}
use Rattle.world_text.proofs.TextPrefixes.{digits_lead}
use Rattle.world_text.proofs.reading.leading.leading_any.Goals as goal
use Rattle.world_text.proofs.reading.leading.leading_any.Goals.{else-count-gt1-via-then-count-gt1+else-text-eq48, else-count-gt1-via-else-count-gt1}

pub returns : goal.returns
returns c =
    let e = c.leading_digits-value.ensures in
    let first : get_or c.args.text.now 0 0 ≡ 48 → c.leading_digits-value.result.1 ≡ 1 =
    λ zero. elim c.else-count-gt1.branch [ else-count-gt1-via-then-count-gt1+else-text-eq48 w ↦ omega arith | else-count-gt1-via-else-count-gt1 w ↦ omega arith ] in
    let lead = digits_lead c.args.text.now c.leading_digits-value.result.1 (omega arith) e.in_range e.sound first (omega (arith, e.value)) in
    rw (take_rest c.args.text.now c.leading_digits-value.result.1) (lead ∙ ap (λ v. decimal v ++ drop c.leading_digits-value.result.1 c.args.text.now) (sym e.value))
