use Rattle.std.proofs.Common.{◌≡◌, ◌++◌, ◌≤◌, ◌^◌, get_or, drop, decimal, sym, ap, ◌∙◌, arith}
use Rattle.std.proofs.Math.Nat.{pow-le-pow_right}
use Rattle.std.proofs.lemmas.List.{take_rest}
use Rattle.world_text.proofs.TextPrefixes.{digits_lead}
use Rattle.world_text.proofs.reading.leading.leading_short.Goals as goal
use Rattle.world_text.proofs.reading.leading.leading_short.Goals.{else-at-gt1-via-then-at-gt1+else-text-eq48, else-at-gt1-via-else-at-gt1}

pub returns-then-not-is_ascii_digit : goal.returns-then-not-is_ascii_digit
returns-then-not-is_ascii_digit c =
    let i = c.loop-at.invariant in
    let at = c.loop-at.at in
    let first : get_or c.args.text.now 0 0 ≡ 48 → at ≡ 1 =
    λ zero. elim c.else-at-gt1.branch [ else-at-gt1-via-then-at-gt1+else-text-eq48 w ↦ omega arith | else-at-gt1-via-else-at-gt1 w ↦ omega arith ] in
    let most : 10 ^ at ≤ 10 ^ 9 = pow-le-pow_right {n = 10} (omega arith) {i = at} {j = 9} (omega arith) in
    let lead = digits_lead c.args.text.now at (omega arith) (omega arith) i.digits first (omega (arith, i.value, i.small, most)) in
    rw (take_rest c.args.text.now at) (lead ∙ ap (λ v. decimal v ++ drop at c.args.text.now) (sym i.value))

pub overflow_mul-value : goal.overflow_mul-value
overflow_mul-value c =
    let most : 10 ^ c.loop-at.at ≤ 10 ^ 8 = pow-le-pow_right {n = 10} (omega arith) {i = c.loop-at.at} {j = 8} (omega arith) in
    omega (arith, c.loop-at.invariant.small, most)

pub overflow_add-value : goal.overflow_add-value
overflow_add-value c =
    let most : 10 ^ c.loop-at.at ≤ 10 ^ 8 = pow-le-pow_right {n = 10} (omega arith) {i = c.loop-at.at} {j = 8} (omega arith) in
    omega (arith, c.loop-at.invariant.small, most)
