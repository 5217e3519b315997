use Rattle.std.proofs.Common.{◌≡◌, ◌≤◌, ℕ, ap, subst, length, arith, codes, decimal}
use Rattle.line_input.specs.Statuses.{exhausted_words, reason_words}
use Rattle.replay_run.proofs.ErrorLines.{error_short, exhausted_short, missing_short}
use Rattle.replay_run.proofs.session.room.error_lines_are_short.Goals as goal

pub returns-in-Line : goal.returns-in-Line
returns-in-Line c = rw c.in-Line.is (error_short c.in-Line.line (reason_words c.in-Line.reason) c.numbers_are_short.ensures (omega (arith, c.reasons_are_short.ensures)))

pub returns-in-TooSmall : goal.returns-in-TooSmall
returns-in-TooSmall c = rw c.in-TooSmall.is (error_short c.in-TooSmall.line (codes "space too small") c.numbers_are_short-in-TooSmall.ensures (omega arith))

pub returns-in-Exhausted : goal.returns-in-Exhausted
returns-in-Exhausted c =
    let short = λ (n m : ℕ) (same : n ≡ m) (few : length (decimal n) ≤ 20). subst (λ k. length (decimal k) ≤ 20) same few in
    rw c.in-Exhausted.is (error_short c.in-Exhausted.line (exhausted_words c.in-Exhausted.area c.in-Exhausted.charged c.in-Exhausted.wanted c.in-Exhausted.quota) c.numbers_are_short-in-Exhausted.ensures
    (exhausted_short c.in-Exhausted.area c.in-Exhausted.charged c.in-Exhausted.wanted c.in-Exhausted.quota (omega (arith, c.as_bytes-area.ensures.at_most, ap length c.as_bytes-area.ensures.value))
    (short _ _ c.from.ensures c.numbers_are_short-in-Exhausted-2.ensures) (short _ _ c.from-in-Exhausted.ensures c.numbers_are_short-in-Exhausted-3.ensures) (short _ _ c.from-in-Exhausted-2.ensures c.numbers_are_short-in-Exhausted-4.ensures)))

pub returns-in-NoObject : goal.returns-in-NoObject
returns-in-NoObject c = rw c.in-NoObject.is (missing_short c.in-NoObject.object (subst (λ n. length (decimal n) ≤ 20) c.from-in-NoObject.ensures c.numbers_are_short-in-NoObject.ensures))
