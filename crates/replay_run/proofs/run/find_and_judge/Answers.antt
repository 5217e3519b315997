use Rattle.std.proofs.Common.{inl, inr, refl}
use Rattle.replay_run.proofs.NextLines.{next_accepted, next_missing, next_refused}
use Rattle.replay_run.proofs.run.find_and_judge.Goals as goal

pub returns-in-Ok-None-clause-judged : goal.returns-in-Ok-None-clause-judged
returns-in-Ok-None-clause-judged g c =
    let none = (rw c.in-Ok-None.field-0-is at c.in-Ok-None.ensures.value).0 in
    (none.0, none.1, refl)

pub returns-in-Err-clause-judged : goal.returns-in-Err-clause-judged
returns-in-Err-clause-judged g c =
    inl (next_missing c.in-Err.halt refl c.bytes_to_decide-enough.ensures.value c.stop.ensures.value c.in-Err.ensures.value)

pub returns-in-Ok-clause-judged : goal.returns-in-Ok-clause-judged
returns-in-Ok-clause-judged g c =
    next_accepted c.in-Ok-Some.found refl c.bytes_to_decide-enough.ensures.value (rw c.in-Ok-Some.field-0-is at c.in-Ok-Some.ensures.value).0 (rw c.bytes.ensures.value at c.in-Ok.ensures.judged)

pub returns-in-Err-judge_line-clause-judged : goal.returns-in-Err-judge_line-clause-judged
returns-in-Err-judge_line-clause-judged g c =
    inr (next_refused c.in-Err-judge_line.fault c.in-Ok-Some.found refl c.bytes_to_decide-enough.ensures.value (rw c.in-Ok-Some.field-0-is at c.in-Ok-Some.ensures.value).0
    (rw c.bytes.ensures.value at c.in-Err-judge_line.ensures.judged) c.in-Err-judge_line.ensures.unchanged c.run_error_of.ensures.value c.in-Err-judge_line.ensures.early)
