use Rattle.world_text.proofs.reading_laws.FastLaws.{run_says}
use Rattle.world_text.proofs.reading.fast.run_at.Goals as goal

pub returns-in-Ok-Some-clause-judged : goal.returns-in-Ok-Some-clause-judged
returns-in-Ok-Some-clause-judged c =
    let w = c.in_ok-area in
    let read = rw c.in-Ok-Some.field-0-is at c.in-Ok-Some.ensures in
    let judged = rw c.as_slice.ensures at c.add_run.ensures.judged in
    rw (run_says c.args.place.now c.args.line.now w.area w.values.now c.in-Ok-Some.cars c.requires.place c.requires.second w.ensures.value read) judged
