use Rattle.world_text.proofs.reading_laws.FastLaws.{block_says}
use Rattle.world_text.proofs.reading.fast.block_at.Goals as goal

pub returns-in-Ok-Some-clause-judged : goal.returns-in-Ok-Some-clause-judged
returns-in-Ok-Some-clause-judged c =
    let w = c.in_ok-area in
    let read = rw c.in-Ok-Some.field-0-is at c.in-Ok-Some.ensures in
    let judged = rw c.len.ensures at c.add_object.ensures.judged in
    rw (block_says c.args.place.now c.args.line.now w.area w.code w.values.now c.in-Ok-Some.fields c.requires.place w.ensures.value read) judged
