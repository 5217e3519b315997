use Rattle.std.proofs.Common.{◌≡◌, length, rules}
use Rattle.world_text.proofs.reading_laws.FastLaws.{cons_leads, line_says}
use Rattle.world_text.proofs.reading.fast.cons_at.Goals as goal

pub returns-clause-judged : goal.returns-clause-judged
returns-clause-judged c =
    let w = c.in_ok-area in
    let none : length w.rest.now ≡ 0 = search rules in
    rw (line_says c.args.place.now c.args.line.now w.rest.now _ (cons_leads c.args.place.now c.args.line.now w.area w.car w.cdr w.rest.now c.requires.place w.ensures.value) none) c.add_cons.ensures.judged
