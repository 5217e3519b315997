use Rattle.std.proofs.Common.{◌≡◌, ◌<◌, length, rules}
use Rattle.world_text.specs.declared.reading.reader.Section.TheVariants.{Objects as AtObjects}
use Rattle.world_text.proofs.reading_laws.FastLaws.{cons_fed}
use Rattle.world_text.proofs.reading.fast.cons_before_feed.Goals as goal

pub returns-in-Ok-clause-found : goal.returns-in-Ok-clause-found
returns-in-Ok-clause-found c =
    let w = c.in_ok-area in
    let part : c.args.place.now.part ≡ AtObjects = search rules in
    let some : 0 < length w.rest.now = search rules in
    (cons_fed c.args.place.now c.add_cons.new.place c.args.text.now w.area w.car w.cdr w.rest.now c.in-Ok.field-0 part w.ensures.value some c.if-rest-ne10.false c.in-Ok.ensures.judged).0

pub returns-in-Ok-clause-judged : goal.returns-in-Ok-clause-judged
returns-in-Ok-clause-judged c =
    let w = c.in_ok-area in
    let part : c.args.place.now.part ≡ AtObjects = search rules in
    let some : 0 < length w.rest.now = search rules in
    (cons_fed c.args.place.now c.add_cons.new.place c.args.text.now w.area w.car w.cdr w.rest.now c.in-Ok.field-0 part w.ensures.value some c.if-rest-ne10.false c.in-Ok.ensures.judged).1

pub returns-in-Ok-clause-place : goal.returns-in-Ok-clause-place
returns-in-Ok-clause-place c =
    let w = c.in_ok-area in
    let part : c.args.place.now.part ≡ AtObjects = search rules in
    let some : 0 < length w.rest.now = search rules in
    (part, (cons_fed c.args.place.now c.add_cons.new.place c.args.text.now w.area w.car w.cdr w.rest.now c.in-Ok.field-0 part w.ensures.value some c.if-rest-ne10.false c.in-Ok.ensures.judged).2)
