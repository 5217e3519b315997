use Rattle.std.proofs.Common.{◌∙◌}
use Rattle.world_text.proofs.writing_laws.Walks.{is_cons, visit_same}
use Rattle.world_text.proofs.writing.dumped.dumped_cons.Goals as goal

pub visit-requires-2-clause-shows : goal.visit-requires-2-clause-shows
visit-requires-2-clause-shows g c = rw c.visit.ensures.unchanged c.requires.shows.1

pub returns-clause-value : goal.returns-clause-value
returns-clause-value g c =
    let G = g.W.Walk.graph c.args.walk.now in
    is_cons G c.args.key c.args.visits.now c.visit.new.visits c.visit-2.new.visits c.args.cons c.in_ok-car.car c.in_ok-cdr.cdr c.requires.visits c.requires.pair c.requires.agrees c.requires.shows
    c.in_ok-car.ensures.value (visit_same c.visit.ensures.unchanged c.in_ok-cdr.ensures.value)

pub returns-clause-done : goal.returns-clause-done
returns-clause-done g c = c.in_ok-cdr.ensures.value.same ∙ c.in_ok-car.ensures.value.same
