use Rattle.std.proofs.Common.{sym, ◌∙◌}
use Rattle.world_text.proofs.writing_laws.Walks.{cons_before, cons_now}
use Rattle.world_text.proofs.writing.visit.cons_number.Goals as goal

pub returns-in-Some-clause-value : goal.returns-in-Some-clause-value
returns-in-Some-clause-value g c = cons_before (g.W.Walk.graph c.args.walk.now) c.args.visits.now c.args.key c.in-Some.number c.requires.visits (sym c.number_of.ensures.value ∙ c.in-Some.is)

pub returns-clause-value : goal.returns-clause-value
returns-clause-value g c =
    rw c.len-number.ensures.value (cons_now (g.W.Walk.graph c.args.walk.now) c.args.visits.now c.chain.new.visits c.args.key c.in_default.ensures.none c.in_ok-chain.ensures.ok c.in_ok-chain.ensures.sound c.in_ok-chain.ensures.done)
