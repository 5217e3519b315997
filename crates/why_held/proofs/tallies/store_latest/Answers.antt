use Rattle.why_held.proofs.TallyRows.{stored_all}
use Rattle.why_held.proofs.tallies.store_latest.Goals as goal

pub returns-in_ok-insert-clause-unchanged : goal.returns-in_ok-insert-clause-unchanged
returns-in_ok-insert-clause-unchanged c = stored_all c.in-Some.latest c.args.tallies.now c.insert.new.self c.in-Some.is c.in_ok-insert.ensures.updates
