use Rattle.std.proofs.Common.{sym, ◌∙◌}
use Rattle.world_text.proofs.writing_laws.Visits.{known_more}
use Rattle.why_held.proofs.ReachedKeys.{meets_known, meets_new}
use Rattle.why_held.proofs.reach.meet.Goals as goal

pub returns-then-contains-clause-ok : goal.returns-then-contains-clause-ok
returns-then-contains-clause-ok c = meets_known c.args.cons c.args.key c.args.met.now (sym c.contains.ensures ∙ c.if-contains.true)

pub returns-clause-ok : goal.returns-clause-ok
returns-clause-ok c = meets_new c.args.cons c.args.key c.args.met.now c.add.new.self (sym c.contains.ensures ∙ c.if-contains.false) c.in_ok-add.ensures.after

pub returns-clause-stays_known : goal.returns-clause-stays_known
returns-clause-stays_known c = λ graph shows known. known_more graph c.args.met.now c.add.new.self c.args.key c.args.cons known shows c.in_ok-add.ensures.after c.in_ok-add.ensures.cells
