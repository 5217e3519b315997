use Rattle.std.proofs.Common.{length, sym, ap, ◌∙◌, arith}
use Rattle.std.proofs.lemmas.List.{length-take-le, take_all}
use Rattle.replay_run.proofs.SessionLines.{fed_long}
use Rattle.replay_run.proofs.session.front_of.Goals as goal

pub returns-then-text-gt-LONGEST_LINE-clause-size : goal.returns-then-text-gt-LONGEST_LINE-clause-size
returns-then-text-gt-LONGEST_LINE-clause-size c = sym (ap length (fed_long c.args.text.now (omega (arith, c.if-text-gt-LONGEST_LINE.true))) ∙ length-take-le 32769 c.args.text.now (omega (arith, c.if-text-gt-LONGEST_LINE.true)))

pub returns-then-text-gt-LONGEST_LINE-clause-at_most : goal.returns-then-text-gt-LONGEST_LINE-clause-at_most
returns-then-text-gt-LONGEST_LINE-clause-at_most c = omega (arith, length-take-le 32769 c.args.text.now (omega (arith, c.if-text-gt-LONGEST_LINE.true)))

pub returns-clause-first : goal.returns-clause-first
returns-clause-first c = sym (take_all 32769 c.args.text.now (omega (arith, c.if-text-gt-LONGEST_LINE.false)))
