use Rattle.trace_text.proofs.ShortNumbers.{one_line, two_line}
use Rattle.trace_text.proofs.reply.short_number.Goals as goal

pub returns-then-number-lt10-clause-value : goal.returns-then-number-lt10-clause-value
returns-then-number-lt10-clause-value c = one_line _ c.args.number c.if-number-lt10.true

pub returns-clause-value : goal.returns-clause-value
returns-clause-value c = two_line _ c.args.number c.if-number-lt10.false c.requires
