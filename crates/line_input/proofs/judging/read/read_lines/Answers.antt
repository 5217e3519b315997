use Rattle.line_input.proofs.ReaderInvariant.{was_read_nothing}
use Rattle.line_input.proofs.judging.read.read_lines.Goals as goal

pub returns-in-Err-clause-judged : goal.returns-in-Err-clause-judged
returns-in-Err-clause-judged g c = was_read_nothing g.J.LineJudge.rules c.args.judge (g.S.Source.left c.args.source.now)
