use Rattle.line_input.proofs.LineFeeds.{passed}
use Rattle.line_input.proofs.lines.reader.LineReader.pass.Goals as goal

pub returns-clause-bytes : goal.returns-clause-bytes
returns-clause-bytes c = rw (← c.self.view_is) (passed c.self.inside.buffer.items c.self.inside.start c.self.inside.end c.args.size c.self.invariant.0 (rw (← c.self.view_is) at c.requires))
