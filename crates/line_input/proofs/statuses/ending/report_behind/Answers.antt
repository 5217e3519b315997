use Rattle.line_input.proofs.LastLine.{closed_behind}
use Rattle.line_input.proofs.statuses.ending.report_behind.Goals as goal

pub returns-in-Ok-clause-written : goal.returns-in-Ok-clause-written
returns-in-Ok-clause-written g c = closed_behind c.in-Ok.ensures.written.whole c.report.ensures.written
