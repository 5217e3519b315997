use Rattle.std.proofs.Common.{sym, ◌∙◌}
use Rattle.trace_text.proofs.FastLines.{whole_line}
use Rattle.trace_text.proofs.read.is_frequent.Goals as goal

pub returns-in-Some : goal.returns-in-Some
returns-in-Some c = λ same. whole_line c.args.space.now c.args.areas.now c.args.line.now c.read_fast.new.command c.in-Some.rest.now c.in-Some.ensures (sym c.is_empty.ensures ∙ same)
