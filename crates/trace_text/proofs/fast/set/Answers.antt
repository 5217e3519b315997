use Rattle.std.proofs.Common.{◌++◌, codes}
use Rattle.trace_text.proofs.FastLines.{set_line}
use Rattle.trace_text.proofs.fast.set.Goals as goal

pub returns : goal.returns
returns c = λ areas. let w = c.in_ok-to in rw c.set.ensures (set_line c.args.space.now areas (codes "set " ++ c.args.words.now) w.rest.now w.to w.value c.requires w.ensures)
