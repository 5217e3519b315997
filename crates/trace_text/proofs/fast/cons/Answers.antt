use Rattle.std.proofs.Common.{◌++◌, codes}
use Rattle.trace_text.proofs.FastLines.{cons_line}
use Rattle.trace_text.proofs.fast.cons.Goals as goal

pub returns : goal.returns
returns c = let w = c.in_ok-to in rw c.set.ensures (cons_line c.args.space.now c.args.areas.now (codes "cons" ++ c.args.after_four.now) w.rest.now w.to w.area w.car w.cdr c.requires.registers w.ensures)
