use Rattle.std.proofs.Common.{◌++◌, codes}
use Rattle.trace_text.proofs.FastLines.{make_line}
use Rattle.trace_text.proofs.fast_blocks.make.Goals as goal

pub returns : goal.returns
returns c =
    let w = c.in_ok-to in
    rw c.set.ensures (make_line c.args.space.now c.args.areas.now (codes "make" ++ c.args.after_four.now) w.rest.now w.to w.area w.code w.length c.requires.registers w.ensures)
