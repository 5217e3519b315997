use Rattle.std.proofs.Common.{◌++◌, codes}
use Rattle.trace_text.proofs.FastLines.{size_line}
use Rattle.trace_text.proofs.fast_blocks.size.Goals as goal

pub returns : goal.returns
returns c = λ areas.
    let w = c.in_ok-of in
    let e = w.ensures in
    rw c.set.ensures (size_line c.args.space.now areas (codes "size" ++ c.args.after_four.now) w.rest.now w.of c.requires e.0 e.1)
