use Rattle.std.proofs.Common.{◌++◌, codes}
use Rattle.trace_text.proofs.FastLines.{grow_line}
use Rattle.trace_text.proofs.fast_blocks.grow.Goals as goal

pub returns : goal.returns
returns c = λ areas.
    let w = c.in_ok-target in
    let e = w.ensures in
    rw c.set.ensures (grow_line c.args.space.now areas (codes "grow" ++ c.args.after_four.now) w.rest.now w.target w.length c.requires e.0 e.1 e.2)
