use Rattle.std.proofs.Common.{◌++◌, codes}
use Rattle.trace_text.proofs.FastLines.{put_line}
use Rattle.trace_text.proofs.fast_blocks.put.Goals as goal

pub returns : goal.returns
returns c = λ areas.
    let w = c.in_ok-target in
    let e = w.ensures in
    rw c.set.ensures (put_line c.args.space.now areas (codes "put " ++ c.args.words.now) w.rest.now w.target w.index w.from c.requires e.0 e.1 e.2 e.3)
