use Rattle.std.proofs.Common.{◌++◌, codes}
use Rattle.trace_text.proofs.FastLines.{get_line}
use Rattle.trace_text.proofs.fast_blocks.get.Goals as goal

pub returns : goal.returns
returns c = λ areas.
    let w = c.in_ok-to in
    let e = w.ensures in
    rw c.set.ensures (get_line c.args.space.now areas (codes "get " ++ c.args.words.now) w.rest.now w.to w.from w.index c.requires e.0 e.1 e.2 e.3)
