use Rattle.std.proofs.Common.{◌∙◌}
use Rattle.trace_text.proofs.FastLines.{pair_line}
use Rattle.trace_text.proofs.fast.pair.Goals as goal

pub returns : goal.returns
returns c = λ areas.
    let w = c.in_ok-first in
    let e = w.ensures in
    rw (c.set.ensures ∙ c.with.ensures.value)
    (pair_line c.args.space.now areas c.args.text.now c.in_ok-kind.words.now w.rest.now c.in_ok-kind.kind w.first w.second c.requires.at_most e.0 e.1 c.in_ok-kind.ensures e.2)
