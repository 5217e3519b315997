use Rattle.std.proofs.Common.{◌≡◌, ◌++◌, take}
use Rattle.why_held.specs.WhyText.{hop_lines}
use Rattle.why_held.proofs.telling.push_hops.Given as goal

abbrev pub invariant-loop-hop : goal.invariant-loop-hop
invariant-loop-hop l = l.text ≡ l.fn.text ++ hop_lines (take l.hop-index l.hops)
