use Rattle.std.proofs.Common.{◌≡◌, ◌++◌, ◌-◌, drop, length}
use Rattle.why_held.specs.WhyText.{level_lines}
use Rattle.why_held.proofs.telling.push_levels.Given as goal

abbrev pub invariant-loop-object : goal.invariant-loop-object
invariant-loop-object l = l.text ++ level_lines l.object (drop l.object l.depths) ≡ l.fn.text ++ level_lines 0 l.depths

abbrev pub decreases-loop-object : goal.decreases-loop-object
decreases-loop-object l = length l.depths - l.object
