use Rattle.std.proofs.Common.{◌≡◌, ◌++◌, take, map}
use Rattle.world_text.specs.writing.Spelling.{spaced, value_text}
use Rattle.world_text.proofs.writing.text.push_values.Given as goal

abbrev pub invariant-loop-value : goal.invariant-loop-value
invariant-loop-value l = l.text ≡ l.fn.text ++ spaced (map value_text (take l.value-index l.values))
