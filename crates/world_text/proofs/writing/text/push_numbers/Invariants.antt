use Rattle.std.proofs.Common.{◌≡◌, ◌++◌, take, map, decimal}
use Rattle.world_text.specs.writing.Spelling.{spaced}
use Rattle.world_text.proofs.writing.text.push_numbers.Given as goal

abbrev pub invariant-loop-number : goal.invariant-loop-number
invariant-loop-number l = l.text ≡ l.fn.text ++ spaced (map decimal (take l.number-index l.numbers))
