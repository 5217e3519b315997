use Rattle.std.proofs.Common.{◌≡◌, take}
use Rattle.world_text.proofs.reading.numbers.is_named_from.Given as goal

abbrev pub invariant-loop-at : goal.invariant-loop-at
invariant-loop-at l = take l.at l.name ≡ take l.at l.word
