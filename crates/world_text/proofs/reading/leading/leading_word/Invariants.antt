use Rattle.std.proofs.Common.{◌≡◌, ◌≤◌, take, length, true}
use Rattle.std.specs.List.{list_all}
use Rattle.world_text.specs.reading.Words.{is_graphic}
use Rattle.world_text.proofs.reading.leading.leading_word.Given as goal

abbrev pub invariant-loop-at : goal.invariant-loop-at
invariant-loop-at l = (l.at ≤ length l.text) × (list_all is_graphic (take l.at l.text) ≡ true)
