use Rattle.std.proofs.Common.{◌≡◌, ◌≤◌, ◌*◌, take, length}
use Rattle.std.specs.List.{flat_map, range_with_len}
use Rattle.inside_text.specs.Words.{level_text}
use Rattle.inside_text.proofs.line.levels_text.Given as goal

abbrev pub invariant-loop-place : goal.invariant-loop-place
invariant-loop-place l = (l.text ≡ flat_map (level_text l.set.0) (take l.place (range_with_len 1 6))) × (length l.text ≤ 2 * l.place)
