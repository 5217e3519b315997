use Rattle.std.proofs.Common.{◌≡◌, ◌-◌, ◌^◌, min, take}
use Rattle.world_text.specs.reading.Header.{room}
use Rattle.world_text.proofs.reading.header_words.room.Given as goal

abbrev pub invariant-loop-rule : goal.invariant-loop-rule
invariant-loop-rule l = l.wanted ≡ min (room l.levels (take l.rule-index l.areas)) (2 ^ 64 - 1)
