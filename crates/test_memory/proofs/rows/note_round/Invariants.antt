use Rattle.std.proofs.Common.{◌≡◌, length}
use Rattle.test_memory.proofs.rows.note_round.Given as goal

abbrev pub invariant-loop-turn : goal.invariant-loop-turn
invariant-loop-turn g l = length l.table.sets ≡ 1024
