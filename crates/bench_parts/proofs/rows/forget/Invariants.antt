use Rattle.std.proofs.Common.{◌≡◌, length}
use Rattle.bench_parts.proofs.rows.forget.Given as goal

abbrev pub invariant-loop-turn : goal.invariant-loop-turn
invariant-loop-turn l = length l.table.sets ≡ l.pages
