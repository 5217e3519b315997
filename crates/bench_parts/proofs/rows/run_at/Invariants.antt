use Rattle.std.proofs.Common.{◌≡◌, length}
use Rattle.bench_parts.proofs.rows.run_at.Given as goal

abbrev pub invariant-loop : goal.invariant-loop
invariant-loop g l = length l.table.sets ≡ l.pages
