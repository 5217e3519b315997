use Rattle.std.proofs.Common.{◌≡◌, length}
use Rattle.bench_parts.proofs.places.run.Given as goal

abbrev pub invariant-loop : goal.invariant-loop
invariant-loop g l = length l.map.places ≡ l.pages
