use Rattle.std.proofs.Common.{◌≡◌, ◌+◌, ◌<◌, ℕ}
use Rattle.heap_load.specs.Places.{cell_place, place_at}
use Rattle.heap_load.proofs.places.put_cells.Given as goal

abbrev pub invariant-loop-i : goal.invariant-loop-i
invariant-loop-i l = record {
  cells : (k : ℕ) → k < l.i → place_at l.places (l.number + k) ≡ cell_place (l.from + k);
  before : (k : ℕ) → k < l.number → place_at l.places k ≡ place_at l.fn.places k;
}
