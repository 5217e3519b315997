use Rattle.std.proofs.Common.{◌<◌, ◌≡◌, length}
use Rattle.std.specs.List.{All}
use Rattle.test_collect.proofs.making.items_from.Given as goal

abbrev pub invariant-loop-i : goal.invariant-loop-i
invariant-loop-i l = record {
  many : length l.items ≡ l.i;
  inside : All (λ item. item < 8) l.items;
}
