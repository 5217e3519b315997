use Rattle.std.proofs.Common.{◌≡◌, length}
use Rattle.test_heap.proofs.dice.Dice.items.Given as goal

abbrev pub invariant-loop : goal.invariant-loop
invariant-loop l = length l.items ≡ l.counter
