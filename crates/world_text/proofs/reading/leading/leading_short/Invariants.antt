use Rattle.std.proofs.Common.{◌≡◌, ◌<◌, ◌^◌, take, true}
use Rattle.world_text.specs.reading.Numbers.{are_digits, number_value}
use Rattle.world_text.proofs.reading.leading.leading_short.Given as goal

abbrev pub invariant-loop-at : goal.invariant-loop-at
invariant-loop-at l = record {
  digits : are_digits (take l.at l.text) ≡ true;
  value : l.value ≡ number_value (take l.at l.text);
  small : l.value < 10 ^ l.at;
}
