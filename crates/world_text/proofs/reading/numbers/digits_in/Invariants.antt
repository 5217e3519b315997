use Rattle.std.proofs.Common.{◌≡◌, ◌<◌, ◌^◌, take, true}
use Rattle.world_text.specs.reading.Numbers.{are_digits, number_value}
use Rattle.world_text.proofs.reading.numbers.digits_in.Given as goal

abbrev pub invariant-loop-byte : goal.invariant-loop-byte
invariant-loop-byte l = record {
  digits : are_digits (take l.byte-index l.word) ≡ true;
  value : l.value ≡ number_value (take l.byte-index l.word);
  small : l.value < 10 ^ l.byte-index;
}
