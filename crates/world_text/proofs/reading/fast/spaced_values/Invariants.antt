use Rattle.std.proofs.Common.{◌≡◌, ◌≤◌, ◌++◌, length, map}
use Rattle.std.specs.List.{All}
use Rattle.world_text.specs.writing.Spelling.{IsWritten, spaced, value_text}
use Rattle.world_text.proofs.reading.fast.spaced_values.Given as goal

abbrev pub invariant-loop-rest : goal.invariant-loop-rest
invariant-loop-rest l = record {
  read : l.text ≡ spaced (map value_text l.values) ++ l.rest;
  written : All IsWritten l.values;
  few : length l.values ≤ l.most;
}

abbrev pub decreases-loop-rest : goal.decreases-loop-rest
decreases-loop-rest l = length l.rest
