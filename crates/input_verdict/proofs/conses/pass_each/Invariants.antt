use Rattle.std.proofs.Common.{◌≡◌, ◌≤◌, ℕ, length}
use Rattle.input_verdict.specs.Conses.{Passed}
use Rattle.input_verdict.specs.Places.{IsPlace}
use Rattle.input_verdict.proofs.conses.pass_each.Given as goal

abbrev pub invariant-loop-cons : goal.invariant-loop-cons
invariant-loop-cons l = record {
  passed : (n : ℕ) × Passed n l.fn.place l.place l.fn.reader l.reader;
  place : IsPlace l.place;
  ended : l.reader.ended ≡ l.fn.reader.ended;
  never_falls : l.fn.place.bytes ≤ l.place.bytes;
}

abbrev pub decreases-loop-cons : goal.decreases-loop-cons
decreases-loop-cons l = length l.reader.bytes
