use Rattle.input_verdict.specs.Places.{IsPlace}
use Rattle.test_replay.proofs.readers.letters.Given as goal

-- no line was refused so far
abbrev pub invariant-loop-line : goal.invariant-loop-line
invariant-loop-line l = IsPlace l.place
