use Rattle.std.proofs.Common.{◌≡◌, length}
use Rattle.std.specs.Prelude.{fold}
use Rattle.outer_ports.proofs.Tallies.{with_byte}
use Rattle.outer_ports.proofs.sinks.sink_tally.SinkTallySink.give.Given as goal

abbrev pub invariant-lines : goal.invariant-lines
invariant-lines l = fold with_byte l.self l.rest ≡ fold with_byte l.fn.self l.piece

abbrev pub decreases-lines : goal.decreases-lines
decreases-lines l = length l.rest
