use Rattle.std.proofs.Common.{refl, arith}
use Rattle.outer_ports.proofs.Copies.{copied-front}
use Rattle.outer_ports.proofs.Tallies.{counted-same}
use Rattle.outer_ports.proofs.sinks.sink_tally.SinkTally.go_on.Goals as goal

pub returns-clause-value : goal.returns-clause-value
returns-clause-value c =
    let s = c.self.inside in
    rw (← c.self.view_is) (counted-same refl (copied-front 11 s.len c.min-count.result s.begun c.copy_at.new.room c.args.bytes.now c.self.invariant (omega (arith, c.self.invariant, c.self.told)) c.min-count.ensures c.copy_at.ensures))
