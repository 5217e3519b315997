use Rattle.std.proofs.Common.{◌≡◌, ◌-◌, ◌^◌, true}
use Rattle.outer_ports.specs.Ports.{IsAtEnd}
use Rattle.input_verdict.specs.Places.{IsPlace}
use Rattle.replay_run.proofs.SessionInvariant.{Going}
use Rattle.replay_run.proofs.run.run_trace.Given as goal

abbrev pub invariant-loop-found : goal.invariant-loop-found
invariant-loop-found g l = record {
  going : Going (g.S.Source.left l.fn.source) (g.S.Source.left l.source) (g.S.Source.last l.source) (g.K.Sink.stands l.fn.sink) (g.K.Sink.stands l.sink) (g.E.Engine.stands l.engine) (g.E.Engine.takes l.engine) (g.E.Engine.is_idle l.engine × (l.engine ≡ l.fn.engine))
      (g.E.Engine.faults l.fn.engine) (g.E.Engine.faults l.engine) l.place l.reader l.buffer.pending;
  place : IsPlace l.place;
  end : l.reader.ended ≡ true → IsAtEnd (g.S.Source.left l.source);
  source : g.S.Source.faults l.source ≡ g.S.Source.faults l.fn.source;
  sink : g.K.Sink.faults l.sink ≡ g.K.Sink.faults l.fn.sink;
}

abbrev pub decreases-loop-found : goal.decreases-loop-found
decreases-loop-found g l = 2 ^ 40 - l.place.bytes
