use Rattle.std.proofs.Common.{◌≡◌, take}
use Rattle.std.specs.List.{flat_map}
use Rattle.outer_ports.specs.Ports.{Gained}
use Rattle.outer_ports.proofs.sinks.text.give_parts.Given as goal

abbrev pub invariant-loop-part : goal.invariant-loop-part
invariant-loop-part g l =
    (g.K.Sink.faults l.sink ≡ g.K.Sink.faults l.fn.sink)
    × Gained (g.K.Sink.stands l.fn.sink) (g.K.Sink.stands l.sink) (flat_map (λ part. part.now) (take l.part-index l.parts))
