use Rattle.std.proofs.Common.{◌≡◌, ◌++◌, take, length}
use Rattle.std.specs.List.{flat_map, range_with_len}
use Rattle.outer_ports.specs.Buffers.{Gathered}
use Rattle.inside_text.specs.InsideText.{area_line}
use Rattle.inside_text.proofs.sizes.tell_areas.Given as goal

abbrev pub invariant-loop-area : goal.invariant-loop-area
invariant-loop-area g l =
    (g.K.Sink.faults l.sink ≡ g.K.Sink.faults l.fn.sink)
    × Gathered (g.K.Sink.stands l.fn.sink) (g.K.Sink.stands l.sink) l.buffer.pending (l.fn.buffer.pending ++ flat_map (area_line l.heap) (take l.area (range_with_len 0 (length l.heap.table.kinds))))
