use Rattle.std.proofs.Common.{◌≡◌, ◌++◌, take}
use Rattle.std.specs.List.{flat_map, range_with_len}
use Rattle.outer_ports.specs.Buffers.{Gathered}
use Rattle.inside_text.specs.InsideText.{region_lines}
use Rattle.inside_text.proofs.regions.tell_regions.Given as goal

abbrev pub invariant-loop-region : goal.invariant-loop-region
invariant-loop-region g l =
    (g.K.Sink.faults l.sink ≡ g.K.Sink.faults l.fn.sink)
    × Gathered (g.K.Sink.stands l.fn.sink) (g.K.Sink.stands l.sink) l.buffer.pending (l.fn.buffer.pending ++ flat_map (region_lines l.heap) (take l.region (range_with_len 0 l.heap.table.regions)))
