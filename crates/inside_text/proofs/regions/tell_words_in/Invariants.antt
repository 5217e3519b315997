use Rattle.std.proofs.Common.{◌≡◌, ◌++◌, ◌*◌, take}
use Rattle.std.specs.List.{flat_map, range_with_len}
use Rattle.outer_ports.specs.Buffers.{Gathered}
use Rattle.area_space.specs.Table.{used_of}
use Rattle.inside_text.specs.InsideText.{word_line}
use Rattle.inside_text.proofs.regions.tell_words_in.Given as goal

abbrev pub invariant-loop-offset : goal.invariant-loop-offset
invariant-loop-offset g l =
    (g.K.Sink.faults l.sink ≡ g.K.Sink.faults l.fn.sink)
    × Gathered (g.K.Sink.stands l.fn.sink) (g.K.Sink.stands l.sink) l.buffer.pending (l.fn.buffer.pending ++ flat_map (word_line l.heap) (take l.offset (range_with_len (4096 * l.region) (used_of l.heap.table l.region))))
