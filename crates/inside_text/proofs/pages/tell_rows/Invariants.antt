use Rattle.std.proofs.Common.{◌≡◌, ◌++◌, take}
use Rattle.std.specs.List.{flat_map, range_with_len}
use Rattle.outer_ports.specs.Buffers.{Gathered}
use Rattle.paged_memory.specs.Paging.{size_of}
use Rattle.inside_text.specs.Pages.{row_of}
use Rattle.inside_text.proofs.pages.tell_rows.Given as goal

abbrev pub invariant-loop-page : goal.invariant-loop-page
invariant-loop-page g l =
    (g.K.Sink.faults l.sink ≡ g.K.Sink.faults l.fn.sink)
    × Gathered (g.K.Sink.stands l.fn.sink) (g.K.Sink.stands l.sink) l.buffer.pending (l.fn.buffer.pending ++ flat_map (row_of l.mem.0) (take l.page (range_with_len 0 (size_of l.mem.0))))
