use Rattle.std.proofs.Common.{◌≡◌}
use Rattle.paged_memory.specs.Paging.{resident_of}
use Rattle.inside_text.specs.Pages.{frame_of}
use Rattle.inside_text.proofs.Frames.{Told}
use Rattle.inside_text.proofs.pages.tell_frames.Given as goal

abbrev pub invariant-loop-turn : goal.invariant-loop-turn
invariant-loop-turn g l =
    (g.K.Sink.faults l.sink ≡ g.K.Sink.faults l.fn.sink)
    × Told (frame_of l.mem.0) (resident_of l.mem.0) l.fn.buffer.pending l.turn l.next (g.K.Sink.stands l.fn.sink) (g.K.Sink.stands l.sink) l.buffer.pending
