use Rattle.std.proofs.Common.{◌++◌, ap}
use Rattle.std.specs.List.{flat_map, range_with_len}
use Rattle.std.proofs.lemmas.Result.{err_from_is_err_and}
use Rattle.area_space.specs.mem_port.Swaps.{Swaps}
use Rattle.paged_memory.specs.Paging.{resident_of, size_of}
use Rattle.inside_text.specs.InsideText.{calls_line}
use Rattle.inside_text.specs.Pages.{frame_of, row_of}
use Rattle.inside_text.proofs.TextSequences.{gathers_cut, gathers_then}
use Rattle.inside_text.proofs.Rows.{lines_are}
use Rattle.inside_text.proofs.pages.tell_pages.Goals as goal

pub returns-in_err-tell_frames-clause-gathers : goal.returns-in_err-tell_frames-clause-gathers
returns-in_err-tell_frames-clause-gathers g c =
    let p = err_from_is_err_and c.from_residual.result c.from_residual.ensures.1 in
    rw (lines_are c.args.heap.now c.ground.result.now.mem.0 c.ground.result.now.mem.1.stored c.pages-pages.ensures.paged c.ground.ensures.memory c.ground.ensures.resident (ap (λ (s : Swaps). s.out) c.ground.ensures.swap)) (gathers_cut c.args.buffer.now.pending (flat_map (frame_of c.ground.result.now.mem.0) (resident_of c.ground.result.now.mem.0)) ((flat_map (row_of c.ground.result.now.mem.0) (range_with_len 0 (size_of c.ground.result.now.mem.0))) ++ (calls_line c.args.heap.now.counts.swaps)) c.from_residual.result p.0 p.1 c.in_err-tell_frames.ensures.gathers.part)

pub returns-in_err-tell_rows-clause-gathers : goal.returns-in_err-tell_rows-clause-gathers
returns-in_err-tell_rows-clause-gathers g c =
    let p = err_from_is_err_and c.from_residual-in_err-tell_rows.result c.from_residual-in_err-tell_rows.ensures.1 in
    rw (lines_are c.args.heap.now c.ground.result.now.mem.0 c.ground.result.now.mem.1.stored c.pages-pages.ensures.paged c.ground.ensures.memory c.ground.ensures.resident (ap (λ (s : Swaps). s.out) c.ground.ensures.swap)) (gathers_then c.args.buffer.now.pending (flat_map (frame_of c.ground.result.now.mem.0) (resident_of c.ground.result.now.mem.0)) ((flat_map (row_of c.ground.result.now.mem.0) (range_with_len 0 (size_of c.ground.result.now.mem.0))) ++ (calls_line c.args.heap.now.counts.swaps)) c.in_ok-tell_frames.ensures.gathers.whole (gathers_cut _ (flat_map (row_of c.ground.result.now.mem.0) (range_with_len 0 (size_of c.ground.result.now.mem.0))) (calls_line c.args.heap.now.counts.swaps) c.from_residual-in_err-tell_rows.result p.0 p.1 c.in_err-tell_rows.ensures.gathers.part))

pub returns-clause-gathers : goal.returns-clause-gathers
returns-clause-gathers g c =
    rw (lines_are c.args.heap.now c.ground.result.now.mem.0 c.ground.result.now.mem.1.stored c.pages-pages.ensures.paged c.ground.ensures.memory c.ground.ensures.resident (ap (λ (s : Swaps). s.out) c.ground.ensures.swap)) (gathers_then c.args.buffer.now.pending (flat_map (frame_of c.ground.result.now.mem.0) (resident_of c.ground.result.now.mem.0)) ((flat_map (row_of c.ground.result.now.mem.0) (range_with_len 0 (size_of c.ground.result.now.mem.0))) ++ (calls_line c.args.heap.now.counts.swaps)) c.in_ok-tell_frames.ensures.gathers.whole (gathers_then _ (flat_map (row_of c.ground.result.now.mem.0) (range_with_len 0 (size_of c.ground.result.now.mem.0))) (calls_line c.args.heap.now.counts.swaps) c.in_ok-tell_rows.ensures.gathers.whole c.tell_calls.ensures.gathers))
