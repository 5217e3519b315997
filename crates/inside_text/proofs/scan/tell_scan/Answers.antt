use Rattle.std.proofs.Common.{◌++◌}
use Rattle.inside_text.specs.InsideText.{left_line, moved_line, next_line, phase_line}
use Rattle.std.proofs.lemmas.Result.{err_from_is_err_and}
use Rattle.inside_text.proofs.TextSequences.{gathers_cut, gathers_then}
use Rattle.inside_text.proofs.scan.tell_scan.Goals as goal

pub returns-in_err-tell_phase-clause-gathers : goal.returns-in_err-tell_phase-clause-gathers
returns-in_err-tell_phase-clause-gathers g c =
    let p = err_from_is_err_and c.from_residual.result c.from_residual.ensures.1 in
    (gathers_cut c.args.buffer.now.pending (phase_line c.args.heap.now) ((left_line c.args.heap.now) ++ ((next_line c.args.heap.now) ++ (moved_line c.args.heap.now))) c.from_residual.result p.0 p.1 c.in_err-tell_phase.ensures.gathers.part)

pub returns-in_err-tell_left-clause-gathers : goal.returns-in_err-tell_left-clause-gathers
returns-in_err-tell_left-clause-gathers g c =
    let p = err_from_is_err_and c.from_residual-in_err-tell_left.result c.from_residual-in_err-tell_left.ensures.1 in
    (gathers_then c.args.buffer.now.pending (phase_line c.args.heap.now) ((left_line c.args.heap.now) ++ ((next_line c.args.heap.now) ++ (moved_line c.args.heap.now))) c.in_ok-tell_phase.ensures.gathers.whole (gathers_cut _ (left_line c.args.heap.now) ((next_line c.args.heap.now) ++ (moved_line c.args.heap.now)) c.from_residual-in_err-tell_left.result p.0 p.1 c.in_err-tell_left.ensures.gathers.part))

pub returns-in_err-tell_next-clause-gathers : goal.returns-in_err-tell_next-clause-gathers
returns-in_err-tell_next-clause-gathers g c =
    let p = err_from_is_err_and c.from_residual-in_err-tell_next.result c.from_residual-in_err-tell_next.ensures.1 in
    (gathers_then c.args.buffer.now.pending (phase_line c.args.heap.now) ((left_line c.args.heap.now) ++ ((next_line c.args.heap.now) ++ (moved_line c.args.heap.now))) c.in_ok-tell_phase.ensures.gathers.whole (gathers_then _ (left_line c.args.heap.now) ((next_line c.args.heap.now) ++ (moved_line c.args.heap.now)) c.in_ok-tell_left.ensures.gathers.whole (gathers_cut _ (next_line c.args.heap.now) (moved_line c.args.heap.now) c.from_residual-in_err-tell_next.result p.0 p.1 c.in_err-tell_next.ensures.gathers.part)))

pub returns-clause-gathers : goal.returns-clause-gathers
returns-clause-gathers g c = (gathers_then c.args.buffer.now.pending (phase_line c.args.heap.now) ((left_line c.args.heap.now) ++ ((next_line c.args.heap.now) ++ (moved_line c.args.heap.now))) c.in_ok-tell_phase.ensures.gathers.whole (gathers_then _ (left_line c.args.heap.now) ((next_line c.args.heap.now) ++ (moved_line c.args.heap.now)) c.in_ok-tell_left.ensures.gathers.whole (gathers_then _ (next_line c.args.heap.now) (moved_line c.args.heap.now) c.in_ok-tell_next.ensures.gathers.whole c.tell_moved.ensures.gathers)))
