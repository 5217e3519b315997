use Rattle.std.proofs.Common.{◌++◌}
use Rattle.inside_text.specs.InsideText.{all_region_lines, phase_lines, register_lines}
use Rattle.std.proofs.lemmas.Result.{err_from_is_err_and}
use Rattle.inside_text.proofs.TextSequences.{gathers_cut, gathers_then}
use Rattle.inside_text.proofs.whole.tell_middle.Goals as goal

pub returns-in_err-tell_scan-clause-gathers : goal.returns-in_err-tell_scan-clause-gathers
returns-in_err-tell_scan-clause-gathers g c =
    let p = err_from_is_err_and c.from_residual.result c.from_residual.ensures.1 in
    (gathers_cut c.args.buffer.now.pending (phase_lines c.args.heap.now) ((register_lines c.args.heap.now) ++ (all_region_lines c.args.heap.now)) c.from_residual.result p.0 p.1 c.in_err-tell_scan.ensures.gathers.part)

pub returns-in_err-tell_registers-clause-gathers : goal.returns-in_err-tell_registers-clause-gathers
returns-in_err-tell_registers-clause-gathers g c =
    let p = err_from_is_err_and c.from_residual-in_err-tell_registers.result c.from_residual-in_err-tell_registers.ensures.1 in
    (gathers_then c.args.buffer.now.pending (phase_lines c.args.heap.now) ((register_lines c.args.heap.now) ++ (all_region_lines c.args.heap.now)) c.in_ok-tell_scan.ensures.gathers.whole (gathers_cut _ (register_lines c.args.heap.now) (all_region_lines c.args.heap.now) c.from_residual-in_err-tell_registers.result p.0 p.1 c.in_err-tell_registers.ensures.gathers.part))

pub returns-clause-gathers : goal.returns-clause-gathers
returns-clause-gathers g c = (gathers_then c.args.buffer.now.pending (phase_lines c.args.heap.now) ((register_lines c.args.heap.now) ++ (all_region_lines c.args.heap.now)) c.in_ok-tell_scan.ensures.gathers.whole (gathers_then _ (register_lines c.args.heap.now) (all_region_lines c.args.heap.now) c.in_ok-tell_registers.ensures.gathers.whole c.tell_regions.ensures.gathers))
