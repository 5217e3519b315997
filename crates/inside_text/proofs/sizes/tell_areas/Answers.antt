use Rattle.std.proofs.Common.{arith, rules, length}
use Rattle.inside_text.specs.InsideText.{area_line}
use Rattle.std.proofs.lemmas.Result.{err_from_is_err_and}
use Rattle.inside_text.proofs.TextSequences.{gathered_first, gathered_to, gathers_first_cut, none_yet}
use Rattle.inside_text.proofs.sizes.tell_areas.Goals as goal

pub returns-in_err-tell_area-clause-gathers : goal.returns-in_err-tell_area-clause-gathers
returns-in_err-tell_area-clause-gathers g c =
    gathers_first_cut (area_line c.args.heap.now) (length c.args.heap.now.table.kinds) c.loop-area.area (search rules) c.args.buffer.now.pending c.loop-area.invariant.1 c.from_residual.result (err_from_is_err_and c.from_residual.result c.from_residual.ensures.1) c.in_err-tell_area.ensures.gathers.part

pub loop-area-preserved : goal.loop-area-preserved
loop-area-preserved g c = (omega (arith, c.in_ok-tell_area.ensures.cause.quiet, c.loop-area.invariant.0), gathered_first (area_line c.args.heap.now) (length c.args.heap.now.table.kinds) c.loop-area.area (search rules) c.args.buffer.now.pending c.loop-area.invariant.1 c.in_ok-tell_area.ensures.gathers.whole)

pub loop-area-init : goal.loop-area-init
loop-area-init g c = (search rules, none_yet c.args.buffer.now.pending)

pub returns-clause-gathers : goal.returns-clause-gathers
returns-clause-gathers g c = record { whole = gathered_to (area_line c.args.heap.now) 0 (length c.args.heap.now.table.kinds) _ c.args.buffer.now.pending (search rules) c.loop-area.invariant.1; part = _ }
