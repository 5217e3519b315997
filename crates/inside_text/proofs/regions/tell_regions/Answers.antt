use Rattle.std.proofs.Common.{arith, rules}
use Rattle.inside_text.specs.InsideText.{region_lines}
use Rattle.std.proofs.lemmas.Result.{err_from_is_err_and}
use Rattle.inside_text.proofs.TextSequences.{gathered_first, gathered_to, gathers_first_cut, none_yet}
use Rattle.inside_text.proofs.regions.tell_regions.Goals as goal

pub returns-in_err-tell_region-clause-gathers : goal.returns-in_err-tell_region-clause-gathers
returns-in_err-tell_region-clause-gathers g c =
    gathers_first_cut (region_lines c.args.heap.now) c.args.heap.now.table.regions c.loop-region.region (search rules) c.args.buffer.now.pending c.loop-region.invariant.1 c.from_residual.result (err_from_is_err_and c.from_residual.result c.from_residual.ensures.1) c.in_err-tell_region.ensures.gathers.part

pub loop-region-preserved : goal.loop-region-preserved
loop-region-preserved g c = (omega (arith, c.in_ok-tell_region.ensures.cause.quiet, c.loop-region.invariant.0), gathered_first (region_lines c.args.heap.now) c.args.heap.now.table.regions c.loop-region.region (search rules) c.args.buffer.now.pending c.loop-region.invariant.1 c.in_ok-tell_region.ensures.gathers.whole)

pub loop-region-init : goal.loop-region-init
loop-region-init g c = (search rules, none_yet c.args.buffer.now.pending)

pub returns-clause-gathers : goal.returns-clause-gathers
returns-clause-gathers g c = record { whole = gathered_to (region_lines c.args.heap.now) 0 c.args.heap.now.table.regions _ c.args.buffer.now.pending (search rules) c.loop-region.invariant.1; part = _ }
