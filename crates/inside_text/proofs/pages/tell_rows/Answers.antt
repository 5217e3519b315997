use Rattle.std.proofs.Common.{arith, rules}
use Rattle.paged_memory.specs.Paging.{size_of}
use Rattle.inside_text.specs.Pages.{row_of}
use Rattle.std.proofs.lemmas.Result.{err_from_is_err_and}
use Rattle.inside_text.proofs.TextSequences.{gathered_first, gathered_to, gathers_first_cut, none_yet}
use Rattle.inside_text.proofs.pages.tell_rows.Goals as goal

pub returns-in_err-tell_row-clause-gathers : goal.returns-in_err-tell_row-clause-gathers
returns-in_err-tell_row-clause-gathers g c =
    gathers_first_cut (row_of c.args.mem.now.0) (size_of c.args.mem.now.0) c.loop-page.page (search rules) c.args.buffer.now.pending c.loop-page.invariant.1 c.from_residual.result (err_from_is_err_and c.from_residual.result c.from_residual.ensures.1) c.in_err-tell_row.ensures.gathers.part

pub loop-page-preserved : goal.loop-page-preserved
loop-page-preserved g c = (omega (arith, c.in_ok-tell_row.ensures.cause.quiet, c.loop-page.invariant.0), gathered_first (row_of c.args.mem.now.0) (size_of c.args.mem.now.0) c.loop-page.page (search rules) c.args.buffer.now.pending c.loop-page.invariant.1 c.in_ok-tell_row.ensures.gathers.whole)

pub loop-page-init : goal.loop-page-init
loop-page-init g c = (search rules, none_yet c.args.buffer.now.pending)

pub returns-clause-gathers : goal.returns-clause-gathers
returns-clause-gathers g c =
    let sound = c.pages-page-end.ensures.sound.regions in
    let paged = c.pages-page-end.ensures.paged.regions in
    record { whole = gathered_to (row_of c.args.mem.now.0) 0 (size_of c.args.mem.now.0) _ c.args.buffer.now.pending (omega (arith, sound, paged)) c.loop-page.invariant.1; part = _ }
