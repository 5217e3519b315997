use Rattle.std.proofs.Common.{arith, rules, ◌*◌}
use Rattle.area_space.specs.Table.{used_of}
use Rattle.inside_text.specs.InsideText.{word_line}
use Rattle.std.proofs.lemmas.Result.{err_from_is_err_and}
use Rattle.inside_text.proofs.TextSequences.{gathered_row, gathered_to, gathers_row_cut, none_yet}
use Rattle.inside_text.proofs.regions.tell_words_in.Goals as goal

pub returns-in_err-tell_word-clause-gathers : goal.returns-in_err-tell_word-clause-gathers
returns-in_err-tell_word-clause-gathers g c =
    let p = err_from_is_err_and c.from_residual.result c.from_residual.ensures.1 in
    gathers_row_cut (word_line c.args.heap.now) (4096 * c.args.region) (used_of c.args.heap.now.table c.args.region) c.loop-offset.offset (search rules) c.args.buffer.now.pending c.loop-offset.invariant.1 c.from_residual.result p.0 p.1 c.in_err-tell_word.ensures.gathers.part

pub loop-offset-preserved : goal.loop-offset-preserved
loop-offset-preserved g c = (omega (arith, c.in_ok-tell_word.ensures.cause.quiet, c.loop-offset.invariant.0), gathered_row (word_line c.args.heap.now) (4096 * c.args.region) (used_of c.args.heap.now.table c.args.region) c.loop-offset.offset (search rules) c.args.buffer.now.pending c.loop-offset.invariant.1 c.in_ok-tell_word.ensures.gathers.whole)

pub loop-offset-init : goal.loop-offset-init
loop-offset-init g c = (search rules, none_yet c.args.buffer.now.pending)

pub returns-clause-gathers : goal.returns-clause-gathers
returns-clause-gathers g c =
    record { whole = gathered_to (word_line c.args.heap.now) (4096 * c.args.region) (used_of c.args.heap.now.table c.args.region) _ c.args.buffer.now.pending (search rules) c.loop-offset.invariant.1; part = _ }
