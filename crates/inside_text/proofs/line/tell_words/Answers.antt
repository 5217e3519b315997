use Rattle.std.proofs.Common.{arith, rules, ◌∷◌}
use Rattle.std.proofs.lemmas.Result.{err_from_is_err_and}
use Rattle.inside_text.proofs.TextSequences.{gathered_next, gathers_next_cut, none_yet}
use Rattle.inside_text.proofs.line.tell_words.Goals as goal

pub returns-in_err-tell_word-clause-gathers : goal.returns-in_err-tell_word-clause-gathers
returns-in_err-tell_word-clause-gathers g c =
    let p = err_from_is_err_and c.from_residual.result c.from_residual.ensures.1 in
    gathers_next_cut (λ word. 32 ∷ word.now) c.args.words.now c.loop-word.word-index _ (search rules) c.args.buffer.now.pending c.loop-word.invariant.1 c.from_residual.result p.0 p.1 c.in_err-tell_word.ensures.gathers.part

pub loop-word-preserved : goal.loop-word-preserved
loop-word-preserved g c = (omega (arith, c.in_ok-tell_word.ensures.cause.quiet, c.loop-word.invariant.0), gathered_next (λ word. 32 ∷ word.now) c.args.words.now c.loop-word.word-index _ (search rules) c.args.buffer.now.pending c.loop-word.invariant.1 c.in_ok-tell_word.ensures.gathers.whole)

pub loop-word-init : goal.loop-word-init
loop-word-init g c = (search rules, none_yet c.args.buffer.now.pending)
