use Rattle.std.proofs.Common.{arith, rules, ◌∷◌, decimal}
use Rattle.std.proofs.lemmas.Result.{err_from_is_err_and}
use Rattle.inside_text.proofs.TextSequences.{gathered_next, gathers_next_cut, none_yet}
use Rattle.inside_text.proofs.sizes.tell_numbers.Goals as goal

pub returns-in_err-tell_number-clause-gathers : goal.returns-in_err-tell_number-clause-gathers
returns-in_err-tell_number-clause-gathers g c =
    let p = err_from_is_err_and c.from_residual.result c.from_residual.ensures.1 in
    gathers_next_cut (λ number. 32 ∷ decimal number) c.args.numbers.now c.loop-number.number-index _ (search rules) c.args.buffer.now.pending c.loop-number.invariant.1 c.from_residual.result p.0 p.1 c.in_err-tell_number.ensures.gathers.part

pub loop-number-preserved : goal.loop-number-preserved
loop-number-preserved g c = (omega (arith, c.in_ok-tell_number.ensures.cause.quiet, c.loop-number.invariant.0), gathered_next (λ number. 32 ∷ decimal number) c.args.numbers.now c.loop-number.number-index _ (search rules) c.args.buffer.now.pending c.loop-number.invariant.1 c.in_ok-tell_number.ensures.gathers.whole)

pub loop-number-init : goal.loop-number-init
loop-number-init g c = (search rules, none_yet c.args.buffer.now.pending)
