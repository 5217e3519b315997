use Rattle.std.proofs.Common.{[], ◌∷◌}
use Rattle.std.proofs.lemmas.Result.{err_from_is_err_and}
use Rattle.inside_text.proofs.TextSequences.{gathers_cut, gathers_then}
use Rattle.inside_text.proofs.line.tell_word.Goals as goal

pub returns-in_err-gather-clause-gathers : goal.returns-in_err-gather-clause-gathers
returns-in_err-gather-clause-gathers g c =
    let p = err_from_is_err_and c.from_residual.result c.from_residual.ensures.1 in
    (gathers_cut c.args.buffer.now.pending (32 ∷ []) c.args.word.now c.from_residual.result p.0 p.1 c.in_err-gather.ensures.gathers.part)

pub returns-clause-gathers : goal.returns-clause-gathers
returns-clause-gathers g c = (gathers_then c.args.buffer.now.pending (32 ∷ []) c.args.word.now c.in_ok-gather.ensures.gathers.whole c.gather-2.ensures.gathers)
