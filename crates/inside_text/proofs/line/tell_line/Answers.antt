use Rattle.std.proofs.Common.{[], ◌∷◌, ◌++◌}
use Rattle.std.specs.List.{flat_map}
use Rattle.std.proofs.lemmas.Result.{err_from_is_err_and}
use Rattle.inside_text.proofs.TextSequences.{gathers_cut, gathers_then, line_is}
use Rattle.inside_text.proofs.line.tell_line.Goals as goal

pub returns-in_err-gather-clause-gathers : goal.returns-in_err-gather-clause-gathers
returns-in_err-gather-clause-gathers g c =
    let p = err_from_is_err_and c.from_residual.result c.from_residual.ensures.1 in
    rw (line_is (λ word. word.now) c.args.first.now c.args.words.now) (gathers_cut c.args.buffer.now.pending c.args.first.now (flat_map (λ word. 32 ∷ word.now) c.args.words.now ++ 10 ∷ []) c.from_residual.result p.0 p.1 c.in_err-gather.ensures.gathers.part)

pub returns-in_err-tell_words-clause-gathers : goal.returns-in_err-tell_words-clause-gathers
returns-in_err-tell_words-clause-gathers g c =
    let p = err_from_is_err_and c.from_residual-in_err-tell_words.result c.from_residual-in_err-tell_words.ensures.1 in
    rw (line_is (λ word. word.now) c.args.first.now c.args.words.now) (gathers_then c.args.buffer.now.pending c.args.first.now (flat_map (λ word. 32 ∷ word.now) c.args.words.now ++ 10 ∷ []) c.in_ok-gather.ensures.gathers.whole
    (gathers_cut _ (flat_map (λ word. 32 ∷ word.now) c.args.words.now) (10 ∷ []) c.from_residual-in_err-tell_words.result p.0 p.1 c.in_err-tell_words.ensures.gathers.part))

pub returns-clause-gathers : goal.returns-clause-gathers
returns-clause-gathers g c =
    rw (line_is (λ word. word.now) c.args.first.now c.args.words.now) (gathers_then c.args.buffer.now.pending c.args.first.now (flat_map (λ word. 32 ∷ word.now) c.args.words.now ++ 10 ∷ []) c.in_ok-gather.ensures.gathers.whole
    (gathers_then _ (flat_map (λ word. 32 ∷ word.now) c.args.words.now) (10 ∷ []) c.in_ok-tell_words.ensures.gathers.whole c.gather-2.ensures.gathers))
