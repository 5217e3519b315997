use Rattle.std.proofs.Common.{[], ◌∷◌, ◌++◌, decimal}
use Rattle.std.specs.List.{flat_map}
use Rattle.std.proofs.lemmas.Result.{err_from_is_err_and}
use Rattle.inside_text.proofs.TextSequences.{gathers_cut, gathers_then, line_is}
use Rattle.inside_text.proofs.sizes.tell_number_line.Goals as goal

pub returns-in_err-gather-clause-gathers : goal.returns-in_err-gather-clause-gathers
returns-in_err-gather-clause-gathers g c =
    let p = err_from_is_err_and c.from_residual.result c.from_residual.ensures.1 in
    rw (line_is decimal c.args.first.now c.args.numbers.now) (gathers_cut c.args.buffer.now.pending c.args.first.now ((flat_map (λ number. 32 ∷ decimal number) c.args.numbers.now) ++ 10 ∷ []) c.from_residual.result p.0 p.1 c.in_err-gather.ensures.gathers.part)

pub returns-in_err-tell_numbers-clause-gathers : goal.returns-in_err-tell_numbers-clause-gathers
returns-in_err-tell_numbers-clause-gathers g c =
    let p = err_from_is_err_and c.from_residual-in_err-tell_numbers.result c.from_residual-in_err-tell_numbers.ensures.1 in
    rw (line_is decimal c.args.first.now c.args.numbers.now) (gathers_then c.args.buffer.now.pending c.args.first.now ((flat_map (λ number. 32 ∷ decimal number) c.args.numbers.now) ++ 10 ∷ []) c.in_ok-gather.ensures.gathers.whole
    (gathers_cut _ (flat_map (λ number. 32 ∷ decimal number) c.args.numbers.now) (10 ∷ []) c.from_residual-in_err-tell_numbers.result p.0 p.1 c.in_err-tell_numbers.ensures.gathers.part))

pub returns-clause-gathers : goal.returns-clause-gathers
returns-clause-gathers g c =
    rw (line_is decimal c.args.first.now c.args.numbers.now) (gathers_then c.args.buffer.now.pending c.args.first.now ((flat_map (λ number. 32 ∷ decimal number) c.args.numbers.now) ++ 10 ∷ []) c.in_ok-gather.ensures.gathers.whole
    (gathers_then _ (flat_map (λ number. 32 ∷ decimal number) c.args.numbers.now) (10 ∷ []) c.in_ok-tell_numbers.ensures.gathers.whole c.gather-2.ensures.gathers))
