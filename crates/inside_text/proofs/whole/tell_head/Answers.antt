use Rattle.std.proofs.Common.{[], ◌∷◌, ◌++◌, codes}
use Rattle.inside_text.specs.InsideText.{area_lines, capacity_line, space_line}
use Rattle.std.proofs.lemmas.Result.{err_from_is_err_and}
use Rattle.inside_text.proofs.TextSequences.{gathers_cut, gathers_then}
use Rattle.inside_text.proofs.whole.tell_head.Goals as goal

pub returns-in_err-gather-clause-gathers : goal.returns-in_err-gather-clause-gathers
returns-in_err-gather-clause-gathers g c =
    let p = err_from_is_err_and c.from_residual.result c.from_residual.ensures.1 in
    (gathers_cut c.args.buffer.now.pending (codes "lispm-inside 1" ++ 10 ∷ []) (space_line c.args.heap.now.space ++ (capacity_line c.args.heap.now.space ++ area_lines c.args.heap.now)) c.from_residual.result p.0 p.1 c.in_err-gather.ensures.gathers.part)

pub returns-clause-gathers : goal.returns-clause-gathers
returns-clause-gathers g c = (gathers_then c.args.buffer.now.pending (codes "lispm-inside 1" ++ 10 ∷ []) (space_line c.args.heap.now.space ++ (capacity_line c.args.heap.now.space ++ area_lines c.args.heap.now)) c.in_ok-gather.ensures.gathers.whole c.tell_sizes.ensures.gathers)
