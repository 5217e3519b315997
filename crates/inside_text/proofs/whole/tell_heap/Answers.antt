use Rattle.std.proofs.Common.{[], ◌∷◌, ◌++◌, codes}
use Rattle.inside_text.specs.InsideText.{head_lines, middle_lines, page_lines}
use Rattle.std.proofs.lemmas.Result.{err_from_is_err_and}
use Rattle.inside_text.proofs.TextSequences.{gathers_cut, gathers_then}
use Rattle.inside_text.proofs.whole.tell_heap.Goals as goal

pub returns-in_err-tell_head-clause-gathers : goal.returns-in_err-tell_head-clause-gathers
returns-in_err-tell_head-clause-gathers g c =
    let p = err_from_is_err_and c.from_residual.result c.from_residual.ensures.1 in
    (gathers_cut c.args.buffer.now.pending (head_lines c.args.heap.now) ((middle_lines c.args.heap.now) ++ ((page_lines c.args.heap.now) ++ (codes "end-inside" ++ 10 ∷ []))) c.from_residual.result p.0 p.1 c.in_err-tell_head.ensures.gathers.part)

pub returns-in_err-tell_middle-clause-gathers : goal.returns-in_err-tell_middle-clause-gathers
returns-in_err-tell_middle-clause-gathers g c =
    let p = err_from_is_err_and c.from_residual-in_err-tell_middle.result c.from_residual-in_err-tell_middle.ensures.1 in
    (gathers_then c.args.buffer.now.pending (head_lines c.args.heap.now) ((middle_lines c.args.heap.now) ++ ((page_lines c.args.heap.now) ++ (codes "end-inside" ++ 10 ∷ []))) c.in_ok-tell_head.ensures.gathers.whole (gathers_cut _ (middle_lines c.args.heap.now) ((page_lines c.args.heap.now) ++ (codes "end-inside" ++ 10 ∷ [])) c.from_residual-in_err-tell_middle.result p.0 p.1 c.in_err-tell_middle.ensures.gathers.part))

pub returns-in_err-tell_pages-clause-gathers : goal.returns-in_err-tell_pages-clause-gathers
returns-in_err-tell_pages-clause-gathers g c =
    let p = err_from_is_err_and c.from_residual-in_err-tell_pages.result c.from_residual-in_err-tell_pages.ensures.1 in
    (gathers_then c.args.buffer.now.pending (head_lines c.args.heap.now) ((middle_lines c.args.heap.now) ++ ((page_lines c.args.heap.now) ++ (codes "end-inside" ++ 10 ∷ []))) c.in_ok-tell_head.ensures.gathers.whole (gathers_then _ (middle_lines c.args.heap.now) ((page_lines c.args.heap.now) ++ (codes "end-inside" ++ 10 ∷ [])) c.in_ok-tell_middle.ensures.gathers.whole (gathers_cut _ (page_lines c.args.heap.now) (codes "end-inside" ++ 10 ∷ []) c.from_residual-in_err-tell_pages.result p.0 p.1 c.in_err-tell_pages.ensures.gathers.part)))

pub returns-clause-gathers : goal.returns-clause-gathers
returns-clause-gathers g c = (gathers_then c.args.buffer.now.pending (head_lines c.args.heap.now) ((middle_lines c.args.heap.now) ++ ((page_lines c.args.heap.now) ++ (codes "end-inside" ++ 10 ∷ []))) c.in_ok-tell_head.ensures.gathers.whole (gathers_then _ (middle_lines c.args.heap.now) ((page_lines c.args.heap.now) ++ (codes "end-inside" ++ 10 ∷ [])) c.in_ok-tell_middle.ensures.gathers.whole (gathers_then _ (page_lines c.args.heap.now) (codes "end-inside" ++ 10 ∷ []) c.in_ok-tell_pages.ensures.gathers.whole c.gather.ensures.gathers)))
