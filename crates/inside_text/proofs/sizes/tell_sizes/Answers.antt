use Rattle.std.proofs.Common.{◌++◌}
use Rattle.inside_text.specs.InsideText.{area_lines, capacity_line, space_line}
use Rattle.std.proofs.lemmas.Result.{err_from_is_err_and}
use Rattle.inside_text.proofs.TextSequences.{gathers_cut, gathers_then}
use Rattle.inside_text.proofs.sizes.tell_sizes.Goals as goal

pub returns-in_err-tell_space-clause-gathers : goal.returns-in_err-tell_space-clause-gathers
returns-in_err-tell_space-clause-gathers g c =
    let p = err_from_is_err_and c.from_residual.result c.from_residual.ensures.1 in
    rw (← c.space-space.ensures.space) (gathers_cut c.args.buffer.now.pending (space_line c.space-space.result.now) ((capacity_line c.space-space.result.now) ++ (area_lines c.args.heap.now)) c.from_residual.result p.0 p.1 c.in_err-tell_space.ensures.gathers.part)

pub returns-in_err-tell_capacity-clause-gathers : goal.returns-in_err-tell_capacity-clause-gathers
returns-in_err-tell_capacity-clause-gathers g c =
    let p = err_from_is_err_and c.from_residual-in_err-tell_capacity.result c.from_residual-in_err-tell_capacity.ensures.1 in
    rw (← c.space-space.ensures.space) (gathers_then c.args.buffer.now.pending (space_line c.space-space.result.now) ((capacity_line c.space-space.result.now) ++ (area_lines c.args.heap.now)) c.in_ok-tell_space.ensures.gathers.whole (gathers_cut _ (capacity_line c.space-space.result.now) (area_lines c.args.heap.now) c.from_residual-in_err-tell_capacity.result p.0 p.1 c.in_err-tell_capacity.ensures.gathers.part))

pub returns-clause-gathers : goal.returns-clause-gathers
returns-clause-gathers g c = rw (← c.space-space.ensures.space) (gathers_then c.args.buffer.now.pending (space_line c.space-space.result.now) ((capacity_line c.space-space.result.now) ++ (area_lines c.args.heap.now)) c.in_ok-tell_space.ensures.gathers.whole (gathers_then _ (capacity_line c.space-space.result.now) (area_lines c.args.heap.now) c.in_ok-tell_capacity.ensures.gathers.whole c.tell_areas.ensures.gathers))
