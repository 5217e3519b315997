use Rattle.std.proofs.Common.{◌∙◌, sym, ℕ}
use Rattle.lisp_graph.specs.Graph.{object_at}
use Rattle.sexpr_print.specs.Places.{parts}
use Rattle.sexpr_print.proofs.ReferenceCounts.{counts_object}
use Rattle.sexpr_print.proofs.sharing.count_objects.Goals as goal

pub loop-name-preserved : goal.loop-name-preserved
loop-name-preserved c =
    let holds = λ (name : ℕ). parts (object_at c.args.objects.now name).body in
    counts_object holds c.args.names.now.names c.loop-name.number c.in-Some.name c.args.counts.now c.loop-name.counts c.count_parts.new.counts (sym c.name.ensures.value ∙ c.in-Some.is) c.loop-name.invariant
    (rw c.body.ensures at c.count_parts.ensures)
