use Rattle.std.proofs.Common.{◌-◌, ◌∙◌, ap, subst, List, ◌++◌, length}
use Rattle.std.specs.Prelude.{replicate, flat_map}
use Rattle.lisp_graph.specs.Graph.{object_at}
use Rattle.lisp_graph.specs.declared.object.Value.{Value}
use Rattle.sexpr_print.specs.Places.{parts}
use Rattle.sexpr_print.specs.Sharing.{Counts}
use Rattle.sexpr_print.specs.declared.sharing.References.{References}
use Rattle.sexpr_print.specs.declared.sharing.References.TheVariants.{No}
use Rattle.sexpr_print.proofs.ReferenceCounts.{counted_all, counts_then}
use Rattle.sexpr_print.proofs.sharing.references_of.Goals as goal

pub returns-clause-value : goal.returns-clause-value
returns-clause-value c =
    let first = c.pad.new.self in
    let middle = c.count_all.new.counts in
    let last = c.count_objects.new.counts in
    let roots = c.args.world.now.roots in
    let objects = c.args.world.now.objects in
    let P : List Value → Type 0 = λ vs. Counts vs first middle in
    let f : List References → List References = λ l. l ++ replicate (c.len.result - length l) No in
    counted_all (roots ++ flat_map (λ name. parts (object_at objects name).body) c.args.names.now.names) _ first last (c.in_ok-pad.ensures.ok ∙ ap f c.new-counts.ensures)
    (counts_then roots (flat_map (λ name. parts (object_at objects name).body) c.args.names.now.names) first middle last (subst P c.as_slice.ensures c.count_all.ensures) c.count_objects.ensures)
