use Rattle.std.proofs.Common.{◌∙◌, ◌+◌, refl, sym, subst, arith}
use Rattle.lisp_graph.specs.Graph.{object_at}
use Rattle.lisp_graph.specs.declared.object.Body.{Body}
use Rattle.why_held.specs.Search.{AreWithin, parts_of}
use Rattle.why_held.proofs.Checks.{next_within}
use Rattle.why_held.proofs.checking.is_next_within.Goals as goal

pub returns-in-Some : goal.returns-in-Some
returns-in-Some c =
    let depths = c.args.depths.now in
    let most = c.from.result + 1 in
    let n = next_within c.args.objects.now depths c.args.from c.in-Some.depth most (object_at c.args.objects.now c.args.from) (sym c.depth_at.ensures ∙ c.in-Some.is) (omega (arith, c.from.ensures)) refl in
    let P : Body → Type 0 = λ b. AreWithin depths most (parts_of b) in
    (λ t. n.0 (subst P c.body.ensures (c.parts_within.ensures.0 t)), λ w. c.parts_within.ensures.1 (subst P (sym c.body.ensures) (n.1 w)))
