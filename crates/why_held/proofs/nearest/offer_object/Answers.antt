use Rattle.std.proofs.Common.{◌≡◌, ◌∙◌, false, ap, sym, refl, subst}
use Rattle.lisp_graph.specs.Graph.{object_at}
use Rattle.lisp_graph.specs.declared.object.Body.{Body}
use Rattle.why_held.specs.Chains.{depth_at}
use Rattle.why_held.specs.Nearest.{Offered, is_less_deep}
use Rattle.why_held.specs.Search.{parts_of}
use Rattle.why_held.proofs.NearestObjects.{nearest_next, nearest_skip}
use Rattle.why_held.proofs.nearest.offer_object.Goals as goal

pub returns-else-is_less_deep : goal.returns-else-is_less_deep
returns-else-is_less_deep c =
    let deep : is_less_deep (depth_at c.args.depths.now c.args.from) c.args.most ≡ false =
    ap (λ o. is_less_deep o c.args.most) (sym c.depth_at.ensures) ∙ sym c.is_less_deep.ensures ∙ c.if-is_less_deep.false in
    nearest_skip c.args.objects.now c.args.depths.now c.args.most c.args.from _ c.args.nearest.now c.requires.before deep refl

pub returns-then-is_less_deep : goal.returns-then-is_less_deep
returns-then-is_less_deep c =
    let objects = c.args.objects.now in
    let P : Body → Type 0 = λ b. Offered c.args.depths.now c.args.from (parts_of b) c.args.nearest.now c.offer_parts.new.nearest in
    nearest_next objects c.args.depths.now c.args.most c.args.from _ (object_at objects c.args.from) c.args.nearest.now c.offer_parts.new.nearest c.requires.before
    refl refl (subst P c.body.ensures c.offer_parts.ensures)
