use Rattle.std.proofs.Common.{◌≡◌, ◌∙◌, ◌<◌, ◌+◌, ℕ, false, ap, sym, arith, below_more}
use Rattle.std.proofs.lemmas.List.{get_or_default}
use Rattle.lisp_graph.specs.declared.object.Value.TheVariants.{Nil}
use Rattle.lisp_graph.specs.Graph.{is_ref, value_at}
use Rattle.why_held.proofs.References.{refers_later}
use Rattle.why_held.proofs.holding.first_reference.Goals as goal

pub loop-place-init : goal.loop-place-init
loop-place-init c = (refers_later c.args.object c.args.values.now 0 c.requires (λ k l. absurd (omega arith)), λ k l. absurd (omega arith))

pub loop-place-preserved : goal.loop-place-preserved
loop-place-preserved c =
    let here : is_ref c.args.object (value_at c.args.values.now c.loop-place.place) ≡ false =
    ap (is_ref c.args.object) (get_or_default c.args.values.now c.loop-place.place Nil _ c.loop-place.invariant.0) ∙ sym c.loop-place-test.ensures in
    let below : (less : ℕ) → less < c.loop-place.place + 1 → is_ref c.args.object (value_at c.args.values.now less) ≡ false = below_more _ _ c.loop-place.invariant.1 here in
    (refers_later c.args.object c.args.values.now (c.loop-place.place + 1) c.requires below, below)
