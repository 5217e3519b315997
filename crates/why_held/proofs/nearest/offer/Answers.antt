use Rattle.std.proofs.Common.{◌≡◌, true, false, Some, ap₂, sym, ◌∙◌}
use Rattle.why_held.specs.Chains.{depth_at}
use Rattle.why_held.specs.Choice.{is_one_less}
use Rattle.why_held.specs.Nearest.{nearest_at}
use Rattle.why_held.proofs.NearestObjects.{offered_known, offered_level, offered_new, offered_plain}
use Rattle.why_held.proofs.nearest.offer.Goals as goal

pub returns-in-None : goal.returns-in-None
returns-in-None c =
    let within = rw c.in-Ref.is at c.requires.refers in
    let fresh = sym c.get.ensures.value ∙ c.in-None.is in
    let less : is_one_less (depth_at c.args.depths.now c.args.from) (depth_at c.args.depths.now c.in-Ref.to) ≡ true =
    sym (ap₂ is_one_less c.depth_at.ensures c.depth_at-in-Ref.ensures) ∙ sym c.is_one_less.ensures ∙ c.if-is_one_less.true in
    rw c.in-Ref.is (offered_new c.args.depths.now c.args.from c.in-Ref.to c.args.nearest.now c.set.new.self within fresh less c.set.ensures)

pub returns-in_default-get : goal.returns-in_default-get
returns-in_default-get c =
    let known : nearest_at c.args.nearest.now c.in-Ref.to ≡ Some c.in_default-get.field-0 = sym c.get.ensures.value ∙ c.in_default-get.is in
    rw c.in-Ref.is (offered_known c.args.depths.now c.args.from c.in-Ref.to c.in_default-get.field-0 c.args.nearest.now known)

pub returns-else-is_one_less : goal.returns-else-is_one_less
returns-else-is_one_less c =
    let less : is_one_less (depth_at c.args.depths.now c.args.from) (depth_at c.args.depths.now c.in-Ref.to) ≡ false =
    sym (ap₂ is_one_less c.depth_at.ensures c.depth_at-in-Ref.ensures) ∙ sym c.is_one_less.ensures ∙ c.if-is_one_less.false in
    rw c.in-Ref.is (offered_level c.args.depths.now c.args.from c.in-Ref.to c.args.nearest.now less)

pub returns-in_default : goal.returns-in_default
returns-in_default c = offered_plain c.args.depths.now c.args.from c.args.value c.args.nearest.now c.in_default.not-Ref
