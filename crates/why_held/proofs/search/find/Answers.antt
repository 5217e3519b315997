use Rattle.std.proofs.Common.{arith, sym, ◌∙◌, inl, inr}
use Rattle.why_held.specs.Chains.{depth_at}
use Rattle.why_held.proofs.Levels.{found_fewer}
use Rattle.why_held.proofs.SearchSteps.{finds_known, finds_new, finds_plain, some_is}
use Rattle.why_held.proofs.search.find.Goals as goal

pub set-requires-clause-at_most : goal.set-requires-clause-at_most
set-requires-clause-at_most c =
    let within = rw c.in-Ref.is at c.requires.refers in
    omega (arith, found_fewer c.args.search.now.depths c.in-Ref.object within (sym c.get.ensures.value ∙ c.in-None.is), c.requires.order, c.get.ensures.at_most)

pub returns-in-Some : goal.returns-in-Some
returns-in-Some c =
    rw c.in-Ref.is (finds_known c.args.depth c.in-Ref.object c.args.search.now (some_is (depth_at c.args.search.now.depths c.in-Ref.object) c.in-Some.field-0 (sym c.get.ensures.value ∙ c.in-Some.is)))

pub returns-in_ok-push-in-None : goal.returns-in_ok-push-in-None
returns-in_ok-push-in-None c =
    let within = rw c.in-Ref.is at c.requires.refers in
    rw c.in-Ref.is (finds_new c.args.depth c.in-Ref.object c.args.search.now within (sym c.get.ensures.value ∙ c.in-None.is) c.set.new.self c.push.new.self c.set.ensures c.in_ok-push-in-None.ensures.ok)

pub returns-in-Fix : goal.returns-in-Fix
returns-in-Fix c = finds_plain c.args.depth c.args.value c.args.search.now (λ n e. elim c.in-Fix.is [ inl x ↦ (let a = x.1 in cc) | inr a ↦ cc ])
