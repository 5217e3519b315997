use Rattle.std.proofs.Common.{◌≡◌, ◌∙◌, refl, sym, inl, inr, arith, Some, None, subst}
use Rattle.std.proofs.lemmas.Bool.{le-leb, leb-true}
use Rattle.why_held.specs.Chains.{depth_at}
use Rattle.why_held.specs.Search.{IsWithin}
use Rattle.why_held.proofs.Checks.{within_here, within_plain, within_ref}
use Rattle.why_held.proofs.Levels.{same_depth, within_get}
use Rattle.why_held.proofs.checking.is_within.Goals as goal

pub returns-in-Some : goal.returns-in-Some
returns-in-Some c =
    let deep : depth_at c.args.depths.now c.in-Ref.object ≡ Some c.in-Some.depth = sym c.depth_at.ensures ∙ c.in-Some.is in
    rw c.in-Ref.is (
      λ t. within_ref c.args.depths.now c.args.most c.in-Ref.object c.in-Some.depth deep (omega (arith, leb-true c.from.result c.args.most t, c.from.ensures)),
      λ w. (
          let x = within_get c.args.most (depth_at c.args.depths.now c.in-Ref.object) (within_here c.args.depths.now c.args.most c.in-Ref.object w) in
          let same = same_depth (depth_at c.args.depths.now c.in-Ref.object) x.0 c.in-Some.depth x.1 deep in
          le-leb c.from.result c.args.most (omega (arith, same, x.2, c.from.ensures))),
    )

pub returns-in-None : goal.returns-in-None
returns-in-None c =
    let none : depth_at c.args.depths.now c.in-Ref.object ≡ None = sym c.depth_at.ensures ∙ c.in-None.is in
    rw c.in-Ref.is (
      λ t. absurd cc,
      λ w. absurd (subst (IsWithin c.args.most) none (within_here c.args.depths.now c.args.most c.in-Ref.object w)),
    )

pub returns-in-Fix : goal.returns-in-Fix
returns-in-Fix c = (λ t. within_plain c.args.depths.now c.args.most c.args.value (λ n e. elim c.in-Fix.is [ inl x ↦ (let a = x.1 in cc) | inr a ↦ cc ]), λ w. refl)
