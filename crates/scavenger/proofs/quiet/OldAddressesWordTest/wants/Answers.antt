use Rattle.std.proofs.Common.{ℕ, ◌≡◌, ◌∙◌, ◌/◌, ◌<◌, Option, Some, None, sym, subst}
use Rattle.area_space.specs.Table.{IsOld}
use Rattle.scavenger.proofs.quiet.OldAddressesWordTest.wants.Goals as goal

pub returns-in-Some : goal.returns-in-Some
returns-in-Some c =
    let is = sym c.address.ensures.value ∙ c.in-Some.is in (
      (λ yes. (c.in-Some.at, is, c.may_be_old.ensures.0 yes)),
      (λ w.
          let both : ◌≡◌ {A = Option ℕ} (Some w.0) (Some c.in-Some.at) = sym w.1 ∙ is in
          let same : w.0 ≡ c.in-Some.at = cc in
          c.may_be_old.ensures.1 (subst (λ (a : ℕ). a / 4096 < c.args.self.now.table.now.regions → IsOld c.args.self.now.table.now (a / 4096)) same w.2)),
    )

pub returns-in-None : goal.returns-in-None
returns-in-None c =
    let is = sym c.address.ensures.value ∙ c.in-None.is in
    ((λ yes. absurd cc), (λ w. let both : ◌≡◌ {A = Option ℕ} (Some w.0) None = sym w.1 ∙ is in absurd cc))
