use Rattle.std.proofs.Common.{◌≡◌, ◌*◌, ◌/◌, subst, sym, ◌∙◌, arith, inl, inr}
use Rattle.std.proofs.lemmas.Bool.{cases_eq}
use Rattle.area_space.specs.Table.{IsOld, stale}
use Rattle.one_area.proofs.area.has_no_old.Goals as goal

pub loop-region-preserved : goal.loop-region-preserved
loop-region-preserved c = λ r low old.
    elim (cases_eq r c.loop-region.region) [
      | inl e ↦
          let here : c.loop-region.region * 4096 / 4096 ≡ c.loop-region.region = omega arith in
          let is = c.is_old.ensures.1 (subst (IsOld c.args.table.now) (e ∙ sym here) old) in
          let no = c.if-is_old.false in
          absurd (cc)
      | inr ne ↦ c.loop-region.invariant r (omega arith) old
    ]

pub returns : goal.returns
returns c = λ _ r old.
    let low = c.regions-regions.ensures.sound.sound.within (stale old.0) r old.1 in
    let n = c.regions-regions.ensures.regions in
    c.loop-region.invariant r (omega arith) old
