-- The account of an area is that of its objects.
use Rattle.std.proofs.Common.{◌≡◌, ℕ, suc, ◌+◌, ◌*◌, ◌<◌, List, length, slice_index, ◌∙◌, ap, arith}
use Rattle.std.proofs.lemmas.List.{get_or-map}
use Rattle.std.proofs.lemmas.List.{length-map}
use Rattle.area_space.specs.lisp_graph.declared.world.AreaRule.{AreaRule}
use Rattle.area_space.specs.lisp_graph.Totals.{total}
use Rattle.area_space.proofs.lisp_graph.Totals.{total-cong}
use Rattle.area_space.specs.mem_port.Store.{Store}
use Rattle.area_space.specs.Sums.{both}
use Rattle.area_space.specs.Table.{Table, areas_of, levels_of, live, stale, quota_of}
use Rattle.area_space.specs.Accounts.{debt, account_of}
use Rattle.lisp_meaning.specs.State.{rule_of, no_rule}
use Rattle.lisp_meaning.specs.Charges.{account}
use Rattle.lisp_meaning.specs.Image.{Image}
use Rattle.lisp_meaning.proofs.reading.Adequacy.{account_read}
use Rattle.lisp_ground.specs.Image.{ground_image}
use Rattle.lisp_ground.specs.GroundInvariant.{GroundInvariant}
use Rattle.lisp_meaning.specs.Interpretation.{Interpretation}
use Rattle.lisp_ground.proofs.sums.Charges.{by_class_at}

module _ (m : Store) (t : Table) (it : Interpretation) (on : GroundInvariant m t it) where
  abbrev g : Image
  g = ground_image m t

  pub levels_agree : levels_of t ≡ suc it.top
  levels_agree = let e = on.agrees.levels in omega arith

  pub areas_agree : areas_of t ≡ length it.areas
  areas_agree = ap length on.agrees.quotas ∙ length-map it.areas (λ (rule : AreaRule). rule.quota)

  pub quota_agrees : (area : ℕ) → area < length it.areas → quota_of t area ≡ (rule_of it.areas area).quota
  quota_agrees area low = ap (λ (qs : List ℕ). slice_index qs area) on.agrees.quotas ∙ get_or-map (λ (rule : AreaRule). rule.quota) it.areas area no_rule 0 low

  -- the account that the table keeps
  pub account_agrees : (area : ℕ) → account_of t area ≡ account it.top it.store it.aim area
  account_agrees area =
      total-cong (λ l. both (debt t) (area * levels_of t + l)) (λ l. g.live_charge area l + g.live_husks area l + g.old_charge area l + g.old_husks area l) (levels_of t) each
      ∙ (ap (total (λ l. g.live_charge area l + g.live_husks area l + g.old_charge area l + g.old_husks area l)) levels_agree
      ∙ account_read g it on.kept area)
    where
      each : (l : ℕ) → l < levels_of t → both (debt t) (area * levels_of t + l) ≡ (ground_image m t).live_charge area l + (ground_image m t).live_husks area l + (ground_image m t).old_charge area l + (ground_image m t).old_husks area l
      each l low =
          let a = by_class_at t live t.charges area l low in
          let b = by_class_at t live t.husks area l low in
          let c = by_class_at t stale t.charges area l low in
          let d = by_class_at t stale t.husks area l low in
          omega arith
