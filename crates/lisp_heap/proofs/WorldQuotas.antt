-- A world whose lines were accepted fits the quotas of its areas.
use Rattle.std.proofs.Common.{◌≡◌, ℕ, suc, ◌≤◌, refl, ap, arith, List, [], Option, Some, None, slice_get}
use Rattle.std.specs.Option.{option_map_or}
use Rattle.std.proofs.lemmas.Option.{get_or_from_slice_get}
use Rattle.lisp_graph.specs.declared.world.AreaRule.{AreaRule}
use Rattle.lisp_graph.specs.declared.world.World.{World}
use Rattle.lisp_graph.proofs.Totals.{total-zero}
use Rattle.word_graph.specs.lisp_meaning.State.{no_rule, rule_of}
use Rattle.word_graph.specs.lisp_meaning.Charges.{account_now}
use Rattle.word_graph.specs.lisp_meaning.Opening.{opening}
use Rattle.word_graph.proofs.lisp_meaning.sums.Charges.{total-none}
use Rattle.heap_load.specs.Drafts.{charge_in, with_objects}
use Rattle.heap_load.proofs.AreaCharges.{account_more}
use Rattle.world_text.specs.Limits.{IsAccepted}
use Rattle.world_text.specs.Objects.{quota_in}
use Rattle.heap_load.specs.Loading.{FitsQuotas}

-- without objects nothing is charged
account_none : (world : World) (area : ℕ) → account_now (opening (with_objects world [])) area ≡ 0
account_none world area =
    let a = total-zero in
    let b = total-none (λ level. 0) (suc world.space.levels) (λ m low. refl) in
    omega (arith, a, b)

account_is : (world : World) (area : ℕ) → account_now (opening world) area ≡ charge_in area world.objects
account_is world area =
    let more = account_more (with_objects world []) world.objects area in
    let none = account_none world area in
    omega (arith, more, none)

quota_is : (areas : List AreaRule) (area : ℕ) → quota_in areas area ≤ (rule_of areas area).quota
quota_is areas area = go (slice_get areas area) refl
  where
    go : (o : Option AreaRule) → slice_get areas area ≡ o → option_map_or (λ (rule : AreaRule). rule.quota) o 0 ≤ (rule_of areas area).quota
    go None is = omega arith
    go (Some rule) is = let e = ap (λ (x : AreaRule). x.quota) (get_or_from_slice_get areas area rule no_rule is) in omega (arith, e)

pub accepted_fit : (world : World) → IsAccepted world → FitsQuotas world
accepted_fit world accepted area within =
    let a = account_is world area in
    let b = quota_is world.areas area in
    let c = accepted.quotas area within in
    omega (arith, a, b, c)
