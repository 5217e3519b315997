-- A place for words keeps the objects that the ground represents, and may be committed.
use Rattle.std.proofs.Common.{◌≡◌, ℕ, ◌+◌, ◌/◌, ◌<◌, ◌≤◌, true, length, refl, sym, ◌∙◌, ap, subst, arith, Option, Some, None}
use Rattle.area_space.specs.mem_port.Store.{Store}
use Rattle.area_space.specs.declared.classes.Origin.TheVariants.{New, Moved}
use Rattle.area_space.specs.Table.{Table, areas_of, levels_of, slot_of, live, stale, quota_of}
use Rattle.area_space.specs.Accounts.{account_of}
use Rattle.area_space.specs.Sound.{IsTable}
use Rattle.area_space.specs.Places.{IsEnd}
use Rattle.area_space.specs.Charges.{AllowsOrigin}
use Rattle.area_space.proofs.UsedEnds.{end_in_chain}
use Rattle.lisp_meaning.specs.State.{rule_of}
use Rattle.lisp_meaning.specs.Charges.{account}
use Rattle.lisp_ground.specs.Image.{ground_image}
use Rattle.lisp_ground.specs.GroundInvariant.{GroundInvariant}
use Rattle.lisp_meaning.specs.Interpretation.{Interpretation}
use Rattle.lisp_ground.specs.Placing.{Opens}
use Rattle.lisp_ground.proofs.sums.Accounts.{quota_agrees, account_agrees}
use Rattle.lisp_ground.proofs.sums.Charges.{by_class_at}
use Rattle.lisp_ground.proofs.regions.NewRegion.{opened_kept_on}
use Rattle.lisp_ground.proofs.regions.Slots.{slot_area}

pub place_kept_on : (m m' : Store) (t t' : Table) (region : Option ℕ) (area level : ℕ) (it : Interpretation)
    → GroundInvariant m t it → area < areas_of t → level < levels_of t → Opens m t m' t' region area level → GroundInvariant m' t' it
place_kept_on m m' t t' None area level it on area_in level_in p =
    subst (λ (x : Store). GroundInvariant x t' it) (sym p.behind) (subst (λ (x : Table). GroundInvariant m x it) (sym p.same) on)
place_kept_on m m' t t' (Some r) area level it on area_in level_in p =
    opened_kept_on m m' t t' r area level it on area_in level_in p.free p.chain p.region_level p.sound p.ground p.named

-- an address is the end of one class
pub one_end : (t : Table) (slot other at words : ℕ) → IsTable t → IsEnd t slot at words → IsEnd t other at words → other ≡ slot
one_end t slot other at words v e f =
    let same = v.sound.one_list (live other) (live slot) (at / 4096) (end_in_chain t other at words f) (end_in_chain t slot at words e) in
    omega arith

module _ (m : Store) (t : Table) (it : Interpretation) (on : GroundInvariant m t it) (area level at words : ℕ)
    (low : area < length it.areas) (level_in : level < levels_of t) (end : IsEnd t (slot_of t area level) at words) where
  area_there : (slot : ℕ) → IsEnd t slot at words → slot / levels_of t ≡ area
  area_there slot e = ap (λ (n : ℕ). n / levels_of t) (one_end t (slot_of t area level) slot at words on.table end e) ∙ slot_area t area level level_in

  -- a new object that fits the quota of its area may be committed
  pub new_allowed : (charge : ℕ) → account it.top it.store it.aim area + charge ≤ (rule_of it.areas area).quota → (slot : ℕ) → IsEnd t slot at words → AllowsOrigin t slot charge New
  new_allowed charge fits slot e =
      let a = account_agrees m t it on area in
      let q = quota_agrees m t it on area low in
      subst (λ (x : ℕ). account_of t x + charge ≤ quota_of t x) (sym (area_there slot e)) (omega arith)

  -- so may one that moves out of an old class that is charged for it
  pub moved_allowed : (charge from : ℕ) → from < levels_of t → charge ≤ (ground_image m t).old_charge area from → (slot : ℕ) → IsEnd t slot at words
      → AllowsOrigin t slot charge (Moved (record { area = area; level = from; stale = true }))
  moved_allowed charge from from_in enough slot e =
      let q = by_class_at t stale t.charges area from from_in in
      (refl, sym (area_there slot e), from_in, omega arith)
