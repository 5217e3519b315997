-- A place for a new object is committed.
use Rattle.std.proofs.Common.{ℕ, ◌≡◌, ◌+◌, ◌/◌, ◌≤◌, Option, Some, None, sym, ◌∙◌, ap, subst, arith}
use Rattle.std.specs.Prelude.{IfNone, IfSome}
use Rattle.area_space.specs.declared.classes.Origin.{Origin}
use Rattle.area_space.specs.declared.classes.Origin.TheVariants.{New, Moved, Reserve}
use Rattle.area_space.specs.Table.{Table, levels_of, slot_of, live, quota_of}
use Rattle.area_space.specs.Sound.{IsTable}
use Rattle.area_space.specs.Accounts.{account_of}
use Rattle.area_space.specs.Places.{IsEnd, opened}
use Rattle.area_space.specs.Charges.{AllowsOrigin}
use Rattle.transporter.proofs.lisp_ground.regions.Slots.{slot_area}
use Rattle.transporter.proofs.Places.{end_slot}
use Rattle.test_ground.specs.Written.{IsMade}

same-account : (t u : Table) (charge : ℕ) (region : Option ℕ) → IfNone region (u ≡ t) → IfSome region (λ r. u ≡ opened t (live (slot_of t 0 0)) r) → account_of t 0 + charge ≤ quota_of t 0 → account_of u 0 + charge ≤ quota_of u 0
same-account t u charge None same table fits = subst (λ (w : Table). account_of w 0 + charge ≤ quota_of w 0) (sym same) fits
same-account t u charge (Some r) same table fits = subst (λ (w : Table). account_of w 0 + charge ≤ quota_of w 0) (sym table) fits

same-slot : (t u : Table) (region : Option ℕ) → IfNone region (u ≡ t) → IfSome region (λ r. u ≡ opened t (live (slot_of t 0 0)) r) → slot_of t 0 0 ≡ slot_of u 0 0
same-slot t u None same table = ap (λ (w : Table). slot_of w 0 0) (sym same)
same-slot t u (Some r) same table = ap (λ (w : Table). slot_of w 0 0) (sym table)

pub end-there : (t u : Table) (at words : ℕ) (region : Option ℕ) → IfNone region (u ≡ t) → IfSome region (λ r. u ≡ opened t (live (slot_of t 0 0)) r) → IsEnd u (slot_of t 0 0) at words → IsEnd u (slot_of u 0 0) at words
end-there t u at words region same table e = subst (λ (k : ℕ). IsEnd u k at words) (same-slot t u region same table) e

new-allowed : (t u : Table) (at words charge : ℕ) (region : Option ℕ) → IsTable u → IfNone region (u ≡ t) → IfSome region (λ r. u ≡ opened t (live (slot_of t 0 0)) r) → account_of t 0 + charge ≤ quota_of t 0
    → IsEnd u (slot_of t 0 0) at words → (slot : ℕ) → IsEnd u slot at words → AllowsOrigin u slot charge New
new-allowed t u at words charge region v same table fits e slot e' =
    let first = end_slot u (slot_of u 0 0) slot at words words v (end-there t u at words region same table e) e' in
    let area : slot / levels_of u ≡ 0 = ap (λ (k : ℕ). k / levels_of u) (sym first) ∙ slot_area u 0 0 (omega arith) in
    subst (λ (a : ℕ). account_of u a + charge ≤ quota_of u a) (sym area) (same-account t u charge region same table fits)

pub made-allowed : (t u : Table) (at words charge : ℕ) (origin : Origin) (region : Option ℕ) → IsMade charge origin → IsTable u → IfNone region (u ≡ t) → IfSome region (λ r. u ≡ opened t (live (slot_of t 0 0)) r) → account_of t 0 + charge ≤ quota_of t 0
    → IsEnd u (slot_of t 0 0) at words → (slot : ℕ) → IsEnd u slot at words → AllowsOrigin u slot charge origin
made-allowed t u at words charge New region made v same table fits e slot e' = new-allowed t u at words charge region v same table fits e slot e'
made-allowed t u at words charge Reserve region made v same table fits e slot e' = made
made-allowed t u at words charge (Moved from) region made v same table fits e slot e' = absurd made
