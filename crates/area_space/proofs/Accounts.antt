-- The accounts of areas follow the charges and the husks of their classes.
use Rattle.std.proofs.Common.{◌≡◌, ◌≢◌, ℕ, ◌+◌, ◌*◌, ◌-◌, ◌/◌, ◌%◌, ◌<◌, ◌≤◌, List, [], length, slice_index, slice_set, sym, ◌∙◌, ap, subst, arith, inl, inr, length-set, get_or-set_same, get_or-set_other}
use Rattle.std.proofs.lemmas.Bool.{cases_eq}
use Rattle.std.proofs.lemmas.Nat.{div-mul-add}
use Rattle.area_space.proofs.Sums.{block-cong}
use Rattle.area_space.proofs.Slots.{block-at_slot, block-other_slot}
use Rattle.area_space.proofs.ChargeChanges.{area_below, debt_in_account, husked_debt, discharged_is, left_below}
use Rattle.area_space.proofs.CondemnedClasses.{made_old_facts}
use Rattle.area_space.specs.declared.classes.Class.{Class}
use Rattle.area_space.specs.declared.classes.Origin.TheVariants.{Moved}
use Rattle.area_space.specs.Accounts.{account_of, debt}
use Rattle.area_space.specs.Charges.{charged, discharged, husked, charged_by, AllowsOrigin}
use Rattle.area_space.specs.Flips.{made_old}
use Rattle.area_space.specs.Frees.{forgiven}
use Rattle.area_space.specs.Inside.{HasAccounts}
use Rattle.area_space.specs.Sound.{IsTable}
use Rattle.area_space.specs.Sums.{both}
use Rattle.area_space.specs.Table.{Table, levels_of, slots_of, areas_of, slot_of, chain, live, stale}

-- what one slot owes is another number
slot_owes : (t : Table) (charges husks debts : List ℕ) (slot owed : ℕ) → slot < slots_of t → HasAccounts debts t
    → ((m : ℕ) → m ≢ slot → both (debt t) m ≡ both (debt (record t { charges = charges; husks = husks })) m)
    → slice_index debts (slot / levels_of t) + both (debt (record t { charges = charges; husks = husks })) slot ≡ owed + both (debt t) slot
    → HasAccounts (slice_set debts (slot / levels_of t) owed) (record t { charges = charges; husks = husks })
slot_owes t charges husks debts slot owed low has beside sum =
    let u : Table = record t { charges = charges; husks = husks } in
    let k : ℕ = slot / levels_of t in
    let inside : k < areas_of t = area_below t slot low in
    let some : 0 < levels_of t = omega arith in
    let size = has.0 in
    let before = has.1 k inside in
    let at = block-at_slot (both (debt t)) (both (debt u)) (levels_of t) slot some beside in
    let here = get_or-set_same debts k owed 0 (omega arith) in (
      length-set debts k owed ∙ size,
      λ a bound. elim (cases_eq a k) [
        | inl e ↦ subst (λ (q : ℕ). slice_index (slice_set debts k owed) q ≡ account_of u q) (sym e) (omega arith)
        | inr ne ↦ get_or-set_other debts k a owed 0 ne ∙ (has.1 a bound ∙ block-other_slot (both (debt t)) (both (debt u)) (levels_of t) slot a some ne beside)
      ],
    )

-- no slot owes another number
same_owed : (t : Table) (charges husks debts : List ℕ) → HasAccounts debts t → ((m : ℕ) → both (debt t) m ≡ both (debt (record t { charges = charges; husks = husks })) m)
    → HasAccounts debts (record t { charges = charges; husks = husks })
same_owed t charges husks debts has same =
    let u : Table = record t { charges = charges; husks = husks } in
    (has.0, λ a bound. has.1 a bound ∙ block-cong (both (debt t)) (both (debt u)) (levels_of t) a same)

pub charged_accounts : (t : Table) (slot amount : ℕ) (debts : List ℕ) → IsTable t → slot < slots_of t → HasAccounts debts t
    → HasAccounts (slice_set debts (slot / levels_of t) (slice_index debts (slot / levels_of t) + amount)) (charged t (live slot) amount)
charged_accounts t slot amount debts v low has =
    let u : Table = charged t (live slot) amount in
    let b : live slot < length t.charges = (let z = v.charges_size in omega arith) in
    let here = get_or-set_same t.charges (live slot) (slice_index t.charges (live slot) + amount) 0 b in
    let other : (c : ℕ) → c ≢ live slot → debt t c ≡ debt u c = λ c ne. let x = get_or-set_other t.charges (live slot) c (slice_index t.charges (live slot) + amount) 0 ne in omega arith in
    slot_owes t u.charges t.husks debts slot (slice_index debts (slot / levels_of t) + amount) low has
    (λ m ne. let x = other (2 * m) (λ e. ne (omega arith)) in let y = other (2 * m + 1) (λ e. omega arith) in omega arith)
    (let y = other (2 * slot + 1) (λ e. omega arith) in omega arith)

-- an area owes what a class of it owes
pub class_in_account : (t : Table) (class : ℕ) (debts : List ℕ) → class < 2 * slots_of t → HasAccounts debts t → debt t class ≤ slice_index debts (class / 2 / levels_of t)
class_in_account t class debts low has =
    let half : class / 2 < slots_of t = omega arith in
    let a = area_below t (class / 2) half in
    let b = debt_in_account t class in
    let e = has.1 (class / 2 / levels_of t) a in
    omega arith

pub discharged_accounts : (t : Table) (class amount : ℕ) (debts : List ℕ) → IsTable t → class < 2 * slots_of t → amount ≤ slice_index t.charges class → HasAccounts debts t
    → HasAccounts (slice_set debts (class / 2 / levels_of t) (slice_index debts (class / 2 / levels_of t) - amount)) (discharged t class amount)
discharged_accounts t class amount debts v low enough has =
    let u : Table = discharged t class amount in
    let k = class / 2 in
    let b : class < length t.charges = (let z = v.charges_size in omega arith) in
    let here = get_or-set_same t.charges class (slice_index t.charges class - amount) 0 b in
    let other : (c : ℕ) → c ≢ class → debt t c ≡ debt u c = λ c ne. let x = get_or-set_other t.charges class c (slice_index t.charges class - amount) 0 ne in omega arith in
    let owed = class_in_account t class debts low has in
    let sum : both (debt u) k + amount ≡ both (debt t) k =
    elim (cases_eq (class % 2) 0) [
      | inl even ↦
          let x : debt t (2 * k) ≡ debt t class = ap (debt t) (omega arith) in
          let y : debt u (2 * k) ≡ debt u class = ap (debt u) (omega arith) in
          let z = other (2 * k + 1) (λ e. omega arith) in
          omega arith
      | inr odd ↦
          let x : debt t (2 * k + 1) ≡ debt t class = ap (debt t) (omega arith) in
          let y : debt u (2 * k + 1) ≡ debt u class = ap (debt u) (omega arith) in
          let z = other (2 * k) (λ e. omega arith) in
          omega arith
    ] in
    slot_owes t u.charges t.husks debts k (slice_index debts (k / levels_of t) - amount) (omega arith) has
    (λ m ne. let x = other (2 * m) (λ e. ne (omega arith)) in let y = other (2 * m + 1) (λ e. ne (omega arith)) in omega arith)
    (omega arith)

-- a charge that moves stays in its area
pub moved_accounts : (t : Table) (slot amount : ℕ) (from : Class) (debts : List ℕ) → IsTable t → slot < slots_of t → AllowsOrigin t slot amount (Moved from) → HasAccounts debts t
    → HasAccounts debts (charged_by t slot amount (Moved from))
moved_accounts t slot amount from debts v inside allowed has =
    let in_area = allowed.1 in
    let in_level = allowed.2 in
    let enough = allowed.3 in
    let h = levels_of t in
    let class = stale (slot_of t from.area from.level) in
    let low = left_below t slot amount from inside allowed in
    let k = slot / h in
    let there : class / 2 ≡ from.area * h + from.level = omega arith in
    let k1 : class / 2 / h ≡ k = ap (λ (q : ℕ). q / h) there ∙ (div-mul-add from.area h from.level in_level ∙ in_area) in
    let less = discharged_accounts t class amount debts v (omega arith) enough has in
    let first = slice_set debts (class / 2 / h) (slice_index debts (class / 2 / h) - amount) in
    let more = charged_accounts (discharged t class amount) slot amount first (discharged_is t class amount v (omega arith)) inside less in
    let owed = class_in_account t class debts (omega arith) has in
    let bound : k < areas_of t = area_below t slot inside in
    let size = has.0 in
    let size1 = less.0 in
    let taken : slice_index first k ≡ slice_index debts k - amount = subst (λ (q : ℕ). slice_index (slice_set debts q (slice_index debts q - amount)) k ≡ slice_index debts k - amount) (sym k1) (get_or-set_same debts k (slice_index debts k - amount) 0 (omega arith)) in
    let held : amount ≤ slice_index debts k = subst (λ (q : ℕ). amount ≤ slice_index debts q) k1 (omega arith) in
    let given = get_or-set_same first k (slice_index first k + amount) 0 (omega arith) in (
      has.0,
      λ a inside_a. elim (cases_eq a k) [
        | inl e ↦ subst (λ (q : ℕ). slice_index debts q ≡ account_of (charged_by t slot amount (Moved from)) q) (sym e) (let after = more.1 k bound in omega arith)
        | inr ne ↦ sym (get_or-set_other first k a (slice_index first k + amount) 0 ne ∙ get_or-set_other debts (class / 2 / h) a (slice_index debts (class / 2 / h) - amount) 0 (λ e. ne (e ∙ k1))) ∙ more.1 a inside_a
      ],
    )

pub husked_accounts : (t : Table) (class words : ℕ) (debts : List ℕ) → IsTable t → class < 2 * slots_of t → words ≤ slice_index t.charges class → HasAccounts debts t → HasAccounts debts (husked t class words)
husked_accounts t class words debts v low enough has =
    let u : Table = husked t class words in
    let same = husked_debt t class words v low enough in
    same_owed t u.charges u.husks debts has (λ m. let p = same (2 * m) in let q = same (2 * m + 1) in omega arith)

pub forgiven_accounts : (t : Table) (slot : ℕ) (debts : List ℕ) → IsTable t → slot < slots_of t → HasAccounts debts t
    → HasAccounts (slice_set debts (slot / levels_of t) (slice_index debts (slot / levels_of t) - debt t (stale slot))) (forgiven t slot)
forgiven_accounts t slot debts v low has =
    let u : Table = forgiven t slot in
    let c0 = stale slot in
    let s = v.charges_size in
    let h = v.husks_size in
    let x = get_or-set_same t.charges c0 0 0 (omega arith) in
    let y = get_or-set_same t.husks c0 0 0 (omega arith) in
    let other : (c : ℕ) → c ≢ c0 → debt t c ≡ debt u c = λ c ne.
    let p = get_or-set_other t.charges c0 c 0 0 ne in let q = get_or-set_other t.husks c0 c 0 0 ne in omega arith in
    let owed = class_in_account t c0 debts (omega arith) has in
    let half : c0 / 2 ≡ slot = omega arith in
    let enough = subst (λ (q : ℕ). debt t c0 ≤ slice_index debts (q / levels_of t)) half owed in
    slot_owes t u.charges u.husks debts slot (slice_index debts (slot / levels_of t) - debt t c0) low has
    (λ m ne. let p = other (2 * m) (λ e. omega arith) in let q = other (2 * m + 1) (λ e. ne (omega arith)) in omega arith)
    (let z = other (2 * slot) (λ e. omega arith) in omega arith)

pub turned_accounts : (t : Table) (slot : ℕ) (debts : List ℕ) → IsTable t → slot < slots_of t → chain t (stale slot) ≡ [] → HasAccounts debts t → HasAccounts debts (made_old t slot)
turned_accounts t slot debts v low empty has =
    let u : Table = made_old t slot in
    let f = made_old_facts t slot v low empty in
    let owes = v.owing (stale slot) empty in
    same_owed t u.charges u.husks debts has
    (λ m. elim (cases_eq m slot) [
      | inl e ↦
          let a = f.live_charge in
          let b = f.old_charge in
          let c = f.live_husk in
          let d = f.old_husk in
          subst (λ (q : ℕ). both (debt t) q ≡ both (debt u) q) (sym e) (omega arith)
      | inr ne ↦
          let a = f.charges (2 * m) (λ e. ne (omega arith)) (λ e. omega arith) in
          let b = f.charges (2 * m + 1) (λ e. omega arith) (λ e. ne (omega arith)) in
          let c = f.husks (2 * m) (λ e. ne (omega arith)) (λ e. omega arith) in
          let d = f.husks (2 * m + 1) (λ e. omega arith) (λ e. ne (omega arith)) in
          omega arith
    ])
