-- Charges and husks change.
use Rattle.std.proofs.Common.{◌≡◌, ◌≢◌, ℕ, zero, suc, ◌+◌, ◌*◌, ◌-◌, ◌/◌, ◌%◌, ◌<◌, ◌≤◌, List, [], length, slice_index, refl, sym, ◌∙◌, ap, subst, arith, inl, inr, length-set, get_or-set_same, get_or-set_other}
use Rattle.std.proofs.lemmas.Bool.{cases_eq}
use Rattle.std.proofs.Math.Nat.{div-lt_iff_lt-mul, mul-le-mul_left}
use Rattle.std.proofs.lemmas.Nat.{mul-add-lt}
use Rattle.lisp_graph.specs.Totals.{total}
use Rattle.lisp_graph.proofs.Totals.{total-suc}
use Rattle.area_space.specs.declared.classes.Class.{Class}
use Rattle.area_space.specs.declared.classes.Origin.TheVariants.{Moved}
use Rattle.area_space.proofs.Sums.{block-cong, block-le, block-at}
use Rattle.area_space.proofs.Slots.{slot_again, block-at_slot, block-other_slot}
use Rattle.area_space.specs.Accounts.{account_of, debt}
use Rattle.area_space.specs.Charges.{charged, discharged, husked, charged_by, AllowsOrigin}
use Rattle.area_space.specs.Sound.{IsTable}
use Rattle.area_space.specs.Sums.{block, both}
use Rattle.area_space.specs.Table.{Table, levels_of, slots_of, slot_of, areas_of, quota_of, chain, live, stale}

-- other charges and husks, which owe nothing for an empty chain and keep to the quotas
pub owed_is : (t : Table) (charges husks : List ℕ) → IsTable t → length charges ≡ length t.charges → length husks ≡ length t.husks
    → ((class : ℕ) → chain t class ≡ [] → slice_index charges class + slice_index husks class ≡ 0)
    → ((area : ℕ) → area < areas_of t → block (both (λ c. slice_index charges c + slice_index husks c)) (levels_of t) area ≤ quota_of t area)
    → IsTable (record t { charges = charges; husks = husks })
owed_is t charges husks v cs hs owing paid = record {
  few_regions = v.few_regions;
  few_levels = v.few_levels;
  few_areas = v.few_areas;
  small = v.small;
  kinds_size = v.kinds_size;
  chains_size = v.chains_size;
  charges_size = cs ∙ v.charges_size;
  husks_size = hs ∙ v.husks_size;
  used_size = v.used_size;
  marks_size = v.marks_size;
  sound = v.sound;
  full = v.full;
  blank = v.blank;
  unmarked = v.unmarked;
  owing = owing;
  packed = v.packed;
  fitting = v.fitting;
  paid = paid;
  counted = v.counted;
  idle = v.idle;
}

pub charged_is : (t : Table) (slot amount : ℕ) → IsTable t → slot < slots_of t → chain t (live slot) ≢ []
    → account_of t (slot / levels_of t) + amount ≤ quota_of t (slot / levels_of t)
    → IsTable (charged t (live slot) amount)
charged_is t slot amount v inside placed fits =
    let u : Table = charged t (live slot) amount in
    let b : live slot < length t.charges = (let z = v.charges_size in omega arith) in
    let here : debt u (live slot) ≡ debt t (live slot) + amount = (let x = get_or-set_same t.charges (live slot) (slice_index t.charges (live slot) + amount) 0 b in omega arith) in
    let other : (c : ℕ) → c ≢ live slot → debt t c ≡ debt u c = λ c ne. let x = get_or-set_other t.charges (live slot) c (slice_index t.charges (live slot) + amount) 0 ne in omega arith in
    let beside : (m : ℕ) → m ≢ slot → both (debt t) m ≡ both (debt u) m = λ m ne.
    let x = other (2 * m) (λ e. ne (omega arith)) in let y = other (2 * m + 1) (λ e. omega arith) in omega arith in
    let both_here : both (debt u) slot ≡ both (debt t) slot + amount = (let y = other (2 * slot + 1) (λ e. omega arith) in omega arith) in
    let low : 0 < levels_of t = omega arith in
    owed_is t u.charges t.husks v (length-set t.charges (live slot) (slice_index t.charges (live slot) + amount)) refl
    (λ c e. elim (cases_eq c (live slot)) [
      | inl same ↦ absurd (placed (ap (chain t) (sym same) ∙ e))
      | inr ne ↦ sym (other c ne) ∙ v.owing c e
    ])
    (λ a bound. elim (cases_eq a (slot / levels_of t)) [
      | inl e ↦
          let at = block-at_slot (both (debt t)) (both (debt u)) (levels_of t) slot low beside in
          let sum : account_of u (slot / levels_of t) ≤ quota_of t (slot / levels_of t) = omega arith in
          subst (λ (q : ℕ). account_of u q ≤ quota_of t q) (sym e) sum
      | inr ne ↦
          let same = block-other_slot (both (debt t)) (both (debt u)) (levels_of t) slot a low ne beside in
          let before = v.paid a bound in
          omega arith
    ])

pub discharged_is : (t : Table) (class amount : ℕ) → IsTable t → class < 2 * slots_of t → IsTable (discharged t class amount)
discharged_is t class amount v inside =
    let u : Table = discharged t class amount in
    let b : class < length t.charges = (let z = v.charges_size in omega arith) in
    let less : (c : ℕ) → debt u c ≤ debt t c = λ c.
    elim (cases_eq c class) [
      | inl e ↦
          let x = get_or-set_same t.charges class (slice_index t.charges class - amount) 0 b in
          subst (λ (q : ℕ). debt u q ≤ debt t q) (sym e) (omega arith)
      | inr ne ↦ let x = get_or-set_other t.charges class c (slice_index t.charges class - amount) 0 ne in omega arith
    ] in
    owed_is t u.charges t.husks v (length-set t.charges class (slice_index t.charges class - amount)) refl
    (λ c e. let x = less c in let y = v.owing c e in omega arith)
    (λ a bound.
    let x = block-le (both (debt u)) (both (debt t)) (levels_of t) a (λ m. let p = less (2 * m) in let q = less (2 * m + 1) in omega arith) in
    let y = v.paid a bound in
    omega arith)

-- a husk is owed as its charge was
pub husked_debt : (t : Table) (class words : ℕ) → IsTable t → class < 2 * slots_of t → words ≤ slice_index t.charges class → (c : ℕ) → debt (husked t class words) c ≡ debt t c
husked_debt t class words v inside enough c =
    let u : Table = husked t class words in
    let b : class < length t.charges = (let z = v.charges_size in omega arith) in
    let b2 : class < length t.husks = (let z = v.husks_size in omega arith) in
    elim (cases_eq c class) [
      | inl e ↦
          let x = get_or-set_same t.charges class (slice_index t.charges class - words) 0 b in
          let y = get_or-set_same t.husks class (slice_index t.husks class + words) 0 b2 in
          subst (λ (q : ℕ). debt u q ≡ debt t q) (sym e) (omega arith)
      | inr ne ↦
          let x = get_or-set_other t.charges class c (slice_index t.charges class - words) 0 ne in
          let y = get_or-set_other t.husks class c (slice_index t.husks class + words) 0 ne in
          omega arith
    ]

pub husked_is : (t : Table) (class words : ℕ) → IsTable t → class < 2 * slots_of t → words ≤ slice_index t.charges class → IsTable (husked t class words)
husked_is t class words v inside enough =
    let u : Table = husked t class words in
    let same = husked_debt t class words v inside enough in
    owed_is t u.charges u.husks v (length-set t.charges class (slice_index t.charges class - words)) (length-set t.husks class (slice_index t.husks class + words))
    (λ c e. same c ∙ v.owing c e)
    (λ a bound.
    let x = block-cong (both (debt u)) (both (debt t)) (levels_of t) a (λ m. let p = same (2 * m) in let q = same (2 * m + 1) in omega arith) in
    let y = v.paid a bound in
    omega arith)

term-le : (f : ℕ → ℕ) (k n : ℕ) → k < n → f k ≤ total f n
term-le f k zero l = absurd (omega arith)
term-le f k (suc n) l =
    elim (cases_eq k n) [
      | inl e ↦ let a = total-suc f n in let b = ap f e in omega arith
      | inr ne ↦ let a = total-suc f n in let low : k < n = omega arith in let b = term-le f k n low in omega arith
    ]

pub area_below : (t : Table) (slot : ℕ) → slot < slots_of t → slot / levels_of t < areas_of t
area_below t slot low = let i = div-lt_iff_lt-mul {k = levels_of t} {x = slot} {y = areas_of t} (omega arith) in i.1 low

pub debt_in_account : (t : Table) (class : ℕ) → debt t class ≤ account_of t (class / 2 / levels_of t)
debt_in_account t class =
    let h = levels_of t in
    let k = class / 2 in
    let e = slot_again h k (omega arith) in
    let b : k % h < h = omega arith in
    let one = term-le (λ l. both (debt t) (k / h * h + l)) (k % h) h b in
    let two : both (debt t) (k / h * h + k % h) ≡ both (debt t) k = ap (both (debt t)) e in
    let x : debt t class ≤ both (debt t) k =
    elim (cases_eq (class % 2) 0) [
      | inl even ↦ let y : debt t (2 * k) ≡ debt t class = ap (debt t) (omega arith) in omega arith
      | inr odd ↦ let y : debt t (2 * k + 1) ≡ debt t class = ap (debt t) (omega arith) in omega arith
    ] in
    omega arith

pub debt_small : (t : Table) (class : ℕ) → IsTable t → class < 2 * slots_of t → debt t class ≤ 1048576
debt_small t class v low =
    let half : class / 2 < slots_of t = omega arith in
    let a = area_below t (class / 2) half in
    let b = debt_in_account t class in
    let c = v.paid (class / 2 / levels_of t) a in
    let d = v.small (class / 2 / levels_of t) in
    omega arith

-- what was taken from an old class may be charged again in its area
pub moved_fits : (t : Table) (slot charge : ℕ) (from : Class) → IsTable t → slot < slots_of t → AllowsOrigin t slot charge (Moved from)
    → account_of (discharged t (stale (slot_of t from.area from.level)) charge) (slot / levels_of t) + charge ≤ quota_of t (slot / levels_of t)
moved_fits t slot charge from v inside (is_stale, in_area, in_level, enough) =
    let k = slot_of t from.area from.level in
    let class = stale k in
    let u : Table = discharged t class charge in
    let a = area_below t slot inside in
    let area_in : from.area < areas_of t = omega arith in
    let low : k < slots_of t = (let m = mul-add-lt from.area (levels_of t) from.level (areas_of t) area_in in_level in omega arith) in
    let b : class < length t.charges = (let z = v.charges_size in omega arith) in
    let here = get_or-set_same t.charges class (slice_index t.charges class - charge) 0 b in
    let other : (c : ℕ) → c ≢ class → debt t c ≡ debt u c = λ c ne. let x = get_or-set_other t.charges class c (slice_index t.charges class - charge) 0 ne in omega arith in
    let beside : (m : ℕ) → m ≢ k → both (debt t) m ≡ both (debt u) m = λ m ne.
    let x = other (2 * m) (λ e. omega arith) in let y = other (2 * m + 1) (λ e. ne (omega arith)) in omega arith in
    let at = block-at (both (debt t)) (both (debt u)) (levels_of t) from.area from.level in_level beside in
    let there : both (debt u) k + charge ≡ both (debt t) k = (let y = other (2 * k) (λ e. omega arith) in omega arith) in
    let before = v.paid from.area area_in in
    let sum : account_of u from.area + charge ≤ quota_of t from.area = omega arith in
    subst (λ (q : ℕ). account_of u q + charge ≤ quota_of t q) in_area sum

-- the old class that a charge leaves
pub left_below : (t : Table) (slot charge : ℕ) (from : Class) → slot < slots_of t → AllowsOrigin t slot charge (Moved from) → slot_of t from.area from.level < slots_of t
left_below t slot charge from inside (is_stale, in_area, in_level, enough) =
    let a = area_below t slot inside in
    let area_in : from.area < areas_of t = omega arith in
    let m = mul-add-lt from.area (levels_of t) from.level (areas_of t) area_in in_level in
    omega arith

pub moved_is : (t : Table) (slot charge : ℕ) (from : Class) → IsTable t → slot < slots_of t → chain t (live slot) ≢ [] → AllowsOrigin t slot charge (Moved from)
    → IsTable (charged_by t slot charge (Moved from))
moved_is t slot charge from v inside placed allowed =
    let class = stale (slot_of t from.area from.level) in
    let low = left_below t slot charge from inside allowed in
    charged_is (discharged t class charge) slot charge (discharged_is t class charge v (omega arith)) inside placed (moved_fits t slot charge from v inside allowed)

pub slots_few : (t : Table) → IsTable t → slots_of t ≤ 112
slots_few t v =
    let a = mul-le-mul_left (levels_of t) v.few_areas in
    let b = v.few_levels in
    omega arith
