-- Charges and husks of classes, as the image has them.
use Rattle.std.proofs.Common.{◌≡◌, ◌≢◌, ℕ, ◌+◌, ◌-◌, ◌*◌, ◌<◌, ◌≤◌, inl, inr, Bool, true, List, length, slice_index, slice_set, if◌then◌else◌, refl, sym, ◌∙◌, ap, arith, get_or-set_same, get_or-set_other, length-set}
use Rattle.std.proofs.lemmas.Bool.{cases_lt, lt-ltb, le-ltb}
use Rattle.area_space.specs.mem_port.Store.{Store}
use Rattle.area_space.specs.declared.classes.Class.{Class}
use Rattle.area_space.specs.declared.classes.Origin.TheVariants.{New, Moved, Reserve}
use Rattle.area_space.specs.Table.{Table, levels_of, slots_of, slot_of, live, stale}
use Rattle.area_space.specs.Sound.{IsTable}
use Rattle.area_space.specs.Charges.{committed, husked}
use Rattle.lisp_meaning.specs.Placed.{Charged, Rehomed, Recharged}
use Rattle.lisp_ground.specs.Image.{by_class, ground_image}
use Rattle.lisp_ground.proofs.regions.Slots.{slot_other}

pub by_class_at : (t : Table) (class : ℕ → ℕ) (numbers : List ℕ) (area level : ℕ) → level < levels_of t → by_class t class numbers area level ≡ slice_index numbers (class (slot_of t area level))
by_class_at t class numbers area level low = ap (λ (b : Bool). if b then slice_index numbers (class (slot_of t area level)) else 0) (lt-ltb level (levels_of t) low)

pub by_class_past : (t : Table) (class : ℕ → ℕ) (numbers : List ℕ) (area level : ℕ) → levels_of t ≤ level → by_class t class numbers area level ≡ 0
by_class_past t class numbers area level past = ap (λ (b : Bool). if b then slice_index numbers (class (slot_of t area level)) else 0) (le-ltb level (levels_of t) past)

-- the same numbers at the same classes
pub by_class_same : (t u : Table) (class : ℕ → ℕ) (old new : List ℕ) (area level : ℕ) → u.top ≡ t.top
    → (level < levels_of t → slice_index new (class (slot_of t area level)) ≡ slice_index old (class (slot_of t area level))) → by_class u class new area level ≡ by_class t class old area level
by_class_same t u class old new area level top same =
    ap (λ (n : ℕ). by_class (record t { top = n }) class new area level) top
    ∙ elim (cases_lt level (levels_of t)) [
      | inl low ↦ by_class_at t class new area level low ∙ (same low ∙ sym (by_class_at t class old area level low))
      | inr past ↦ by_class_past t class new area level past ∙ sym (by_class_past t class old area level past)
    ]

-- the number of one class is another
module _ (t u : Table) (class : ℕ → ℕ) (old : List ℕ) (area level value : ℕ) (top : u.top ≡ t.top) (low : level < levels_of t) where
  pub by_class_here : class (slot_of t area level) < length old → by_class u class (slice_set old (class (slot_of t area level)) value) area level ≡ value
  by_class_here inside =
      ap (λ (n : ℕ). by_class (record t { top = n }) class (slice_set old (class (slot_of t area level)) value) area level) top
      ∙ (by_class_at t class (slice_set old (class (slot_of t area level)) value) area level low ∙ get_or-set_same old (class (slot_of t area level)) value 0 inside)

  pub by_class_else : ((k l : ℕ) → class k ≡ class l → k ≡ l) → (x y : ℕ) → ((x ≡ area) × (y ≡ level) → ⊥)
      → by_class u class (slice_set old (class (slot_of t area level)) value) x y ≡ by_class t class old x y
  by_class_else one x y ne = by_class_same t u class old (slice_set old (class (slot_of t area level)) value) x y top (λ lower.
      get_or-set_other old (class (slot_of t area level)) (class (slot_of t x y)) value 0 (λ e. slot_other t area level x y low lower ne (one (slot_of t x y) (slot_of t area level) e)))

  -- and another kind of class has none of it
  pub by_class_beside : (other : ℕ → ℕ) → ((k l : ℕ) → other k ≢ class l) → (x y : ℕ)
      → by_class u other (slice_set old (class (slot_of t area level)) value) x y ≡ by_class t other old x y
  by_class_beside other apart x y = by_class_same t u other old (slice_set old (class (slot_of t area level)) value) x y top (λ lower.
      get_or-set_other old (class (slot_of t area level)) (other (slot_of t x y)) value 0 (apart (slot_of t x y) (slot_of t area level)))

pub one_live : (k l : ℕ) → live k ≡ live l → k ≡ l
one_live k l e = omega arith

pub one_stale : (k l : ℕ) → stale k ≡ stale l → k ≡ l
one_stale k l e = omega arith

pub stale_not_live : (k l : ℕ) → stale k ≢ live l
stale_not_live k l e = omega arith

pub live_not_stale : (k l : ℕ) → live k ≢ stale l
live_not_stale k l e = omega arith

-- A commit, by the origin of the charge

module _ (s s' : Store) (t u : Table) (b count charge area level : ℕ) (v : IsTable t) (low : level < levels_of t) (inside : slot_of t area level < slots_of t) where
  abbrev new_charge : ℕ
  new_charge = slice_index t.charges (live (slot_of t area level)) + charge

  pub charged_image : u ≡ record (committed t (slot_of t area level) b count charge New) { pages = u.pages } → Charged (ground_image s t) (ground_image s' u) area level charge
  charged_image is = record {
    live_class =
        changed live area level
        ∙ (by_class_here t t live t.charges area level new_charge refl low (let z = v.charges_size in omega arith)
        ∙ ap (λ (n : ℕ). n + charge) (sym (by_class_at t live t.charges area level low)));
    live_else = λ x y ne. changed live x y ∙ by_class_else t t live t.charges area level new_charge refl low one_live x y ne;
    old = λ x y. changed stale x y ∙ by_class_beside t t live t.charges area level new_charge refl low stale stale_not_live x y;
    live_husks = λ x y. ap (λ (w : Table). by_class w live w.husks x y) is;
    old_husks = λ x y. ap (λ (w : Table). by_class w stale w.husks x y) is;
  }
    where
      changed : (class : ℕ → ℕ) (x y : ℕ) → by_class u class u.charges x y ≡ by_class t class (slice_set t.charges (live (slot_of t area level)) new_charge) x y
      changed class x y = ap (λ (w : Table). by_class w class w.charges x y) is

  -- nothing is charged, and no husk is noted
  pub reserved_image : (before : ℕ) → u ≡ record (committed t (slot_of t area level) b count charge Reserve) { pages = u.pages } → Recharged (ground_image s t) (ground_image s' u) area level before before 0
  reserved_image before is = record {
    live_class = ap (λ (w : Table). by_class w live w.charges area level + before) is;
    live_else = λ x y ne. ap (λ (w : Table). by_class w live w.charges x y) is;
    old = λ x y. ap (λ (w : Table). by_class w stale w.charges x y) is;
    husks_class = (let e = ap (λ (w : Table). by_class w live w.husks area level) is in omega arith);
    husks_else = λ x y ne. ap (λ (w : Table). by_class w live w.husks x y) is;
    old_husks = λ x y. ap (λ (w : Table). by_class w stale w.husks x y) is;
  }

-- a charge that leaves an old class
module _ (s s' : Store) (t u : Table) (b count charge area from level : ℕ) (v : IsTable t) (low : level < levels_of t) (inside : slot_of t area level < slots_of t)
    (from_low : from < levels_of t) (from_inside : slot_of t area from < slots_of t) (enough : charge ≤ slice_index t.charges (stale (slot_of t area from))) where
  abbrev moved_class : Class
  moved_class = record { area = area; level = from; stale = true }

  abbrev less_charges : List ℕ
  less_charges = slice_set t.charges (stale (slot_of t area from)) (slice_index t.charges (stale (slot_of t area from)) - charge)

  abbrev more_charges : List ℕ
  more_charges = slice_set less_charges (live (slot_of t area level)) (slice_index less_charges (live (slot_of t area level)) + charge)

  pub rehomed_image : u ≡ record (committed t (slot_of t area level) b count charge (Moved moved_class)) { pages = u.pages } → Rehomed (ground_image s t) (ground_image s' u) area from level charge
  rehomed_image is = record {
    live_class =
        changed live area level
        ∙ (by_class_here t t live less_charges area level (slice_index less_charges (live (slot_of t area level)) + charge) refl low (let z = v.charges_size in let l = length-set t.charges (stale (slot_of t area from)) (slice_index t.charges (stale (slot_of t area from)) - charge) in omega arith)
        ∙ ap (λ (n : ℕ). n + charge) (untouched ∙ sym (by_class_at t live t.charges area level low)));
    live_else = λ x y ne.
        changed live x y
        ∙ (by_class_else t t live less_charges area level (slice_index less_charges (live (slot_of t area level)) + charge) refl low one_live x y ne
        ∙ by_class_beside t t stale t.charges area from (slice_index t.charges (stale (slot_of t area from)) - charge) refl from_low live live_not_stale x y);
    old_class = (
        let e = old_changed area from in
        let here = by_class_here t t stale t.charges area from (slice_index t.charges (stale (slot_of t area from)) - charge) refl from_low (let z = v.charges_size in omega arith) in
        let before = by_class_at t stale t.charges area from from_low in
        omega arith);
    old_else = λ x y ne. old_changed x y ∙ by_class_else t t stale t.charges area from (slice_index t.charges (stale (slot_of t area from)) - charge) refl from_low one_stale x y ne;
    live_husks = λ x y. ap (λ (w : Table). by_class w live w.husks x y) is;
    old_husks = λ x y. ap (λ (w : Table). by_class w stale w.husks x y) is;
  }
    where
      changed : (class : ℕ → ℕ) (x y : ℕ) → by_class u class u.charges x y ≡ by_class t class more_charges x y
      changed class x y = ap (λ (w : Table). by_class w class w.charges x y) is

      untouched : slice_index less_charges (live (slot_of t area level)) ≡ slice_index t.charges (live (slot_of t area level))
      untouched = get_or-set_other t.charges (stale (slot_of t area from)) (live (slot_of t area level)) (slice_index t.charges (stale (slot_of t area from)) - charge) 0 (live_not_stale (slot_of t area level) (slot_of t area from))

      old_changed : (x y : ℕ) → by_class u stale u.charges x y ≡ by_class t stale less_charges x y
      old_changed x y = changed stale x y ∙ by_class_beside t t live less_charges area level (slice_index less_charges (live (slot_of t area level)) + charge) refl low stale stale_not_live x y

-- a new charge, of which a part becomes a husk
module _ (s s' : Store) (t u w : Table) (b count charge husk area level : ℕ) (v : IsTable t) (low : level < levels_of t) (inside : slot_of t area level < slots_of t) where
  pub recharged_image : u ≡ record (committed t (slot_of t area level) b count charge New) { pages = u.pages } → w ≡ husked u (live (slot_of t area level)) husk → husk ≤ slice_index u.charges (live (slot_of t area level))
      → Recharged (ground_image s t) (ground_image s' w) area level husk charge husk
  recharged_image is after enough = record {
    live_class = (
        let a = husk_charges live area level in
        let c = by_class_here u u live u.charges area level (slice_index u.charges (live (slot_of t area level)) - husk) refl low_too (let z = sizes in let y = v.charges_size in let q = same_slot in omega arith) in
        let d = by_class_at u live u.charges area level low_too in
        let f = ap (λ (n : ℕ). slice_index u.charges (live n)) same_slot in
        let e = new.live_class in
        omega arith);
    live_else = λ x y ne. husk_charges live x y ∙ (by_class_else u u live u.charges area level (slice_index u.charges (live (slot_of t area level)) - husk) refl low_too one_live x y ne ∙ new.live_else x y ne);
    old = λ x y. husk_charges stale x y ∙ (by_class_beside u u live u.charges area level (slice_index u.charges (live (slot_of t area level)) - husk) refl low_too stale stale_not_live x y ∙ new.old x y);
    husks_class = (
        let a = husk_husks live area level in
        let c = by_class_here u u live u.husks area level (slice_index u.husks (live (slot_of t area level)) + husk) refl low_too (let z = husk_sizes in let y = v.husks_size in let q = same_slot in omega arith) in
        let d = by_class_at u live u.husks area level low_too in
        let f = ap (λ (n : ℕ). slice_index u.husks (live n)) same_slot in
        let e = new.live_husks area level in
        omega arith);
    husks_else = λ x y ne. husk_husks live x y ∙ (by_class_else u u live u.husks area level (slice_index u.husks (live (slot_of t area level)) + husk) refl low_too one_live x y ne ∙ new.live_husks x y);
    old_husks = λ x y. husk_husks stale x y ∙ (by_class_beside u u live u.husks area level (slice_index u.husks (live (slot_of t area level)) + husk) refl low_too stale stale_not_live x y ∙ new.old_husks x y);
  }
    where
      new : Charged (ground_image s t) (ground_image s' u) area level charge
      new = charged_image s s' t u b count charge area level v low inside is

      same_top : u.top ≡ t.top
      same_top = ap (λ (z : Table). z.top) is

      low_too : level < levels_of u
      low_too = let e = same_top in omega arith

      same_slot : slot_of u area level ≡ slot_of t area level
      same_slot = ap (λ (n : ℕ). area * (n + 1) + level) same_top

      sizes : length u.charges ≡ length t.charges
      sizes = ap (λ (z : Table). length z.charges) is ∙ length-set t.charges (live (slot_of t area level)) (slice_index t.charges (live (slot_of t area level)) + charge)

      husk_sizes : length u.husks ≡ length t.husks
      husk_sizes = ap (λ (z : Table). length z.husks) is

      husk_charges : (class : ℕ → ℕ) (x y : ℕ) → by_class w class w.charges x y ≡ by_class u class (slice_set u.charges (live (slot_of u area level)) (slice_index u.charges (live (slot_of t area level)) - husk)) x y
      husk_charges class x y =
          ap (λ (z : Table). by_class z class z.charges x y) after
          ∙ ap (λ (k : ℕ). by_class u class (slice_set u.charges (live k) (slice_index u.charges (live (slot_of t area level)) - husk)) x y) (sym same_slot)

      husk_husks : (class : ℕ → ℕ) (x y : ℕ) → by_class w class w.husks x y ≡ by_class u class (slice_set u.husks (live (slot_of u area level)) (slice_index u.husks (live (slot_of t area level)) + husk)) x y
      husk_husks class x y =
          ap (λ (z : Table). by_class z class z.husks x y) after
          ∙ ap (λ (k : ℕ). by_class u class (slice_set u.husks (live k) (slice_index u.husks (live (slot_of t area level)) + husk)) x y) (sym same_slot)
