-- The invariant after a transport: from the role lemmas, the table's numbers, and the sums.
use Rattle.std.proofs.Common.{◌≡◌, ℕ, suc, ◌+◌, ◌<◌, ◌≤◌, ◌⊎◌, inl, inr, ⊎_elim, Bool, true, false, refl, sym, ◌∙◌, ap, subst, arith, Some, List}
use Rattle.std.proofs.lemmas.Bool.{cases_eq}
use Rattle.lisp_meaning.specs.invariants.ChargesIn.{charges_in, spares_in, is_of_husk}
use Rattle.lisp_meaning.specs.reading.Classes.{Class, class_at, region_of, in_class, in_old_class, in_old, classes, of_class}
use Rattle.lisp_meaning.specs.invariants.Fits.{Roled}
use Rattle.lisp_meaning.specs.reading.Image.{Image, word, region, used_words, Live, Old}
use Rattle.lisp_meaning.specs.invariants.Invariant.{MemoryInvariant}
use Rattle.lisp_meaning.proofs.maps.LaterMaps.{LessOld}
use Rattle.lisp_meaning.specs.reading.Marks.{Marks}
use Rattle.lisp_meaning.specs.invariants.Placed.{Placed, Rehomed}
use Rattle.lisp_meaning.specs.invariants.Roles.{RoleMap}
use Rattle.lisp_meaning.specs.invariants.Interpretation.{Interpretation, by_map}
use Rattle.lisp_meaning.specs.reading.Stands.{Classes}
use Rattle.lisp_meaning.specs.machine.State.{Store, Condemned, object, in_use, survivor}
use Rattle.lisp_graph.specs.store_word.Words.{Parts}
use Rattle.lisp_graph.proofs.Totals.{total-cong}
use Rattle.lisp_meaning.proofs.roles.UsedWords.{NewRoles, covered_again}
use Rattle.lisp_meaning.proofs.reading.Husks.{husks_placed}
use Rattle.lisp_meaning.proofs.sums.MoveSums.{Moves}
use Rattle.lisp_meaning.proofs.layout.Placement.{class_else, charges_before_at, spares_before_at, two_numbers, class_yes, class_no}

-- what a name is that was moved: condemned and bound, old before, in the new region after
pub record Carried (g : Image) (k k' : RoleMap) (s : Store) (aim : Condemned) (b area from m : ℕ) : Type 0 where
  pub condemned : aim.condemned m ≡ true
  pub bound : aim.bound m ≡ true
  pub area_of : (object s m).area ≡ area
  pub was : class_at (classes g) (k.at m) ≡ record { area = area; level = from; standing = Old }
  pub near : region_of (k'.at m) ≡ region_of b

module _ (g g1 : Image) (it : Interpretation) (k' : RoleMap) (h : MemoryInvariant g it)
    (b count area level from charge extra : ℕ) (p : Placed g g1 b count area level) (c : Rehomed g g1 area from level charge)
    (ws : List Parts) (marks : Marks (record g1 { words = ws })) (roled : Roled (word (record g1 { words = ws })) (classes g1) k' it.store)
    (roles : NewRoles it.map k' b count) (places : (m : ℕ) → in_use it.store m → (k'.at m ≡ it.map.at m) ⊎ Carried g it.map k' it.store it.aim b area from m)
    (moves : Moves (classes g1) it.map k' it.store (record { area = area; level = from; standing = Old }) (record { area = area; level = level; standing = Live }) charge extra)
    (survives : survivor it.top it.aim.what from ≡ level) (low : level < suc it.top) (pays : count + extra ≤ charge) where
  class_same : (m : ℕ) → in_use it.store m → k'.at m ≡ it.map.at m → class_at (classes g1) (k'.at m) ≡ class_at (classes g) (it.map.at m)
  class_same m u e = ap (class_at (classes g1)) e ∙ class_else g g1 it h b count area level p m u

  class_moved : (m : ℕ) → Carried g it.map k' it.store it.aim b area from m → class_at (classes g1) (k'.at m) ≡ record { area = area; level = level; standing = Live }
  class_moved m c = ap (classes g1) c.near ∙ p.class_there

  classes_there : Classes (record g1 { words = ws }) it.top it.store it.aim k'.at
  classes_there = record {
    area = λ m u. area_at m u (places m u);
    spared = λ m l e x. spared m l e x (places m (ap Rattle.std.specs.Prelude.is_some e));
    doomed = λ m l e x. doomed m l e x (places m (ap Rattle.std.specs.Prelude.is_some e));
  }
    where
      area_at : (m : ℕ) → in_use it.store m → (k'.at m ≡ it.map.at m) ⊎ Carried g it.map k' it.store it.aim b area from m → (region g1 (k'.at m)).area ≡ (object it.store m).area
      area_at m u (inl e) = ap (λ (q : Class). q.area) (class_same m u e) ∙ h.classes_of.area m u
      area_at m u (inr c) = ap (λ (q : Class). q.area) (class_moved m c) ∙ sym c.area_of

      spared : (m l : ℕ) → it.store.held m ≡ Some l → it.aim.condemned m ≡ false → (k'.at m ≡ it.map.at m) ⊎ Carried g it.map k' it.store it.aim b area from m → ((region g1 (k'.at m)).standing ≡ Live) × ((region g1 (k'.at m)).level ≡ l)
      spared m l e x (inl z) =
          let r = class_same m (ap Rattle.std.specs.Prelude.is_some e) z in let t = h.classes_of.spared m l e x in
          (ap (λ (q : Class). q.standing) r ∙ t.0, ap (λ (q : Class). q.level) r ∙ t.1)
      spared m l e x (inr c) = let y = c.condemned in cc

      doomed : (m l : ℕ) → it.store.held m ≡ Some l → it.aim.condemned m ≡ true → (k'.at m ≡ it.map.at m) ⊎ Carried g it.map k' it.store it.aim b area from m
          → (((region g1 (k'.at m)).standing ≡ Old) × ((region g1 (k'.at m)).level ≡ l)) ⊎ (((region g1 (k'.at m)).standing ≡ Live) × ((region g1 (k'.at m)).level ≡ survivor it.top it.aim.what l) × (it.aim.bound m ≡ true))
      doomed m l e x (inl z) =
          let r = class_same m (ap Rattle.std.specs.Prelude.is_some e) z in
          ⊎_elim (λ t. inl (ap (λ (q : Class). q.standing) r ∙ t.0, ap (λ (q : Class). q.level) r ∙ t.1))
          (λ t. inr (ap (λ (q : Class). q.standing) r ∙ t.0, ap (λ (q : Class). q.level) r ∙ t.1, t.2)) (h.classes_of.doomed m l e x)
      doomed m l e x (inr c) =
          let r = class_moved m c in
          inr (ap (λ (q : Class). q.standing) r, ap (λ (q : Class). q.level) r ∙ sym survives ∙ ap (survivor it.top it.aim.what) (old_level (h.classes_of.doomed m l e x)), c.bound)
        where
          old_level : (((region g (it.map.at m)).standing ≡ Old) × ((region g (it.map.at m)).level ≡ l)) ⊎ (((region g (it.map.at m)).standing ≡ Live) × ((region g (it.map.at m)).level ≡ survivor it.top it.aim.what l) × (it.aim.bound m ≡ true)) → from ≡ l
          old_level (inl t) = sym (ap (λ (q : Class). q.level) c.was) ∙ t.1
          old_level (inr t) = let y = t.0 in let z = ap (λ (q : Class). q.standing) c.was in cc

  level_at : (m : ℕ) → in_use it.store m → (k'.at m ≡ it.map.at m) ⊎ Carried g it.map k' it.store it.aim b area from m → (class_at (classes g1) (k'.at m)).level < suc it.top
  level_at m u (inl e) = let r = ap (λ (q : Class). q.level) (class_same m u e) in let x = h.levels m u in omega arith
  level_at m u (inr c) = let r = ap (λ (q : Class). q.level) (class_moved m c) in let x = low in omega arith

  before : (passes : ℕ → Class → Bool) → charges_in it.store it.map.at (classes g1) passes ≡ charges_in it.store it.map.at (classes g) passes
  before passes = charges_before_at g g1 it h b count area level p passes

  live_sum : (x y : ℕ) → ((x ≡ area) × (y ≡ level)) ⊎ ((x ≡ area) × (y ≡ level) → ⊥) → g1.live_charge x y ≡ charges_in it.store k'.at (classes g1) (in_class x y)
  live_sum x y (inl e) =
      let P : ℕ → Type 0 = λ i. g1.live_charge i y ≡ charges_in it.store k'.at (classes g1) (in_class i y) in
      let Q : ℕ → Type 0 = λ i. g1.live_charge area i ≡ charges_in it.store k'.at (classes g1) (in_class area i) in
      let z : g1.live_charge area level ≡ charges_in it.store k'.at (classes g1) (in_class area level) =
      (let a = before (in_class area level) in let d = h.live_charges area level in let q = c.live_class in
      let v = moves.enter (in_class area level) (λ m. refl) (λ m. class_yes area level area level m (refl, refl)) in omega arith) in
      subst P (sym e.0) (subst Q (sym e.1) z)
  live_sum x y (inr ne) = c.live_else x y ne ∙ h.live_charges x y ∙ sym (before (in_class x y)) ∙ sym (moves.stay (in_class x y) (λ m. sym (class_no area level x y m ne)))

  old_sum : (x y : ℕ) → ((x ≡ area) × (y ≡ from)) ⊎ ((x ≡ area) × (y ≡ from) → ⊥) → g1.old_charge x y ≡ charges_in it.store k'.at (classes g1) (in_old_class x y)
  old_sum x y (inl e) =
      let P : ℕ → Type 0 = λ i. g1.old_charge i y ≡ charges_in it.store k'.at (classes g1) (in_old_class i y) in
      let Q : ℕ → Type 0 = λ i. g1.old_charge area i ≡ charges_in it.store k'.at (classes g1) (in_old_class area i) in
      let z : g1.old_charge area from ≡ charges_in it.store k'.at (classes g1) (in_old_class area from) =
      (let a = before (in_old_class area from) in let d = h.old_charges area from in let q = c.old_class in
      let v = moves.leave (in_old_class area from) (λ m. class_yes area from area from m (refl, refl)) (λ m. refl) in omega arith) in
      subst P (sym e.0) (subst Q (sym e.1) z)
  old_sum x y (inr ne) = c.old_else x y ne ∙ h.old_charges x y ∙ sym (before (in_old_class x y)) ∙ sym (moves.stay (in_old_class x y) (λ m. class_no area from x y m ne))

  room_live : (x y : ℕ) → ((x ≡ area) × (y ≡ level)) ⊎ ((x ≡ area) × (y ≡ level) → ⊥)
      → used_words g1 (of_class x y) + spares_in it.store k' (classes g1) (in_class x y) ≤ g1.live_charge x y + g1.live_husks x y
  room_live x y (inl e) =
      let P : ℕ → Type 0 = λ i. used_words g1 (of_class i y) + spares_in it.store k' (classes g1) (in_class i y) ≤ g1.live_charge i y + g1.live_husks i y in
      let Q : ℕ → Type 0 = λ i. used_words g1 (of_class area i) + spares_in it.store k' (classes g1) (in_class area i) ≤ g1.live_charge area i + g1.live_husks area i in
      let z : used_words g1 (of_class area level) + spares_in it.store k' (classes g1) (in_class area level) ≤ g1.live_charge area level + g1.live_husks area level =
      (let a = h.room_live area level in let u = p.used_class in let q = c.live_class in let d = c.live_husks area level in let v = pays in
      let w = moves.spares_enter (in_class area level) (λ m. refl) (λ m. class_yes area level area level m (refl, refl)) in
      let r = spares_before_at g g1 it h b count area level p (in_class area level) in omega arith) in
      subst P (sym e.0) (subst Q (sym e.1) z)
  room_live x y (inr ne) =
      let a = h.room_live x y in let u = p.used_else x y ne in let q = c.live_else x y ne in let d = c.live_husks x y in
      let w = moves.spares_stay (in_class x y) (λ m. refl) (λ m. class_no area level x y m ne) in
      let r = spares_before_at g g1 it h b count area level p (in_class x y) in omega arith

  -- the whole invariant, for the same store, if no word became one of a husk
  pub kept_moved : ((a : ℕ) → is_of_husk (k'.role a) ≡ true → k'.role a ≡ it.map.role a) → MemoryInvariant (record g1 { words = ws }) (by_map it k')
  kept_moved no_husk = record {
    roled = roled;
    covered = covered_again g g1 it.map k' b count area level h.covered p roles ws;
    names = h.names;
    condemned = h.condemned;
    bound = h.bound;
    classes_of = classes_there;
    levels = λ m u. level_at m u (places m u);
    live_charges = λ x y. live_sum x y (two_numbers x y area level (cases_eq x area) (cases_eq y level));
    old_charges = λ x y. old_sum x y (two_numbers x y area from (cases_eq x area) (cases_eq y from));
    live_husks = λ x y. c.live_husks x y ∙ h.live_husks x y;
    old_husks = λ x. total-cong (g1.old_husks x) (g.old_husks x) (suc it.top) (λ y l. c.old_husks x y) ∙ h.old_husks x;
    quota = h.quota;
    room_live = λ x y. room_live x y (two_numbers x y area level (cases_eq x area) (cases_eq y level));
    room_husks = husks_placed g g1 it.map k' b count area level h.covered p no_husk c.live_husks h.room_husks;
    room_old = λ x. (let a = h.room_old x in let u = p.used_old x in omega arith);
    chains = p.chains;
    marks = marks;
  }

  -- the charge in old regions falls by this much
  pub less_old : LessOld g (record g1 { words = ws }) it.map k' it.store charge
  less_old = record { less = (let a = moves.leave in_old (λ m. refl) (λ m. refl) in let v = before in_old in omega arith) }
