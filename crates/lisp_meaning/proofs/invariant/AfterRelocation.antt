-- The invariant after an object was relocated in its class: RPLACD of a cell, growth of a block.
use Rattle.std.proofs.Common.{◌≡◌, ℕ, suc, ◌+◌, ◌<◌, ◌≤◌, ◌⊎◌, inl, inr, ⊎_elim, Bool, true, false, ◌&&◌, ◌==◌, refl, sym, ◌∙◌, ap, subst, arith, List, length, nat_eq}
use Rattle.std.specs.Prelude.{is_some}
use Rattle.std.proofs.lemmas.Bool.{cases_eq}
use Rattle.std.proofs.lemmas.Grind.{common_steps}
use Rattle.lisp_graph.specs.store_word.Words.{Parts}
use Rattle.lisp_graph.specs.declared.object.Object.{Object}
use Rattle.lisp_graph.specs.declared.world.AreaRule.{AreaRule}
use Rattle.lisp_graph.specs.Totals.{total, if_true}
use Rattle.lisp_graph.proofs.Totals.{total-cong, total-at, total-le}
use Rattle.lisp_meaning.specs.machine.State.{rule_of, Condemned, Store, object, is_held, in_use}
use Rattle.lisp_meaning.specs.machine.Charges.{account, charges, per_area}
use Rattle.lisp_meaning.specs.reading.Image.{Image, word, used_words, Live}
use Rattle.lisp_meaning.specs.reading.Classes.{Class, class_at, region_of, in_class, in_old_class, classes, of_class, in_old}
use Rattle.lisp_meaning.specs.reading.Marks.{Marks}
use Rattle.lisp_meaning.specs.invariants.Roles.{RoleMap}
use Rattle.lisp_meaning.specs.invariants.Fits.{Roled}
use Rattle.lisp_meaning.specs.invariants.ChargesIn.{charges_in, spare_in, spares_in, is_cell}
use Rattle.lisp_meaning.specs.reading.Stands.{Classes}
use Rattle.lisp_meaning.specs.invariants.Invariant.{HusksFit, MemoryInvariant}
use Rattle.lisp_meaning.specs.invariants.Interpretation.{Interpretation}
use Rattle.lisp_meaning.specs.invariants.Placed.{Placed, Recharged}
use Rattle.lisp_meaning.proofs.maps.Frames.{Frame}
use Rattle.lisp_meaning.proofs.sums.Charges.{charges_changed, charges_grown, charge_no}
use Rattle.lisp_meaning.proofs.sums.Accounts.{spares_changed}
use Rattle.lisp_meaning.proofs.layout.Placement.{opened, class_else, charges_before_at, spares_before_at, two_numbers, class_yes, class_no}
use Rattle.lisp_meaning.proofs.roles.UsedWords.{NewRoles, covered_again}

-- the store in which one object has other parts, its charge no smaller, and its class more husks
pub record Relays (s s' : Store) (n area level husk : ℕ) : Type 0 where
  pub used : in_use s n
  pub size : length s'.objects ≡ length s.objects
  pub held : (m : ℕ) → s'.held m ≡ s.held m
  pub same : (m : ℕ) → (m ≡ n → ⊥) → object s' m ≡ object s m
  pub area_is : (object s n).area ≡ area
  pub area_now : (object s' n).area ≡ area
  pub no_less : (object s n).charge ≤ (object s' n).charge
  pub husks_here : s'.husks area level ≡ s.husks area level + husk
  pub husks_else : (x y : ℕ) → ((x ≡ area) × (y ≡ level) → ⊥) → s'.husks x y ≡ s.husks x y

-- Accounts

module _ (s s' : Store) (n area level husk top : ℕ) (aim : Condemned) (r : Relays s s' n area level husk) (below : n < length s.objects) (low : level < suc top) where
  here : (a : ℕ) → a ≡ area → nat_eq area a ≡ true
  here a e = grind (arith, common_steps)

  not_here : (a : ℕ) → (a ≡ area → ⊥) → nat_eq area a ≡ false
  not_here a ne = grind (arith, common_steps)

  charge_at : (t : Store) (a m : ℕ) → ℕ
  charge_at t a m = if_true (is_held t m && per_area t a m) (object t m).charge

  sums : (a : ℕ) → total (charge_at s' a) (length s.objects) + charge_at s a n ≡ total (charge_at s a) (length s.objects) + charge_at s' a n
  unfolding charge_at
  sums a = total-at (charge_at s' a) (charge_at s a) n (length s.objects) below (λ m l ne.
      ap (λ (b : Bool). if_true (b && per_area s' a m) (object s' m).charge) (ap is_some (r.held m))
      ∙ ap (λ (o : Object). if_true (is_held s m && nat_eq o.area a) o.charge) (r.same m (λ (z : m ≡ n). ne z)))

  at_n : (a : ℕ) → charge_at s a n ≡ if_true (nat_eq area a) (object s n).charge
  unfolding charge_at
  at_n a = ap (λ (b : Bool). if_true (b && per_area s a n) (object s n).charge) r.used ∙ ap (λ (x : ℕ). if_true (nat_eq x a) (object s n).charge) r.area_is

  at_n' : (a : ℕ) → charge_at s' a n ≡ if_true (nat_eq area a) (object s' n).charge
  unfolding charge_at
  at_n' a = ap (λ (b : Bool). if_true (b && per_area s' a n) (object s' n).charge) (ap is_some (r.held n) ∙ r.used) ∙ ap (λ (x : ℕ). if_true (nat_eq x a) (object s' n).charge) r.area_now

  husk_sum : (a : ℕ) → (a ≡ area) ⊎ (a ≡ area → ⊥) → total (s'.husks a) (suc top) ≡ total (s.husks a) (suc top) + if_true (nat_eq area a) husk
  husk_sum a (inl e) =
      let P : ℕ → Type 0 = λ x. total (s'.husks x) (suc top) ≡ total (s.husks x) (suc top) + if_true (nat_eq area x) husk in
      let z = total-at (s'.husks area) (s.husks area) level (suc top) low (λ m l ne. r.husks_else area m (λ q. ne q.1)) in
      let y = r.husks_here in
      let b = ap (λ (t : Bool). if_true t husk) (here area refl) in
      subst P (sym e) (omega arith)
  husk_sum a (inr ne) =
      let z = total-cong (s'.husks a) (s.husks a) (suc top) (λ m l. r.husks_else a m (λ q. ne q.0)) in
      let b = ap (λ (t : Bool). if_true t husk) (not_here a ne) in omega arith

  -- the account of its area has the new charge and husk in place of the old charge
  pub account_relaid : (a : ℕ) → account top s' aim a + if_true (nat_eq area a) (object s n).charge ≡ account top s aim a + if_true (nat_eq area a) ((object s' n).charge + husk)
  unfolding charge_at
  account_relaid a =
      let x = ap (total (charge_at s' a)) r.size in
      let y = sums a in let u = at_n a in let v = at_n' a in let w = husk_sum a (cases_eq a area) in
      let q = split (nat_eq area a) (object s' n).charge husk in omega arith
    where
      split : (t : Bool) (p q : ℕ) → if_true t (p + q) ≡ if_true t p + if_true t q
      split true p q = refl
      split false p q = (let z : 0 ≡ 0 + 0 = omega arith in z)

  -- and stays within the quota if the new charge fits it
  pub quota_relaid : (areas : List AreaRule) → ((a : ℕ) → a < length areas → account top s aim a ≤ (rule_of areas a).quota)
      → (area < length areas → account top s aim area + ((object s' n).charge + husk) ≤ (rule_of areas area).quota + (object s n).charge) → (a : ℕ) → a < length areas → account top s' aim a ≤ (rule_of areas a).quota
  quota_relaid areas quota fits a l = go (cases_eq a area)
    where
      go : (a ≡ area) ⊎ (a ≡ area → ⊥) → account top s' aim a ≤ (rule_of areas a).quota
      go (inl e) =
          let P : ℕ → Type 0 = λ x. account top s aim x + ((object s' n).charge + husk) ≤ (rule_of areas x).quota + (object s n).charge in
          let f = subst P (sym e) (fits (let m = l in omega arith)) in
          let x = account_relaid a in
          let y = ap (λ (t : Bool). if_true t (object s n).charge) (here a e) in let z = ap (λ (t : Bool). if_true t ((object s' n).charge + husk)) (here a e) in omega arith
      go (inr ne) =
          let x = account_relaid a in let q = quota a l in
          let y = ap (λ (t : Bool). if_true t (object s n).charge) (not_here a ne) in let z = ap (λ (t : Bool). if_true t ((object s' n).charge + husk)) (not_here a ne) in omega arith

-- The invariant

module _ (g g1 : Image) (it : Interpretation) (k' : RoleMap) (s' : Store) (h : MemoryInvariant g it)
    (n b count area level husk : ℕ) (p : Placed g g1 b count area level) (c : Recharged g g1 area level (object it.store n).charge (object s' n).charge husk) (ws : List Parts) (marks : Marks (record g1 { words = ws }))
    (r : Relays it.store s' n area level husk) (home : class_at (classes g) (it.map.at n) ≡ record { area = area; level = level; standing = Live })
    (roled : Roled (word (record g1 { words = ws })) (classes g1) k' s') (f : Frame it.map k' it.store s' (λ m. m == n)) (roles : NewRoles it.map k' b count)
    (place : (m : ℕ) → (m ≡ n → ⊥) → k'.at m ≡ it.map.at m) (near : region_of (k'.at n) ≡ region_of b)
    (quota : (a : ℕ) → a < length it.areas → account it.top s' it.aim a ≤ (rule_of it.areas a).quota)
    (pays : count + if_true (is_cell (k'.role (k'.at n))) 2 + (object it.store n).charge ≤ if_true (is_cell (it.map.role (it.map.at n))) 2 + (object s' n).charge + husk) where
  live_word : (a : ℕ) → region_of a ≡ region_of b → class_at (classes g1) a ≡ record { area = area; level = level; standing = Live }
  live_word a e = ap (classes g1) e ∙ p.class_there

  held_same : (m : ℕ) → is_held s' m ≡ is_held it.store m
  held_same m = ap is_some (r.held m)

  -- each name is in the same class as before
  class_same : (m : ℕ) → in_use it.store m → (m ≡ n) ⊎ (m ≡ n → ⊥) → class_at (classes g1) (k'.at m) ≡ class_at (classes g) (it.map.at m)
  class_same m u (inl z) =
      let P : ℕ → Type 0 = λ i. class_at (classes g1) (k'.at i) ≡ class_at (classes g) (it.map.at i) in
      subst P (sym z) (live_word (k'.at n) near ∙ sym home)
  class_same m u (inr ne) = ap (class_at (classes g1)) (place m ne) ∙ class_else g g1 it h b count area level p m u

  was_there : class_at (classes g1) (it.map.at n) ≡ record { area = area; level = level; standing = Live }
  was_there = class_else g g1 it h b count area level p n r.used ∙ home

  is_there : class_at (classes g1) (k'.at n) ≡ record { area = area; level = level; standing = Live }
  is_there = live_word (k'.at n) near

  area_same : (m : ℕ) → (m ≡ n) ⊎ (m ≡ n → ⊥) → (object s' m).area ≡ (object it.store m).area
  area_same m (inl z) = let P : ℕ → Type 0 = λ i. (object s' i).area ≡ (object it.store i).area in subst P (sym z) (r.area_now ∙ sym r.area_is)
  area_same m (inr ne) = ap (λ (o : Object). o.area) (r.same m ne)

  classes_there : Classes (record g1 { words = ws }) it.top s' it.aim k'.at
  classes_there = record {
    area = λ m u. (let u' : in_use it.store m = sym (held_same m) ∙ u in ap (λ (q : Class). q.area) (class_same m u' (cases_eq m n)) ∙ h.classes_of.area m u' ∙ sym (area_same m (cases_eq m n)));
    spared = λ m l e x. (let e' = sym (r.held m) ∙ e in let y = class_same m (ap is_some e') (cases_eq m n) in let v = h.classes_of.spared m l e' x in
        (ap (λ (q : Class). q.standing) y ∙ v.0, ap (λ (q : Class). q.level) y ∙ v.1));
    doomed = λ m l e x. (let e' = sym (r.held m) ∙ e in let y = class_same m (ap is_some e') (cases_eq m n) in
        ⊎_elim (λ t. inl (ap (λ (q : Class). q.standing) y ∙ t.0, ap (λ (q : Class). q.level) y ∙ t.1))
        (λ t. inr (ap (λ (q : Class). q.standing) y ∙ t.0, ap (λ (q : Class). q.level) y ∙ t.1, t.2)) (h.classes_of.doomed m l e' x));
  }

  below : n < length it.store.objects
  below = h.names n r.used

  -- sums of classes that n isn't in
  sum_else : (passes : ℕ → Class → Bool) → passes n (record { area = area; level = level; standing = Live }) ≡ false → charges_in s' k'.at (classes g1) passes ≡ charges_in it.store it.map.at (classes g) passes
  sum_else passes e =
      let a = charges_changed it.store s' it.map.at k'.at (classes g1) passes n below r.size (λ m ne. r.held m) r.same place in
      let x = charge_no it.store it.map.at (classes g1) passes n r.used (ap (passes n) was_there ∙ e) in
      let y = charge_no s' k'.at (classes g1) passes n (held_same n ∙ r.used) (ap (passes n) is_there ∙ e) in
      let z = charges_before_at g g1 it h b count area level p passes in
      omega arith

  -- what is in old regions stays
  pub relaid_old : charges_in s' k'.at (classes g1) in_old ≡ charges_in it.store it.map.at (classes g) in_old
  relaid_old = sum_else in_old refl

  doomed_more : (x : ℕ) → charges it.store (λ m. it.aim.condemned m && per_area it.store x m) ≤ charges s' (λ m. it.aim.condemned m && per_area s' x m)
  doomed_more x =
      let a = total-le (λ m. if_true (it.aim.condemned m && per_area it.store x m) (object it.store m).charge) (λ m. if_true (it.aim.condemned m && per_area s' x m) (object s' m).charge) (length it.store.objects)
      (λ m l. each m (cases_eq m n)) in
      let c : charges s' (λ m. it.aim.condemned m && per_area s' x m) ≡ total (λ m. if_true (it.aim.condemned m && per_area s' x m) (object s' m).charge) (length it.store.objects) =
      ap (total (λ m. if_true (it.aim.condemned m && per_area s' x m) (object s' m).charge)) r.size in
      omega arith
    where
      more : (t : Bool) (c d : ℕ) → c ≤ d → if_true t c ≤ if_true t d
      more true c d l = l
      more false c d l = omega arith

      each : (m : ℕ) → (m ≡ n) ⊎ (m ≡ n → ⊥) → if_true (it.aim.condemned m && per_area it.store x m) (object it.store m).charge ≤ if_true (it.aim.condemned m && per_area s' x m) (object s' m).charge
      each m (inr ne) = let e = ap (λ (o : Object). if_true (it.aim.condemned m && nat_eq o.area x) o.charge) (r.same m ne) in omega arith
      each m (inl z) =
          let P : ℕ → Type 0 = λ i. if_true (it.aim.condemned i && per_area it.store x i) (object it.store i).charge ≤ if_true (it.aim.condemned i && per_area s' x i) (object s' i).charge in
          let e = ap (λ (i : ℕ). if_true (it.aim.condemned n && nat_eq i x) (object s' n).charge) (r.area_now ∙ sym r.area_is) in
          let l = more (it.aim.condemned n && per_area it.store x n) (object it.store n).charge (object s' n).charge r.no_less in
          subst P (sym z) (omega arith)

  live_sum : (x y : ℕ) → ((x ≡ area) × (y ≡ level)) ⊎ ((x ≡ area) × (y ≡ level) → ⊥) → g1.live_charge x y ≡ charges_in s' k'.at (classes g1) (in_class x y)
  live_sum x y (inl e) =
      let P : ℕ → Type 0 = λ i. g1.live_charge i y ≡ charges_in s' k'.at (classes g1) (in_class i y) in
      let Q : ℕ → Type 0 = λ i. g1.live_charge area i ≡ charges_in s' k'.at (classes g1) (in_class area i) in
      let z : g1.live_charge area level ≡ charges_in s' k'.at (classes g1) (in_class area level) =
      (let a = charges_grown it.store s' it.map.at k'.at (classes g1) (in_class area level) n below r.size r.held r.same place r.used
      (ap (in_class area level n) was_there ∙ class_yes area level area level n (refl, refl)) (is_there ∙ sym was_there) in
      let v = charges_before_at g g1 it h b count area level p (in_class area level) in
      let d = h.live_charges area level in let q = c.live_class in omega arith) in
      subst P (sym e.0) (subst Q (sym e.1) z)
  live_sum x y (inr ne) = c.live_else x y ne ∙ h.live_charges x y ∙ sym (sum_else (in_class x y) (class_no area level x y n ne))

  -- the words that cells may need

  spare_change : (passes : ℕ → Class → Bool) → spares_in s' k' (classes g1) passes + spare_in it.store it.map (classes g1) passes n ≡ spares_in it.store it.map (classes g) passes + spare_in s' k' (classes g1) passes n
  spare_change passes =
      let z = spares_changed (word g) (classes g1) it.map k' it.store s' passes n (opened g g1 it h b count area level p) f below r.size (λ m ne. r.held m) in
      let y = spares_before_at g g1 it h b count area level p passes in omega arith

  spare_n : (t : Store) (m : RoleMap) (passes : ℕ → Class → Bool) (x : Bool) → is_held t n ≡ true → passes n (class_at (classes g1) (m.at n)) ≡ x
      → spare_in t m (classes g1) passes n ≡ if_true (x && is_cell (m.role (m.at n))) 2
  spare_n t m passes x u e =
      ap (λ (b : Bool). if_true (b && (passes n (class_at (classes g1) (m.at n)) && is_cell (m.role (m.at n)))) 2) u ∙ ap (λ (b : Bool). if_true (true && (b && is_cell (m.role (m.at n)))) 2) e

  room_live : (x y : ℕ) → ((x ≡ area) × (y ≡ level)) ⊎ ((x ≡ area) × (y ≡ level) → ⊥) → used_words g1 (of_class x y) + spares_in s' k' (classes g1) (in_class x y) ≤ g1.live_charge x y + g1.live_husks x y
  room_live x y (inl e) =
      let P : ℕ → Type 0 = λ i. used_words g1 (of_class i y) + spares_in s' k' (classes g1) (in_class i y) ≤ g1.live_charge i y + g1.live_husks i y in
      let Q : ℕ → Type 0 = λ i. used_words g1 (of_class area i) + spares_in s' k' (classes g1) (in_class area i) ≤ g1.live_charge area i + g1.live_husks area i in
      let yes = class_yes area level area level n (refl, refl) in
      let z : used_words g1 (of_class area level) + spares_in s' k' (classes g1) (in_class area level) ≤ g1.live_charge area level + g1.live_husks area level =
      (let a = h.room_live area level in let u = p.used_class in let q = c.live_class in let w = c.husks_class in let v = spare_change (in_class area level) in
      let x1 = spare_n it.store it.map (in_class area level) true r.used (ap (in_class area level n) was_there ∙ yes) in
      let x2 = spare_n s' k' (in_class area level) true (held_same n ∙ r.used) (ap (in_class area level n) is_there ∙ yes) in let l = pays in omega arith) in
      subst P (sym e.0) (subst Q (sym e.1) z)
  room_live x y (inr ne) =
      let no = class_no area level x y n ne in
      let a = h.room_live x y in let u = p.used_else x y ne in let q = c.live_else x y ne in let w = c.husks_else x y ne in let v = spare_change (in_class x y) in
      let x1 = spare_n it.store it.map (in_class x y) false r.used (ap (in_class x y n) was_there ∙ no) in
      let x2 = spare_n s' k' (in_class x y) false (held_same n ∙ r.used) (ap (in_class x y n) is_there ∙ no) in omega arith

  husks_now : (x y : ℕ) → ((x ≡ area) × (y ≡ level)) ⊎ ((x ≡ area) × (y ≡ level) → ⊥) → g1.live_husks x y ≡ s'.husks x y
  husks_now x y (inl e) =
      let P : ℕ → Type 0 = λ i. g1.live_husks i y ≡ s'.husks i y in
      let Q : ℕ → Type 0 = λ i. g1.live_husks area i ≡ s'.husks area i in
      subst P (sym e.0) (subst Q (sym e.1) (let a = c.husks_class in let v = h.live_husks area level in let w = r.husks_here in omega arith))
  husks_now x y (inr ne) = c.husks_else x y ne ∙ h.live_husks x y ∙ sym (r.husks_else x y ne)

  -- the whole invariant, for the changed store, if the words of husks fit
  pub kept_relaid : HusksFit g1 k' → MemoryInvariant (record g1 { words = ws }) (record it { map = k'; store = s' })
  kept_relaid fit = record {
    roled = roled;
    covered = covered_again g g1 it.map k' b count area level h.covered p roles ws;
    names = λ m u. (let x = h.names m (sym (held_same m) ∙ u) in let y = r.size in omega arith);
    condemned = λ m e. held_same m ∙ h.condemned m e;
    bound = λ m e. held_same m ∙ h.bound m e;
    classes_of = classes_there;
    levels = λ m u. (let u' : in_use it.store m = sym (held_same m) ∙ u in let y = ap (λ (q : Class). q.level) (class_same m u' (cases_eq m n)) in let x = h.levels m u' in omega arith);
    live_charges = λ x y. live_sum x y (two_numbers x y area level (cases_eq x area) (cases_eq y level));
    old_charges = λ x y. c.old x y ∙ h.old_charges x y ∙ sym (sum_else (in_old_class x y) refl);
    live_husks = λ x y. husks_now x y (two_numbers x y area level (cases_eq x area) (cases_eq y level));
    old_husks = λ x. total-cong (g1.old_husks x) (g.old_husks x) (suc it.top) (λ y l. c.old_husks x y) ∙ h.old_husks x;
    quota = quota;
    room_live = λ x y. room_live x y (two_numbers x y area level (cases_eq x area) (cases_eq y level));
    room_husks = fit;
    room_old = λ x. (let a = h.room_old x in let u = p.used_old x in let d = doomed_more x in omega arith);
    chains = p.chains;
    marks = marks;
  }
