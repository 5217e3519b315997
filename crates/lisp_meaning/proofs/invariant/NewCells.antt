-- New cells, from the invariant to the invariant: many names at once.
use Rattle.std.proofs.Common.{◌≡◌, ℕ, suc, ◌+◌, ◌*◌, ◌-◌, ◌<◌, ◌≤◌, ◌⊎◌, inl, inr, ⊎_elim, Bool, true, false, ◌&&◌, if◌then◌else◌, refl, sym, ◌∙◌, ap, subst, arith, Option, Some, List, length, nat_eq}
use Rattle.std.specs.Prelude.{is_some}
use Rattle.std.proofs.lemmas.Bool.{cases_Bool, cases_lt}
use Rattle.lisp_graph.specs.declared.object.Object.{Object}
use Rattle.lisp_graph.specs.Graph.{object_at}
use Rattle.lisp_graph.specs.Totals.{total, if_true}
use Rattle.lisp_graph.proofs.Totals.{total-cong}
use Rattle.lisp_meaning.specs.machine.State.{rule_of, survivor, object, is_held, in_use}
use Rattle.lisp_meaning.specs.machine.Changes.{with_made}
use Rattle.lisp_meaning.specs.machine.Charges.{account, charges, per_area}
use Rattle.lisp_meaning.specs.reading.Image.{Image, word, region, Live, Old, used_words}
use Rattle.lisp_meaning.specs.reading.Classes.{Class, class_at, classes, of_class, in_class, in_old_class, in_old}
use Rattle.lisp_meaning.specs.reading.Marks.{Marks}
use Rattle.lisp_meaning.specs.invariants.Roles.{Role, Blank, Scratch, Cell, kind_of, Refines}
use Rattle.lisp_meaning.specs.invariants.Fits.{Roled}
use Rattle.lisp_meaning.specs.invariants.ChargesIn.{charges_in, spare_in, spares_in, is_cell, is_of_husk}
use Rattle.lisp_meaning.specs.reading.Stands.{Classes}
use Rattle.lisp_meaning.specs.invariants.Invariant.{MemoryInvariant}
use Rattle.lisp_meaning.specs.invariants.Interpretation.{Interpretation}
use Rattle.lisp_meaning.specs.invariants.Laid.{between, scratched, cells_laid}
use Rattle.lisp_meaning.specs.invariants.Placed.{Placed, Charged}
use Rattle.lisp_meaning.proofs.sums.Charges.{total-split, total-const, total-none, charges_new, charges_new_else}
use Rattle.lisp_meaning.proofs.reading.Husks.{husks_placed}
use Rattle.lisp_meaning.proofs.maps.Frames.{Frame}
use Rattle.lisp_meaning.proofs.maps.Patches.{begins_owner}
use Rattle.lisp_meaning.proofs.layout.Layout.{between_yes, between_no, between_which}
use Rattle.lisp_meaning.proofs.maps.StoreChanges.{made_size, made_new, made_same, held_old, held_new}
use Rattle.lisp_meaning.proofs.layout.Placement.{frame_then, other_role, ground_frame, class_else, charges_before_at, two_numbers, class_yes, class_no}
use Rattle.lisp_meaning.proofs.roles.UsedWords.{NewRoles, covered_again}

module _ (g g1 : Image) (it : Interpretation) (h : MemoryInvariant g it) (b area level count : ℕ) (made : List Object) (size : length made ≡ count)
    (p : Placed g g1 b count area level) (c : Charged g g1 area level (3 * count)) (marks : Marks g1)
    (areas_are : (i : ℕ) → i < length made → (object_at made i).area ≡ area) (threes : (i : ℕ) → i < length made → (object_at made i).charge ≡ 3) (low : level < suc it.top)
    (quota : (a : ℕ) → a < length it.areas → account it.top (with_made it.store made level) it.aim a ≤ (rule_of it.areas a).quota)
    (roled : Roled (word g1) (classes g1) (cells_laid it.map (length it.store.objects) b count) (with_made it.store made level))
    (f : Frame (scratched it.map b count) (cells_laid it.map (length it.store.objects) b count) it.store (with_made it.store made level) (between (length it.store.objects) count)) where
  -- a name is new, or it isn't
  New : ℕ → Type 0
  New m = (length it.store.objects ≤ m) × (m < length it.store.objects + count)

  which : (m : ℕ) → New m ⊎ (New m → ⊥)
  unfolding New
  which m = between_which (length it.store.objects) count m

  out : (m : ℕ) → (New m → ⊥) → (length it.store.objects ≤ m) × (m < length it.store.objects + length made) → ⊥
  unfolding New
  out m ne x = let l = x.0 in let y = x.1 in let z = size in ne (omega arith, omega arith)

  old_name : (m : ℕ) → m < length it.store.objects → New m → ⊥
  unfolding New
  old_name m l x = let y = x.0 in omega arith

  -- and then it is i places after the first
  nth : (m : ℕ) → New m → (i : ℕ) × (i < count) × (m ≡ length it.store.objects + i)
  unfolding New
  nth m x = let l = x.0 in let y = x.1 in (m - length it.store.objects, omega arith, omega arith)

  at_new : (i : ℕ) → i < count → (cells_laid it.map (length it.store.objects) b count).at (length it.store.objects + i) ≡ b + i
  at_new i l =
      ap (λ (t : Bool). if t then b + (length it.store.objects + i - length it.store.objects) else it.map.at (length it.store.objects + i)) (between_yes (length it.store.objects) count (length it.store.objects + i) (omega arith) (omega arith))
      ∙ ap (λ (x : ℕ). b + x) (let z : length it.store.objects + i - length it.store.objects ≡ i = omega arith in z)

  at_old : (m : ℕ) → (New m → ⊥) → (cells_laid it.map (length it.store.objects) b count).at m ≡ it.map.at m
  unfolding New
  at_old m ne = ap (λ (t : Bool). if t then b + (m - length it.store.objects) else it.map.at m) (between_no (length it.store.objects) count m ne)

  role_new : (i : ℕ) → i < count → (cells_laid it.map (length it.store.objects) b count).role (b + i) ≡ Cell (length it.store.objects + i) i
  role_new i l =
      ap (λ (t : Bool). if t then Cell (length it.store.objects + (b + i - b)) (b + i - b) else (scratched it.map b count).role (b + i)) (between_yes b count (b + i) (omega arith) (omega arith))
      ∙ ap (λ (x : ℕ). Cell (length it.store.objects + x) x) (let z : b + i - b ≡ i = omega arith in z)

  role_old : (a : ℕ) → ((b ≤ a) × (a < b + count) → ⊥) → (cells_laid it.map (length it.store.objects) b count).role a ≡ it.map.role a
  role_old a x =
      ap (λ (t : Bool). if t then Cell (length it.store.objects + (a - b)) (a - b) else (scratched it.map b count).role a) (between_no b count a x)
      ∙ other_role g g1 it h b count area level p a x

  roles : NewRoles it.map (cells_laid it.map (length it.store.objects) b count) b count
  roles = record { inside = λ a l y. inside a (a - b) (omega arith) (omega arith); outside = λ a x. inl (role_old a x) }
    where
      inside : (a i : ℕ) → a ≡ b + i → i < count → ((cells_laid it.map (length it.store.objects) b count).role a ≡ Blank → ⊥) × ((cells_laid it.map (length it.store.objects) b count).role a ≡ Scratch → ⊥)
      inside a i e l =
          let r = ap (cells_laid it.map (length it.store.objects) b count).role e ∙ role_new i l in
          (λ z. (let x = sym r ∙ z in cc), λ z. (let x = sym r ∙ z in cc))

  no_husk : (a : ℕ) → is_of_husk ((cells_laid it.map (length it.store.objects) b count).role a) ≡ true → (cells_laid it.map (length it.store.objects) b count).role a ≡ it.map.role a
  no_husk a e = go (between_which b count a)
    where
      go : ((b ≤ a) × (a < b + count)) ⊎ ((b ≤ a) × (a < b + count) → ⊥) → (cells_laid it.map (length it.store.objects) b count).role a ≡ it.map.role a
      go (inl x) =
          let l = x.0 in let y = x.1 in
          let r = ap (cells_laid it.map (length it.store.objects) b count).role (let z : a ≡ b + (a - b) = omega arith in z) ∙ role_new (a - b) (omega arith) in
          let z = ap is_of_husk r in cc
      go (inr x) = role_old a x

  class_new : (i : ℕ) → i < count → class_at (classes g1) ((cells_laid it.map (length it.store.objects) b count).at (length it.store.objects + i)) ≡ record { area = area; level = level; standing = Live }
  class_new i l = ap (class_at (classes g1)) (at_new i l) ∙ ap (classes g1) (p.near i l) ∙ p.class_there

  class_old : (m : ℕ) → in_use it.store m → (New m → ⊥) → class_at (classes g1) ((cells_laid it.map (length it.store.objects) b count).at m) ≡ class_at (classes g) (it.map.at m)
  class_old m u ne = ap (class_at (classes g1)) (at_old m ne) ∙ class_else g g1 it h b count area level p m u

  held_same : (m : ℕ) → (New m → ⊥) → (with_made it.store made level).held m ≡ it.store.held m
  held_same m ne = held_old it.store made level m (out m ne)

  object_same : (m : ℕ) → (New m → ⊥) → object (with_made it.store made level) m ≡ object it.store m
  object_same m ne = made_same it.store made level m (out m ne)

  held_there : (i : ℕ) → i < count → (with_made it.store made level).held (length it.store.objects + i) ≡ Some level
  held_there i l = let z = size in held_new it.store made level (length it.store.objects + i) (omega arith) (omega arith)

  was_used : (m : ℕ) → in_use (with_made it.store made level) m → (New m → ⊥) → in_use it.store m
  was_used m u ne = ap is_some (sym (held_same m ne)) ∙ u

  still_used : (m : ℕ) → in_use it.store m → in_use (with_made it.store made level) m
  still_used m u = ap is_some (held_same m (old_name m (h.names m u))) ∙ u

  spared_new : (m : ℕ) → New m → it.aim.condemned m ≡ false
  unfolding New
  spared_new m x = go (cases_Bool (it.aim.condemned m))
    where
      go : (it.aim.condemned m ≡ true) ⊎ (it.aim.condemned m ≡ false) → it.aim.condemned m ≡ false
      go (inl e) = absurd (let y = h.names m (h.condemned m e) in let z = x.0 in omega arith)
      go (inr e) = e

  classes_there : Classes g1 it.top (with_made it.store made level) it.aim (cells_laid it.map (length it.store.objects) b count).at
  classes_there = record {
    area = λ m u. area_at m u (which m);
    spared = λ m l e x. spared m l e x (which m);
    doomed = λ m l e x. doomed m l e x (which m);
  }
    where
      area_at : (m : ℕ) → in_use (with_made it.store made level) m → New m ⊎ (New m → ⊥) → (region g1 ((cells_laid it.map (length it.store.objects) b count).at m)).area ≡ (object (with_made it.store made level) m).area
      area_at m u (inl x) =
          let n = nth m x in
          let P : ℕ → Type 0 = λ i. (region g1 ((cells_laid it.map (length it.store.objects) b count).at i)).area ≡ (object (with_made it.store made level) i).area in
          subst P (sym n.2) (ap (λ (q : Class). q.area) (class_new n.0 n.1) ∙ sym (ap (λ (o : Object). o.area) (made_new it.store made level n.0) ∙ areas_are n.0 (let l = n.1 in let z = size in omega arith)))
      area_at m u (inr ne) = ap (λ (q : Class). q.area) (class_old m (was_used m u ne) ne) ∙ h.classes_of.area m (was_used m u ne) ∙ sym (ap (λ (o : Object). o.area) (object_same m ne))

      spared : (m l : ℕ) → (with_made it.store made level).held m ≡ Some l → it.aim.condemned m ≡ false → New m ⊎ (New m → ⊥)
          → ((region g1 ((cells_laid it.map (length it.store.objects) b count).at m)).standing ≡ Live) × ((region g1 ((cells_laid it.map (length it.store.objects) b count).at m)).level ≡ l)
      spared m l e x (inl y) =
          let n = nth m y in
          let r = ap (λ (i : ℕ). class_at (classes g1) ((cells_laid it.map (length it.store.objects) b count).at i)) n.2 ∙ class_new n.0 n.1 in
          let q : Some level ≡ Some l = sym (held_there n.0 n.1) ∙ ap (with_made it.store made level).held (sym n.2) ∙ e in
          (ap (λ (z : Class). z.standing) r, ap (λ (z : Class). z.level) r ∙ (let v : level ≡ l = cc in v))
      spared m l e x (inr ne) =
          let q = sym (held_same m ne) ∙ e in
          let r = class_old m (ap is_some q) ne in
          let t = h.classes_of.spared m l q x in
          (ap (λ (z : Class). z.standing) r ∙ t.0, ap (λ (z : Class). z.level) r ∙ t.1)

      doomed : (m l : ℕ) → (with_made it.store made level).held m ≡ Some l → it.aim.condemned m ≡ true → New m ⊎ (New m → ⊥)
          → (((region g1 ((cells_laid it.map (length it.store.objects) b count).at m)).standing ≡ Old) × ((region g1 ((cells_laid it.map (length it.store.objects) b count).at m)).level ≡ l))
          ⊎ (((region g1 ((cells_laid it.map (length it.store.objects) b count).at m)).standing ≡ Live)
          × ((region g1 ((cells_laid it.map (length it.store.objects) b count).at m)).level ≡ survivor it.top it.aim.what l) × (it.aim.bound m ≡ true))
      doomed m l e x (inl y) = let z = spared_new m y in cc
      doomed m l e x (inr ne) =
          let q = sym (held_same m ne) ∙ e in
          let r = class_old m (ap is_some q) ne in
          ⊎_elim (λ t. inl (ap (λ (z : Class). z.standing) r ∙ t.0, ap (λ (z : Class). z.level) r ∙ t.1))
          (λ t. inr (ap (λ (z : Class). z.standing) r ∙ t.0, ap (λ (z : Class). z.level) r ∙ t.1, t.2)) (h.classes_of.doomed m l q x)

  -- Sums

  longer : length (with_made it.store made level).objects ≡ length it.store.objects + count
  longer = made_size it.store made level ∙ ap (λ (x : ℕ). length it.store.objects + x) size

  new_held : (i : ℕ) → i < count → is_held (with_made it.store made level) (length it.store.objects + i) ≡ true
  new_held i l = ap is_some (held_there i l)

  new_charge : (i : ℕ) → i < count → (object (with_made it.store made level) (length it.store.objects + i)).charge ≡ 3
  new_charge i l = ap (λ (o : Object). o.charge) (made_new it.store made level i) ∙ threes i (let z = size in omega arith)

  sum_with : (passes : ℕ → Class → Bool) → ((m : ℕ) → passes m (record { area = area; level = level; standing = Live }) ≡ true)
      → charges_in (with_made it.store made level) (cells_laid it.map (length it.store.objects) b count).at (classes g1) passes ≡ charges_in it.store it.map.at (classes g) passes + 3 * count
  sum_with passes e =
      let x = charges_new it.store (with_made it.store made level) it.map.at (cells_laid it.map (length it.store.objects) b count).at (classes g1) passes count 3 longer
      (λ m l. held_same m (old_name m l)) (λ m l. object_same m (old_name m l)) (λ m l. at_old m (old_name m l)) new_held new_charge
      (λ i l. ap (passes (length it.store.objects + i)) (class_new i l) ∙ e (length it.store.objects + i)) in
      let y = charges_before_at g g1 it h b count area level p passes in
      omega arith

  sum_without : (passes : ℕ → Class → Bool) → ((m : ℕ) → passes m (record { area = area; level = level; standing = Live }) ≡ false)
      → charges_in (with_made it.store made level) (cells_laid it.map (length it.store.objects) b count).at (classes g1) passes ≡ charges_in it.store it.map.at (classes g) passes
  sum_without passes e =
      charges_new_else it.store (with_made it.store made level) it.map.at (cells_laid it.map (length it.store.objects) b count).at (classes g1) passes count 3 longer
      (λ m l. held_same m (old_name m l)) (λ m l. object_same m (old_name m l)) (λ m l. at_old m (old_name m l)) new_held new_charge
      (λ i l. ap (passes (length it.store.objects + i)) (class_new i l) ∙ e (length it.store.objects + i))
      ∙ charges_before_at g g1 it h b count area level p passes

  whole : Frame it.map (cells_laid it.map (length it.store.objects) b count) it.store (with_made it.store made level) (between (length it.store.objects) count)
  whole = frame_then it.map (scratched it.map b count) (cells_laid it.map (length it.store.objects) b count) it.store it.store (with_made it.store made level) (between (length it.store.objects) count) (ground_frame g g1 it h b count area level p) f

  spare_before : (passes : ℕ → Class → Bool) (m : ℕ) → m < length it.store.objects → (is_held it.store m ≡ true) ⊎ (is_held it.store m ≡ false)
      → spare_in (with_made it.store made level) (cells_laid it.map (length it.store.objects) b count) (classes g1) passes m ≡ spare_in it.store it.map (classes g) passes m
  spare_before passes m l (inl u) =
      let ne = old_name m l in
      let own = begins_owner (kind_of (object it.store m).body) (it.map.role (it.map.at m)) m (h.roled.begins m u) in
      let role = ap (cells_laid it.map (length it.store.objects) b count).role (at_old m ne) ∙ whole.parts (it.map.at m) m own (not_between m l) in
      ap (λ (q : Option ℕ). if_true (is_some q && (passes m (class_at (classes g1) ((cells_laid it.map (length it.store.objects) b count).at m)) && is_cell ((cells_laid it.map (length it.store.objects) b count).role ((cells_laid it.map (length it.store.objects) b count).at m)))) 2) (held_same m ne)
      ∙ ap (λ (q : Class). if_true (is_held it.store m && (passes m q && is_cell ((cells_laid it.map (length it.store.objects) b count).role ((cells_laid it.map (length it.store.objects) b count).at m)))) 2) (class_old m u ne)
      ∙ ap (λ (r : Role). if_true (is_held it.store m && (passes m (class_at (classes g) (it.map.at m)) && is_cell r)) 2) role
    where
      not_between : (m : ℕ) → m < length it.store.objects → between (length it.store.objects) count m ≡ false
      not_between m l = between_no (length it.store.objects) count m (λ x. let y = x.0 in omega arith)
  spare_before passes m l (inr u) =
      ap (λ (x : Bool). if_true (x && (passes m (class_at (classes g1) ((cells_laid it.map (length it.store.objects) b count).at m)) && is_cell ((cells_laid it.map (length it.store.objects) b count).role ((cells_laid it.map (length it.store.objects) b count).at m)))) 2)
      (ap is_some (held_same m (old_name m l)) ∙ u)
      ∙ ap (λ (x : Bool). if_true (x && (passes m (class_at (classes g) (it.map.at m)) && is_cell (it.map.role (it.map.at m)))) 2) (sym u)

  spare_there : (passes : ℕ → Class → Bool) (t : Bool) (i : ℕ) → i < count → passes (length it.store.objects + i) (record { area = area; level = level; standing = Live }) ≡ t
      → spare_in (with_made it.store made level) (cells_laid it.map (length it.store.objects) b count) (classes g1) passes (length it.store.objects + i) ≡ if_true t 2
  spare_there passes t i l e =
      ap (λ (x : Bool). if_true (x && (passes (length it.store.objects + i) (class_at (classes g1) ((cells_laid it.map (length it.store.objects) b count).at (length it.store.objects + i))) && is_cell ((cells_laid it.map (length it.store.objects) b count).role ((cells_laid it.map (length it.store.objects) b count).at (length it.store.objects + i))))) 2) (new_held i l)
      ∙ ap (λ (x : Bool). if_true (x && is_cell ((cells_laid it.map (length it.store.objects) b count).role ((cells_laid it.map (length it.store.objects) b count).at (length it.store.objects + i)))) 2) (ap (passes (length it.store.objects + i)) (class_new i l) ∙ e)
      ∙ ap (λ (r : Role). if_true (t && is_cell r) 2) (ap (cells_laid it.map (length it.store.objects) b count).role (at_new i l) ∙ role_new i l)
      ∙ ap (λ (x : Bool). if_true x 2) (and_true t)
    where
      and_true : (t : Bool) → (t && true) ≡ t
      and_true true = refl
      and_true false = refl

  spare_sum : (passes : ℕ → Class → Bool) (t : Bool) → ((m : ℕ) → passes m (record { area = area; level = level; standing = Live }) ≡ t)
      → spares_in (with_made it.store made level) (cells_laid it.map (length it.store.objects) b count) (classes g1) passes ≡ spares_in it.store it.map (classes g) passes + if_true t 2 * count
  spare_sum passes t e =
      let fs : ℕ → ℕ = spare_in (with_made it.store made level) (cells_laid it.map (length it.store.objects) b count) (classes g1) passes in
      ap (total fs) longer ∙ total-split fs (length it.store.objects) count
      ∙ ap (λ (x : ℕ). x + total (λ i. fs (length it.store.objects + i)) count) (total-cong fs (spare_in it.store it.map (classes g) passes) (length it.store.objects) (λ m l. spare_before passes m l (cases_Bool (is_held it.store m))))
      ∙ ap (λ (x : ℕ). spares_in it.store it.map (classes g) passes + x)
      (total-cong (λ i. fs (length it.store.objects + i)) (λ i. if_true t 2) count (λ i l. spare_there passes t i l (e (length it.store.objects + i))) ∙ total-const (if_true t 2) count)

  room_live : (x y : ℕ) → ((x ≡ area) × (y ≡ level)) ⊎ ((x ≡ area) × (y ≡ level) → ⊥)
      → used_words g1 (of_class x y) + spares_in (with_made it.store made level) (cells_laid it.map (length it.store.objects) b count) (classes g1) (in_class x y) ≤ g1.live_charge x y + g1.live_husks x y
  room_live x y (inl e) =
      let P : ℕ → Type 0 = λ i. used_words g1 (of_class i y) + spares_in (with_made it.store made level) (cells_laid it.map (length it.store.objects) b count) (classes g1) (in_class i y) ≤ g1.live_charge i y + g1.live_husks i y in
      let Q : ℕ → Type 0 = λ i. used_words g1 (of_class area i) + spares_in (with_made it.store made level) (cells_laid it.map (length it.store.objects) b count) (classes g1) (in_class area i) ≤ g1.live_charge area i + g1.live_husks area i in
      let z : used_words g1 (of_class area level) + spares_in (with_made it.store made level) (cells_laid it.map (length it.store.objects) b count) (classes g1) (in_class area level) ≤ g1.live_charge area level + g1.live_husks area level =
      (let a = h.room_live area level in let u = p.used_class in let v = c.live_class in let q = c.live_husks area level in
      let w = spare_sum (in_class area level) true (λ m. class_yes area level area level m (refl, refl)) in omega arith) in
      subst P (sym e.0) (subst Q (sym e.1) z)
  room_live x y (inr ne) =
      let a = h.room_live x y in let u = p.used_else x y ne in let v = c.live_else x y ne in let q = c.live_husks x y in
      let w = spare_sum (in_class x y) false (λ m. class_no area level x y m ne) in omega arith

  live_sum : (x y : ℕ) → ((x ≡ area) × (y ≡ level)) ⊎ ((x ≡ area) × (y ≡ level) → ⊥)
      → g1.live_charge x y ≡ charges_in (with_made it.store made level) (cells_laid it.map (length it.store.objects) b count).at (classes g1) (in_class x y)
  live_sum x y (inl e) =
      let P : ℕ → Type 0 = λ i. g1.live_charge i y ≡ charges_in (with_made it.store made level) (cells_laid it.map (length it.store.objects) b count).at (classes g1) (in_class i y) in
      let Q : ℕ → Type 0 = λ i. g1.live_charge area i ≡ charges_in (with_made it.store made level) (cells_laid it.map (length it.store.objects) b count).at (classes g1) (in_class area i) in
      let z : g1.live_charge area level ≡ charges_in (with_made it.store made level) (cells_laid it.map (length it.store.objects) b count).at (classes g1) (in_class area level) =
      (let a = sum_with (in_class area level) (λ m. class_yes area level area level m (refl, refl)) in let v = c.live_class in let w = h.live_charges area level in omega arith) in
      subst P (sym e.0) (subst Q (sym e.1) z)
  live_sum x y (inr ne) = c.live_else x y ne ∙ h.live_charges x y ∙ sym (sum_without (in_class x y) (λ m. class_no area level x y m ne))

  doomed_sum : (x : ℕ) → charges (with_made it.store made level) (λ m. it.aim.condemned m && per_area (with_made it.store made level) x m) ≡ charges it.store (λ m. it.aim.condemned m && per_area it.store x m)
  doomed_sum x =
      let fs : ℕ → ℕ = λ m. if_true (it.aim.condemned m && per_area (with_made it.store made level) x m) (object (with_made it.store made level) m).charge in
      let a = ap (total fs) longer ∙ total-split fs (length it.store.objects) count in
      let z = total-none (λ i. fs (length it.store.objects + i)) count
      (λ i l. ap (λ (t : Bool). if_true (t && per_area (with_made it.store made level) x (length it.store.objects + i)) (object (with_made it.store made level) (length it.store.objects + i)).charge) (doomed_none i l)) in
      let y = total-cong fs (λ m. if_true (it.aim.condemned m && per_area it.store x m) (object it.store m).charge) (length it.store.objects)
      (λ m l. ap (λ (q : Object). if_true (it.aim.condemned m && nat_eq q.area x) q.charge) (object_same m (old_name m l))) in
      omega arith
    where
      doomed_none : (i : ℕ) → i < count → it.aim.condemned (length it.store.objects + i) ≡ false
      doomed_none i l = go (cases_Bool (it.aim.condemned (length it.store.objects + i)))
        where
          go : (it.aim.condemned (length it.store.objects + i) ≡ true) ⊎ (it.aim.condemned (length it.store.objects + i) ≡ false) → it.aim.condemned (length it.store.objects + i) ≡ false
          go (inl e) = absurd (let y = h.names (length it.store.objects + i) (h.condemned (length it.store.objects + i) e) in omega arith)
          go (inr e) = e

  below_new : (m : ℕ) → in_use (with_made it.store made level) m → New m ⊎ (New m → ⊥) → m < length (with_made it.store made level).objects
  below_new m u (inl x) = let n = nth m x in let a = n.1 in let e = n.2 in let l = longer in omega arith
  below_new m u (inr ne) = let l = longer in let x = h.names m (was_used m u ne) in omega arith

  level_at : (m : ℕ) → in_use (with_made it.store made level) m → New m ⊎ (New m → ⊥) → (class_at (classes g1) ((cells_laid it.map (length it.store.objects) b count).at m)).level < suc it.top
  level_at m u (inl x) =
      let n = nth m x in
      let r = ap (λ (q : Class). q.level) (ap (λ (i : ℕ). class_at (classes g1) ((cells_laid it.map (length it.store.objects) b count).at i)) n.2 ∙ class_new n.0 n.1) in
      let y = low in omega arith
  level_at m u (inr ne) = let r = ap (λ (q : Class). q.level) (class_old m (was_used m u ne) ne) in let x = h.levels m (was_used m u ne) in omega arith

  pub kept_cells_made : MemoryInvariant g1 (record it { map = cells_laid it.map (length it.store.objects) b count; store = with_made it.store made level })
  kept_cells_made = record {
    roled = roled;
    covered = covered_again g g1 it.map (cells_laid it.map (length it.store.objects) b count) b count area level h.covered p roles g1.words;
    names = λ m u. below_new m u (which m);
    condemned = λ m e. still_used m (h.condemned m e);
    bound = λ m e. still_used m (h.bound m e);
    classes_of = classes_there;
    levels = λ m u. level_at m u (which m);
    live_charges = λ x y. live_sum x y (two_numbers x y area level (Rattle.std.proofs.lemmas.Bool.cases_eq x area) (Rattle.std.proofs.lemmas.Bool.cases_eq y level));
    old_charges = λ x y. c.old x y ∙ h.old_charges x y ∙ sym (sum_without (in_old_class x y) (λ m. refl));
    live_husks = λ x y. c.live_husks x y ∙ h.live_husks x y;
    old_husks = λ x. total-cong (g1.old_husks x) (g.old_husks x) (suc it.top) (λ y l. c.old_husks x y) ∙ h.old_husks x;
    quota = quota;
    room_live = λ x y. room_live x y (two_numbers x y area level (Rattle.std.proofs.lemmas.Bool.cases_eq x area) (Rattle.std.proofs.lemmas.Bool.cases_eq y level));
    room_husks = husks_placed g g1 it.map (cells_laid it.map (length it.store.objects) b count) b count area level h.covered p no_husk c.live_husks h.room_husks;
    room_old = λ x. (let a = h.room_old x in let u = p.used_old x in let d = doomed_sum x in omega arith);
    chains = p.chains;
    marks = marks;
  }

  pub cells_made_old : charges_in (with_made it.store made level) (cells_laid it.map (length it.store.objects) b count).at (classes g1) in_old ≡ charges_in it.store it.map.at (classes g) in_old
  cells_made_old = sum_without in_old (λ m. refl)

  pub cells_made_refines : Refines it.map.role (cells_laid it.map (length it.store.objects) b count).role
  cells_made_refines = whole.refine
