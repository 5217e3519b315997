-- The invariant after a new object: from the role lemma, the table's numbers, and the sums.
use Rattle.std.proofs.Common.{◌≡◌, ℕ, suc, ◌+◌, ◌-◌, ◌<◌, ◌≤◌, ◌⊎◌, inl, inr, ⊎_elim, Bool, true, false, ◌&&◌, ◌==◌, refl, sym, ◌∙◌, ap, subst, arith, Option, Some, None, [], ◌∷◌, length, nat_eq, IsTrue}
use Rattle.std.specs.Prelude.{is_some}
use Rattle.std.proofs.lemmas.Bool.{cases_eq, cases_Bool}
use Rattle.lisp_graph.specs.declared.object.Object.{Object}
use Rattle.lisp_graph.specs.Totals.{total, if_true}
use Rattle.lisp_graph.proofs.Totals.{total-cong, total-suc}
use Rattle.lisp_meaning.specs.machine.Changes.{with_made}
use Rattle.lisp_meaning.specs.machine.Charges.{account, charges, per_area}
use Rattle.lisp_meaning.specs.invariants.ChargesIn.{charges_in, spare_in, spares_in, is_cell, is_of_husk}
use Rattle.lisp_meaning.specs.reading.Classes.{Class, class_at, region_of, in_class, in_old_class, classes, of_class, in_old}
use Rattle.lisp_meaning.specs.invariants.Fits.{Roled}
use Rattle.lisp_meaning.specs.reading.Image.{Image, word, region, is_free, is_used, used_words, Live, Old}
use Rattle.lisp_meaning.specs.invariants.Invariant.{Covered, MemoryInvariant}
use Rattle.lisp_meaning.specs.invariants.Laid.{scratched, newly_laid, Shape, size, role_in}
use Rattle.lisp_meaning.specs.invariants.Placed.{Placed, Charged}
use Rattle.lisp_meaning.specs.reading.Marks.{Marks}
use Rattle.lisp_meaning.specs.invariants.Roles.{Role, Blank, Scratch, Waste, owner, RoleMap, kind_of}
use Rattle.lisp_meaning.specs.invariants.Interpretation.{Interpretation}
use Rattle.lisp_meaning.specs.reading.Stands.{Classes}
use Rattle.lisp_meaning.specs.machine.State.{Store, object, is_held, in_use, rule_of, survivor}
use Rattle.lisp_meaning.proofs.maps.Puts.{put_at-same, put_at-other}
use Rattle.lisp_meaning.proofs.maps.Frames.{Frame}
use Rattle.lisp_meaning.proofs.maps.Patches.{begins_owner}
use Rattle.lisp_meaning.proofs.layout.Layout.{other_is, between_which, role_new, role_else}
use Rattle.lisp_meaning.proofs.layout.ObjectWords.{positive, owner_in}
use Rattle.lisp_meaning.proofs.sums.Charges.{charges_new, charges_new_else}
use Rattle.lisp_meaning.proofs.reading.Husks.{owned_no_husk, husks_placed}
use Rattle.lisp_meaning.proofs.maps.StoreChanges.{made_size, made_new, made_same, held_old, held_new, made_used}
use Rattle.lisp_meaning.proofs.layout.Placement.{frame_then, scratch_role, other_role, ground_frame, class_else, charges_before_at, two_numbers, class_yes, class_no}

owner_not : (r r' : Role) (n : ℕ) → owner r ≡ Some n → owner r' ≡ None → r ≡ r' → ⊥
owner_not r r' n o e z = let x = ap owner z in cc

-- One new object

module _ (g g' : Image) (it : Interpretation) (h : MemoryInvariant g it) (b area level : ℕ) (shape : Shape) (o : Object)
    (p : Placed g g' b (size shape) area level) (c : Charged g g' area level o.charge) (marks : Marks g')
    (of_area_o : o.area ≡ area) (low : level < suc it.top) (fits_charge : size shape + if_true (is_cell (role_in shape (length it.store.objects) 0)) 2 ≤ o.charge)
    (quota : (a : ℕ) → a < length it.areas → account it.top (with_made it.store (o ∷ []) level) it.aim a ≤ (rule_of it.areas a).quota)
    (roled : Roled (word g') (classes g') (newly_laid it.map (length it.store.objects) b shape) (with_made it.store (o ∷ []) level))
    (f : Frame (scratched it.map b (size shape)) (newly_laid it.map (length it.store.objects) b shape) it.store (with_made it.store (o ∷ []) level) (λ m. m == length it.store.objects)) where
  n : ℕ
  n = length it.store.objects

  k' : RoleMap
  k' = newly_laid it.map (length it.store.objects) b shape

  s' : Store
  s' = with_made it.store (o ∷ []) level

  only : (j : ℕ) → j < 0 → owner ((scratched it.map b (size shape)).role (0 + j)) ≡ Some (length it.store.objects)
  only j l = absurd (omega arith)

  scratch : (j : ℕ) → j < size shape → (scratched it.map b (size shape)).role (b + j) ≡ Scratch
  scratch j l = scratch_role g g' it h b (size shape) area level p (b + j) (omega arith, omega arith)

  role_in_new : (a : ℕ) → (b ≤ a) × (a < b + size shape) → (newly_laid it.map (length it.store.objects) b shape).role a ≡ role_in shape (length it.store.objects) (a - b)
  role_in_new a x = let l = x.0 in let y = x.1 in
      ap (newly_laid it.map (length it.store.objects) b shape).role (let z : a ≡ b + (a - b) = omega arith in z)
      ∙ role_new (scratched it.map b (size shape)) (length it.store.objects) 0 0 b shape Waste Waste 0 only scratch (a - b) (omega arith)

  role_out : (a : ℕ) → ((b ≤ a) × (a < b + size shape) → ⊥) → (newly_laid it.map (length it.store.objects) b shape).role a ≡ it.map.role a
  role_out a x = role_else (scratched it.map b (size shape)) (length it.store.objects) 0 0 b shape Waste Waste 0 only scratch a x (λ y. let l = y.1 in omega arith)
      ∙ other_role g g' it h b (size shape) area level p a x

  new_owner : (a : ℕ) → (b ≤ a) × (a < b + size shape) → owner ((newly_laid it.map (length it.store.objects) b shape).role a) ≡ Some (length it.store.objects)
  new_owner a x = ap owner (role_in_new a x) ∙ owner_in shape (length it.store.objects) (a - b)

  live_there : (a : ℕ) → (b ≤ a) × (a < b + size shape) → class_at (classes g') a ≡ record { area = area; level = level; standing = Live }
  live_there a x = let l = x.0 in let y = x.1 in
      ap (classes g') (ap region_of (let z : a ≡ b + (a - b) = omega arith in z) ∙ p.near (a - b) (omega arith)) ∙ p.class_there

  covered : Covered g' (newly_laid it.map (length it.store.objects) b shape)
  covered = record {
    used = λ a u e. used a u e (between_which b (size shape) a);
    unused = λ a u. unused a u (between_which b (size shape) a);
    free = λ a u. free a u (between_which b (size shape) a);
    done = λ a e. done a e (between_which b (size shape) a);
  }
    where
      used : (a : ℕ) → IsTrue (is_used g' a) → (newly_laid it.map (length it.store.objects) b shape).role a ≡ Blank → ((b ≤ a) × (a < b + size shape)) ⊎ ((b ≤ a) × (a < b + size shape) → ⊥) → ⊥
      used a u e (inl x) = owner_not _ Blank (length it.store.objects) (new_owner a x) refl e
      used a u e (inr x) = h.covered.used a (sym (p.used_out a x) ∙ u) (sym (role_out a x) ∙ e)

      unused : (a : ℕ) → is_used g' a ≡ false → ((b ≤ a) × (a < b + size shape)) ⊎ ((b ≤ a) × (a < b + size shape) → ⊥) → (newly_laid it.map (length it.store.objects) b shape).role a ≡ Blank
      unused a u (inl x) = let y = p.used_in a x.0 x.1 in cc
      unused a u (inr x) = role_out a x ∙ h.covered.unused a (sym (p.used_out a x) ∙ u)

      free : (a : ℕ) → is_free (region g' a).standing ≡ true → ((b ≤ a) × (a < b + size shape)) ⊎ ((b ≤ a) × (a < b + size shape) → ⊥) → (newly_laid it.map (length it.store.objects) b shape).role a ≡ Blank
      free a u (inl x) = let y : is_free (region g' a).standing ≡ false = ap (λ (q : Class). is_free q.standing) (live_there a x) in cc
      free a u (inr x) = role_out a x ∙ h.covered.free a (p.free a u)

      done : (a : ℕ) → (newly_laid it.map (length it.store.objects) b shape).role a ≡ Scratch → ((b ≤ a) × (a < b + size shape)) ⊎ ((b ≤ a) × (a < b + size shape) → ⊥) → ⊥
      done a e (inl x) = owner_not _ Scratch (length it.store.objects) (new_owner a x) refl e
      done a e (inr x) = h.covered.done a (sym (role_out a x) ∙ e)

  at_new : (newly_laid it.map (length it.store.objects) b shape).at (length it.store.objects) ≡ b
  at_new = put_at-same it.map.at (length it.store.objects) b (length it.store.objects) refl

  at_old : (m : ℕ) → (m ≡ length it.store.objects → ⊥) → (newly_laid it.map (length it.store.objects) b shape).at m ≡ it.map.at m
  at_old m ne = put_at-other it.map.at (length it.store.objects) b m ne

  class_new : class_at (classes g') ((newly_laid it.map (length it.store.objects) b shape).at (length it.store.objects)) ≡ record { area = area; level = level; standing = Live }
  class_new = ap (class_at (classes g')) at_new ∙ p.class_there

  class_old : (m : ℕ) → in_use it.store m → (m ≡ length it.store.objects → ⊥) → class_at (classes g') ((newly_laid it.map (length it.store.objects) b shape).at m) ≡ class_at (classes g) (it.map.at m)
  class_old m u ne = ap (class_at (classes g')) (at_old m ne) ∙ class_else g g' it h b (size shape) area level p m u

  outside : (m : ℕ) → (m ≡ length it.store.objects → ⊥) → (length it.store.objects ≤ m) × (m < length it.store.objects + 1) → ⊥
  outside m ne x = let l = x.0 in let y = x.1 in ne (omega arith)

  held_same : (m : ℕ) → (m ≡ length it.store.objects → ⊥) → (with_made it.store (o ∷ []) level).held m ≡ it.store.held m
  held_same m ne = held_old it.store (o ∷ []) level m (outside m ne)

  object_same : (m : ℕ) → (m ≡ length it.store.objects → ⊥) → object (with_made it.store (o ∷ []) level) m ≡ object it.store m
  object_same m ne = made_same it.store (o ∷ []) level m (outside m ne)

  object_new : object (with_made it.store (o ∷ []) level) (length it.store.objects) ≡ o
  object_new = ap (object (with_made it.store (o ∷ []) level)) (let z : length it.store.objects ≡ length it.store.objects + 0 = omega arith in z) ∙ made_new it.store (o ∷ []) level 0

  held_there : (with_made it.store (o ∷ []) level).held (length it.store.objects) ≡ Some level
  held_there = held_new it.store (o ∷ []) level (length it.store.objects) (omega arith) (omega arith)

  was_used : (m : ℕ) → in_use (with_made it.store (o ∷ []) level) m → (m ≡ length it.store.objects → ⊥) → in_use it.store m
  was_used m u ne = ap is_some (sym (held_same m ne)) ∙ u

  spared_new : it.aim.condemned (length it.store.objects) ≡ false
  spared_new = go (cases_Bool (it.aim.condemned (length it.store.objects)))
    where
      go : (it.aim.condemned (length it.store.objects) ≡ true) ⊎ (it.aim.condemned (length it.store.objects) ≡ false) → it.aim.condemned (length it.store.objects) ≡ false
      go (inl e) = absurd (let x = h.names (length it.store.objects) (h.condemned (length it.store.objects) e) in omega arith)
      go (inr e) = e

  classes_there : Classes g' it.top (with_made it.store (o ∷ []) level) it.aim (newly_laid it.map (length it.store.objects) b shape).at
  classes_there = record {
    area = λ m u. area_at m u (cases_eq m (length it.store.objects));
    spared = λ m l e x. spared m l e x (cases_eq m (length it.store.objects));
    doomed = λ m l e x. doomed m l e x (cases_eq m (length it.store.objects));
  }
    where
      area_at : (m : ℕ) → in_use (with_made it.store (o ∷ []) level) m → (m ≡ length it.store.objects) ⊎ (m ≡ length it.store.objects → ⊥)
          → (region g' ((newly_laid it.map (length it.store.objects) b shape).at m)).area ≡ (object (with_made it.store (o ∷ []) level) m).area
      area_at m u (inl z) =
          let P : ℕ → Type 0 = λ i. (region g' ((newly_laid it.map (length it.store.objects) b shape).at i)).area ≡ (object (with_made it.store (o ∷ []) level) i).area in
          subst P (sym z) (ap (λ (q : Class). q.area) class_new ∙ sym of_area_o ∙ sym (ap (λ (x : Object). x.area) object_new))
      area_at m u (inr ne) = ap (λ (q : Class). q.area) (class_old m (was_used m u ne) ne) ∙ h.classes_of.area m (was_used m u ne) ∙ sym (ap (λ (x : Object). x.area) (object_same m ne))

      spared : (m l : ℕ) → (with_made it.store (o ∷ []) level).held m ≡ Some l → it.aim.condemned m ≡ false → (m ≡ length it.store.objects) ⊎ (m ≡ length it.store.objects → ⊥)
          → ((region g' ((newly_laid it.map (length it.store.objects) b shape).at m)).standing ≡ Live) × ((region g' ((newly_laid it.map (length it.store.objects) b shape).at m)).level ≡ l)
      spared m l e x (inl z) =
          let r = ap (λ (i : ℕ). class_at (classes g') ((newly_laid it.map (length it.store.objects) b shape).at i)) z ∙ class_new in
          let q : Some level ≡ Some l = sym held_there ∙ ap (with_made it.store (o ∷ []) level).held (sym z) ∙ e in
          (ap (λ (y : Class). y.standing) r, ap (λ (y : Class). y.level) r ∙ (let v : level ≡ l = cc in v))
      spared m l e x (inr ne) =
          let q = sym (held_same m ne) ∙ e in
          let r = class_old m (ap is_some q) ne in
          let t = h.classes_of.spared m l q x in
          (ap (λ (y : Class). y.standing) r ∙ t.0, ap (λ (y : Class). y.level) r ∙ t.1)

      doomed : (m l : ℕ) → (with_made it.store (o ∷ []) level).held m ≡ Some l → it.aim.condemned m ≡ true → (m ≡ length it.store.objects) ⊎ (m ≡ length it.store.objects → ⊥)
          → (((region g' ((newly_laid it.map (length it.store.objects) b shape).at m)).standing ≡ Old) × ((region g' ((newly_laid it.map (length it.store.objects) b shape).at m)).level ≡ l))
          ⊎ (((region g' ((newly_laid it.map (length it.store.objects) b shape).at m)).standing ≡ Live)
          × ((region g' ((newly_laid it.map (length it.store.objects) b shape).at m)).level ≡ survivor it.top it.aim.what l) × (it.aim.bound m ≡ true))
      doomed m l e x (inl z) = let y = spared_new in let v = ap it.aim.condemned z in cc
      doomed m l e x (inr ne) =
          let q = sym (held_same m ne) ∙ e in
          let r = class_old m (ap is_some q) ne in
          ⊎_elim (λ t. inl (ap (λ (y : Class). y.standing) r ∙ t.0, ap (λ (y : Class). y.level) r ∙ t.1))
          (λ t. inr (ap (λ (y : Class). y.standing) r ∙ t.0, ap (λ (y : Class). y.level) r ∙ t.1, t.2)) (h.classes_of.doomed m l q x)

  -- Sums

  longer : length (with_made it.store (o ∷ []) level).objects ≡ length it.store.objects + 1
  longer = made_size it.store (o ∷ []) level

  differs : (m : ℕ) → m < length it.store.objects → m ≡ length it.store.objects → ⊥
  differs m l z = omega arith

  charges_before : (passes : ℕ → Class → Bool) → charges_in it.store it.map.at (classes g') passes ≡ charges_in it.store it.map.at (classes g) passes
  charges_before passes = charges_before_at g g' it h b (size shape) area level p passes

  new_at : (i : ℕ) → i < 1 → class_at (classes g') ((newly_laid it.map (length it.store.objects) b shape).at (length it.store.objects + i)) ≡ record { area = area; level = level; standing = Live }
  new_at i l = ap (λ (m : ℕ). class_at (classes g') ((newly_laid it.map (length it.store.objects) b shape).at m)) (let z : length it.store.objects + i ≡ length it.store.objects = omega arith in z) ∙ class_new

  new_held : (i : ℕ) → i < 1 → is_held (with_made it.store (o ∷ []) level) (length it.store.objects + i) ≡ true
  new_held i l = made_used it.store (o ∷ []) level i l

  new_charge : (i : ℕ) → i < 1 → (object (with_made it.store (o ∷ []) level) (length it.store.objects + i)).charge ≡ o.charge
  new_charge i l = ap (λ (m : ℕ). (object (with_made it.store (o ∷ []) level) m).charge) (let z : length it.store.objects + i ≡ length it.store.objects = omega arith in z) ∙ ap (λ (x : Object). x.charge) object_new

  sum_with : (passes : ℕ → Class → Bool) → passes (length it.store.objects) (record { area = area; level = level; standing = Live }) ≡ true
      → charges_in (with_made it.store (o ∷ []) level) (newly_laid it.map (length it.store.objects) b shape).at (classes g') passes ≡ charges_in it.store it.map.at (classes g) passes + o.charge
  sum_with passes e =
      let x = charges_new it.store (with_made it.store (o ∷ []) level) it.map.at (newly_laid it.map (length it.store.objects) b shape).at (classes g') passes 1 o.charge longer
      (λ m l. held_same m (differs m l)) (λ m l. object_same m (differs m l)) (λ m l. at_old m (differs m l)) new_held new_charge
      (λ i l. ap (passes (length it.store.objects + i)) (new_at i l) ∙ ap (λ (m : ℕ). passes m (record { area = area; level = level; standing = Live })) (let z : length it.store.objects + i ≡ length it.store.objects = omega arith in z) ∙ e) in
      let y = charges_before passes in
      omega arith

  sum_without : (passes : ℕ → Class → Bool) → passes (length it.store.objects) (record { area = area; level = level; standing = Live }) ≡ false
      → charges_in (with_made it.store (o ∷ []) level) (newly_laid it.map (length it.store.objects) b shape).at (classes g') passes ≡ charges_in it.store it.map.at (classes g) passes
  sum_without passes e =
      charges_new_else it.store (with_made it.store (o ∷ []) level) it.map.at (newly_laid it.map (length it.store.objects) b shape).at (classes g') passes 1 o.charge longer
      (λ m l. held_same m (differs m l)) (λ m l. object_same m (differs m l)) (λ m l. at_old m (differs m l)) new_held new_charge
      (λ i l. ap (passes (length it.store.objects + i)) (new_at i l) ∙ ap (λ (m : ℕ). passes m (record { area = area; level = level; standing = Live })) (let z : length it.store.objects + i ≡ length it.store.objects = omega arith in z) ∙ e)
      ∙ charges_before passes

  whole : Frame it.map (newly_laid it.map (length it.store.objects) b shape) it.store (with_made it.store (o ∷ []) level) (λ m. m == length it.store.objects)
  whole = frame_then it.map (scratched it.map b (size shape)) (newly_laid it.map (length it.store.objects) b shape) it.store it.store (with_made it.store (o ∷ []) level) (λ m. m == length it.store.objects)
      (ground_frame g g' it h b (size shape) area level p) f

  spare_before : (passes : ℕ → Class → Bool) (m : ℕ) → m < length it.store.objects → (is_held it.store m ≡ true) ⊎ (is_held it.store m ≡ false)
      → spare_in (with_made it.store (o ∷ []) level) (newly_laid it.map (length it.store.objects) b shape) (classes g') passes m ≡ spare_in it.store it.map (classes g) passes m
  spare_before passes m l (inl u) =
      let ne = differs m l in
      let out = other_is m (length it.store.objects) ne in
      let own = begins_owner (kind_of (object it.store m).body) (it.map.role (it.map.at m)) m (h.roled.begins m u) in
      let role = ap (newly_laid it.map (length it.store.objects) b shape).role (at_old m ne) ∙ whole.parts (it.map.at m) m own out in
      ap (λ (q : Option ℕ). if_true (is_some q && (passes m (class_at (classes g') ((newly_laid it.map (length it.store.objects) b shape).at m)) && is_cell ((newly_laid it.map (length it.store.objects) b shape).role ((newly_laid it.map (length it.store.objects) b shape).at m)))) 2) (held_same m ne)
      ∙ ap (λ (q : Class). if_true (is_held it.store m && (passes m q && is_cell ((newly_laid it.map (length it.store.objects) b shape).role ((newly_laid it.map (length it.store.objects) b shape).at m)))) 2) (class_old m u ne)
      ∙ ap (λ (r : Role). if_true (is_held it.store m && (passes m (class_at (classes g) (it.map.at m)) && is_cell r)) 2) role
  spare_before passes m l (inr u) =
      ap (λ (x : Bool). if_true (x && (passes m (class_at (classes g') ((newly_laid it.map (length it.store.objects) b shape).at m)) && is_cell ((newly_laid it.map (length it.store.objects) b shape).role ((newly_laid it.map (length it.store.objects) b shape).at m)))) 2)
      (ap is_some (held_same m (differs m l)) ∙ u)
      ∙ ap (λ (x : Bool). if_true (x && (passes m (class_at (classes g) (it.map.at m)) && is_cell (it.map.role (it.map.at m)))) 2) (sym u)

  spare_sum : (passes : ℕ → Class → Bool)
      → spares_in (with_made it.store (o ∷ []) level) (newly_laid it.map (length it.store.objects) b shape) (classes g') passes
      ≡ spare_in (with_made it.store (o ∷ []) level) (newly_laid it.map (length it.store.objects) b shape) (classes g') passes (length it.store.objects) + spares_in it.store it.map (classes g) passes
  spare_sum passes =
      let fs : ℕ → ℕ = spare_in (with_made it.store (o ∷ []) level) (newly_laid it.map (length it.store.objects) b shape) (classes g') passes in
      ap (total fs) (longer ∙ (let z : length it.store.objects + 1 ≡ suc (length it.store.objects) = omega arith in z)) ∙ total-suc fs (length it.store.objects)
      ∙ ap (λ (x : ℕ). fs (length it.store.objects) + x) (total-cong fs (spare_in it.store it.map (classes g) passes) (length it.store.objects) (λ m l. spare_before passes m l (cases_Bool (is_held it.store m))))

  role_at_new : (newly_laid it.map (length it.store.objects) b shape).role ((newly_laid it.map (length it.store.objects) b shape).at (length it.store.objects)) ≡ role_in shape (length it.store.objects) 0
  role_at_new = ap (newly_laid it.map (length it.store.objects) b shape).role (at_new ∙ (let z : b ≡ b + 0 = omega arith in z))
      ∙ role_new (scratched it.map b (size shape)) (length it.store.objects) 0 0 b shape Waste Waste 0 only scratch 0 (positive shape)

  spare_there : (passes : ℕ → Class → Bool) (t : Bool) → passes (length it.store.objects) (record { area = area; level = level; standing = Live }) ≡ t
      → spare_in (with_made it.store (o ∷ []) level) (newly_laid it.map (length it.store.objects) b shape) (classes g') passes (length it.store.objects)
      ≡ if_true (t && is_cell (role_in shape (length it.store.objects) 0)) 2
  spare_there passes t e =
      ap (λ (q : Option ℕ). if_true (is_some q && (passes (length it.store.objects) (class_at (classes g') ((newly_laid it.map (length it.store.objects) b shape).at (length it.store.objects))) && is_cell ((newly_laid it.map (length it.store.objects) b shape).role ((newly_laid it.map (length it.store.objects) b shape).at (length it.store.objects))))) 2) held_there
      ∙ ap (λ (x : Bool). if_true (x && is_cell ((newly_laid it.map (length it.store.objects) b shape).role ((newly_laid it.map (length it.store.objects) b shape).at (length it.store.objects)))) 2) (ap (passes (length it.store.objects)) class_new ∙ e)
      ∙ ap (λ (r : Role). if_true (t && is_cell r) 2) role_at_new

  room_live : (x y : ℕ) → ((x ≡ area) × (y ≡ level)) ⊎ ((x ≡ area) × (y ≡ level) → ⊥)
      → used_words g' (of_class x y) + spares_in (with_made it.store (o ∷ []) level) (newly_laid it.map (length it.store.objects) b shape) (classes g') (in_class x y)
      ≤ g'.live_charge x y + g'.live_husks x y
  room_live x y (inl e) =
      let a = h.room_live x y in
      let s1 = spare_sum (in_class x y) in
      let s2 = spare_there (in_class x y) true (class_yes area level x y (length it.store.objects) e) in
      let u : used_words g' (of_class x y) ≡ used_words g (of_class x y) + size shape =
      ap (λ (i : ℕ). used_words g' (of_class i y)) e.0 ∙ ap (λ (i : ℕ). used_words g' (of_class area i)) e.1 ∙ p.used_class
      ∙ sym (ap (λ (i : ℕ). used_words g (of_class i y) + size shape) e.0 ∙ ap (λ (i : ℕ). used_words g (of_class area i) + size shape) e.1) in
      let v : g'.live_charge x y ≡ g.live_charge x y + o.charge =
      ap (λ (i : ℕ). g'.live_charge i y) e.0 ∙ ap (g'.live_charge area) e.1 ∙ c.live_class ∙ sym (ap (λ (i : ℕ). g.live_charge i y + o.charge) e.0 ∙ ap (λ (i : ℕ). g.live_charge area i + o.charge) e.1) in
      let q = c.live_husks x y in
      let z = fits_charge in
      omega arith
  room_live x y (inr ne) =
      let a = h.room_live x y in
      let s1 = spare_sum (in_class x y) in
      let s2 = spare_there (in_class x y) false (class_no area level x y (length it.store.objects) ne) in
      let u = p.used_else x y ne in let v = c.live_else x y ne in let q = c.live_husks x y in
      omega arith

  live_sum : (x y : ℕ) → ((x ≡ area) × (y ≡ level)) ⊎ ((x ≡ area) × (y ≡ level) → ⊥)
      → g'.live_charge x y ≡ charges_in (with_made it.store (o ∷ []) level) (newly_laid it.map (length it.store.objects) b shape).at (classes g') (in_class x y)
  live_sum x y (inl e) =
      let a = sum_with (in_class x y) (class_yes area level x y (length it.store.objects) e) in
      let v : g'.live_charge x y ≡ g.live_charge x y + o.charge =
      ap (λ (i : ℕ). g'.live_charge i y) e.0 ∙ ap (g'.live_charge area) e.1 ∙ c.live_class ∙ sym (ap (λ (i : ℕ). g.live_charge i y + o.charge) e.0 ∙ ap (λ (i : ℕ). g.live_charge area i + o.charge) e.1) in
      let z = h.live_charges x y in
      omega arith
  live_sum x y (inr ne) =
      let a = sum_without (in_class x y) (class_no area level x y (length it.store.objects) ne) in
      let v = c.live_else x y ne in let z = h.live_charges x y in
      omega arith

  doomed_sum : (x : ℕ) → charges (with_made it.store (o ∷ []) level) (λ m. it.aim.condemned m && per_area (with_made it.store (o ∷ []) level) x m) ≡ charges it.store (λ m. it.aim.condemned m && per_area it.store x m)
  doomed_sum x =
      let fs : ℕ → ℕ = λ m. if_true (it.aim.condemned m && per_area (with_made it.store (o ∷ []) level) x m) (object (with_made it.store (o ∷ []) level) m).charge in
      let a : fs (length it.store.objects) ≡ 0 = ap (λ (t : Bool). if_true (t && per_area (with_made it.store (o ∷ []) level) x (length it.store.objects)) (object (with_made it.store (o ∷ []) level) (length it.store.objects)).charge) spared_new in
      ap (total fs) (longer ∙ (let z : length it.store.objects + 1 ≡ suc (length it.store.objects) = omega arith in z)) ∙ total-suc fs (length it.store.objects)
      ∙ ap (λ (i : ℕ). i + total fs (length it.store.objects)) a
      ∙ (let z : 0 + total fs (length it.store.objects) ≡ total fs (length it.store.objects) = omega arith in z)
      ∙ total-cong fs (λ m. if_true (it.aim.condemned m && per_area it.store x m) (object it.store m).charge) (length it.store.objects)
      (λ m l. ap (λ (q : Object). if_true (it.aim.condemned m && nat_eq q.area x) q.charge) (object_same m (differs m l)))

  below_new : (m : ℕ) → in_use (with_made it.store (o ∷ []) level) m → (m ≡ length it.store.objects) ⊎ (m ≡ length it.store.objects → ⊥) → m < length (with_made it.store (o ∷ []) level).objects
  below_new m u (inl z) = let l = longer in omega arith
  below_new m u (inr ne) = let l = longer in let x = h.names m (was_used m u ne) in omega arith

  level_at : (m : ℕ) → in_use (with_made it.store (o ∷ []) level) m → (m ≡ length it.store.objects) ⊎ (m ≡ length it.store.objects → ⊥)
      → (class_at (classes g') ((newly_laid it.map (length it.store.objects) b shape).at m)).level < suc it.top
  level_at m u (inl z) =
      let r = ap (λ (q : Class). q.level) (ap (λ (i : ℕ). class_at (classes g') ((newly_laid it.map (length it.store.objects) b shape).at i)) z ∙ class_new) in
      let x = low in omega arith
  level_at m u (inr ne) =
      let r = ap (λ (q : Class). q.level) (class_old m (was_used m u ne) ne) in
      let x = h.levels m (was_used m u ne) in omega arith

  still_used : (m : ℕ) → in_use it.store m → in_use (with_made it.store (o ∷ []) level) m
  still_used m u = ap is_some (held_same m (λ (z : m ≡ length it.store.objects). let x = h.names m u in omega arith)) ∙ u

  no_husk : (a : ℕ) → is_of_husk ((newly_laid it.map (length it.store.objects) b shape).role a) ≡ true → (newly_laid it.map (length it.store.objects) b shape).role a ≡ it.map.role a
  no_husk a e = go (between_which b (size shape) a)
    where
      go : ((b ≤ a) × (a < b + size shape)) ⊎ ((b ≤ a) × (a < b + size shape) → ⊥) → (newly_laid it.map (length it.store.objects) b shape).role a ≡ it.map.role a
      go (inl x) = let z = owned_no_husk ((newly_laid it.map (length it.store.objects) b shape).role a) (length it.store.objects) (new_owner a x) in cc
      go (inr x) = role_out a x

  -- the whole invariant
  pub kept_made : MemoryInvariant g' (record it { map = newly_laid it.map (length it.store.objects) b shape; store = with_made it.store (o ∷ []) level })
  kept_made = record {
    roled = roled;
    covered = covered;
    names = λ m u. below_new m u (cases_eq m (length it.store.objects));
    condemned = λ m e. still_used m (h.condemned m e);
    bound = λ m e. still_used m (h.bound m e);
    classes_of = classes_there;
    levels = λ m u. level_at m u (cases_eq m (length it.store.objects));
    live_charges = λ x y. live_sum x y (two_numbers x y area level (cases_eq x area) (cases_eq y level));
    old_charges = λ x y. c.old x y ∙ h.old_charges x y ∙ sym (sum_without (in_old_class x y) refl);
    live_husks = λ x y. c.live_husks x y ∙ h.live_husks x y;
    old_husks = λ x. total-cong (g'.old_husks x) (g.old_husks x) (suc it.top) (λ y l. c.old_husks x y) ∙ h.old_husks x;
    quota = quota;
    room_live = λ x y. room_live x y (two_numbers x y area level (cases_eq x area) (cases_eq y level));
    room_husks = husks_placed g g' it.map (newly_laid it.map (length it.store.objects) b shape) b (size shape) area level h.covered p no_husk c.live_husks h.room_husks;
    room_old = λ x. (let a = h.room_old x in let u = p.used_old x in let d = doomed_sum x in omega arith);
    chains = p.chains;
    marks = marks;
  }

  -- what is in old regions stays
  pub kept_made_old : charges_in (with_made it.store (o ∷ []) level) (newly_laid it.map (length it.store.objects) b shape).at (classes g') in_old ≡ charges_in it.store it.map.at (classes g) in_old
  kept_made_old = sum_without in_old refl

  pub kept_made_frame : Frame it.map (newly_laid it.map (length it.store.objects) b shape) it.store (with_made it.store (o ∷ []) level) (λ m. m == length it.store.objects)
  kept_made_frame = whole
