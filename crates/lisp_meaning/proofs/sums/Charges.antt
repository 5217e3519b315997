-- How the sums of charges change when one object changes or moves, and when objects are new.
use Rattle.std.proofs.Common.{◌≡◌, ◌≢◌, ℕ, zero, suc, ◌+◌, ◌*◌, ◌<◌, Bool, true, false, ◌&&◌, refl, sym, ◌∙◌, ap, arith, length, Option}
use Rattle.lisp_graph.specs.declared.object.Object.{Object}
use Rattle.lisp_graph.specs.Totals.{total, if_true}
use Rattle.lisp_graph.proofs.Totals.{total-zero, total-suc, total-cong, total-at, total-add}
use Rattle.lisp_meaning.specs.invariants.ChargesIn.{charge_in, charges_in}
use Rattle.lisp_meaning.specs.reading.Classes.{Class, class_at}
use Rattle.lisp_meaning.specs.machine.State.{Store, object, is_held}

-- Sums

pub total-split : (f : ℕ → ℕ) (n m : ℕ) → total f (n + m) ≡ total f n + total (λ i. f (n + i)) m
total-split f n zero = let z : n + 0 ≡ n = omega arith in let a = ap (total f) z in let b = total-zero (λ i. f (n + i)) in omega arith
total-split f n (suc m) =
    let z : n + suc m ≡ suc (n + m) = omega arith in
    let a = ap (total f) z in
    let b = total-suc f (n + m) in
    let c = total-suc (λ i. f (n + i)) m in
    let d = total-split f n m in
    omega arith

pub total-const : (c n : ℕ) → total (λ i. c) n ≡ c * n
total-const c zero = total-zero (λ i. c) ∙ (let z : 0 ≡ c * 0 = grind arith in z)
total-const c (suc n) =
    let a = total-suc (λ i. c) n in
    let b = total-const c n in
    let d : c * suc n ≡ c + c * n = grind arith in
    a ∙ ap (λ (x : ℕ). c + x) b ∙ sym d

pub total-none : (f : ℕ → ℕ) (n : ℕ) → ((m : ℕ) → m < n → f m ≡ 0) → total f n ≡ 0
total-none f zero h = total-zero f
total-none f (suc n) h = let a = total-suc f n in let b = h n (omega arith) in let c = total-none f n (λ m l. h m (omega arith)) in omega arith

-- all but one are 0
pub total-one : (f : ℕ → ℕ) (k n : ℕ) → k < n → ((m : ℕ) → m < n → m ≢ k → f m ≡ 0) → total f n ≡ f k
total-one f k n l h =
    let a = total-at f (λ m. 0) k n l (λ m q ne. h m q ne) in
    let b = total-none (λ m. 0) n (λ m q. refl) in
    omega arith

pub total-swap : (f : ℕ → ℕ → ℕ) (n m : ℕ) → total (λ i. total (λ j. f i j) m) n ≡ total (λ j. total (λ i. f i j) n) m
total-swap f zero m = total-zero (λ i. total (λ j. f i j) m) ∙ sym (total-none (λ j. total (λ i. f i j) 0) m (λ j l. total-zero (λ i. f i j)))
total-swap f (suc n) m =
    let a = total-suc (λ i. total (λ j. f i j) m) n in
    let b = total-swap f n m in
    let c = total-add (λ j. f n j) (λ j. total (λ i. f i j) n) m in
    let d = total-cong (λ j. total (λ i. f i j) (suc n)) (λ j. f n j + total (λ i. f i j) n) m (λ j l. total-suc (λ i. f i j) n) in
    omega arith

-- One name changes: its place, its object, its class

module _ (s s' : Store) (at at' : ℕ → ℕ) (regions : ℕ → Class) (passes : ℕ → Class → Bool) (n : ℕ) (below : n < length s.objects)
    (size : length s'.objects ≡ length s.objects) (held : (m : ℕ) → (m ≡ n → ⊥) → s'.held m ≡ s.held m)
    (same : (m : ℕ) → (m ≡ n → ⊥) → object s' m ≡ object s m) (place : (m : ℕ) → (m ≡ n → ⊥) → at' m ≡ at m) where
  charge_else : (m : ℕ) → (m ≡ n → ⊥) → charge_in s' at' regions passes m ≡ charge_in s at regions passes m
  charge_else m ne =
      ap (λ (a : ℕ). if_true (is_held s' m && passes m (class_at regions a)) (object s' m).charge) (place m ne)
      ∙ ap (λ (o : Object). if_true (is_held s' m && passes m (class_at regions (at m))) o.charge) (same m ne)
      ∙ ap (λ (h : Option ℕ). if_true (Rattle.std.specs.Prelude.is_some h && passes m (class_at regions (at m))) (object s m).charge) (held m ne)

  pub charges_changed : charges_in s' at' regions passes + charge_in s at regions passes n ≡ charges_in s at regions passes + charge_in s' at' regions passes n
  charges_changed =
      let f : ℕ → ℕ = charge_in s' at' regions passes in
      let g : ℕ → ℕ = charge_in s at regions passes in
      ap (λ (i : ℕ). total f i + g n) size ∙ total-at f g n (length s.objects) below (λ m l ne. charge_else m (λ (z : m ≡ n). ne z))

-- n moves from a class that passes to one that doesn't, or the other way round

pub charge_yes : (s : Store) (at : ℕ → ℕ) (regions : ℕ → Class) (passes : ℕ → Class → Bool) (n : ℕ) → is_held s n ≡ true → passes n (class_at regions (at n)) ≡ true → charge_in s at regions passes n ≡ (object s n).charge
charge_yes s at regions passes n h e =
    ap (λ (b : Bool). if_true (b && passes n (class_at regions (at n))) (object s n).charge) h ∙ ap (λ (b : Bool). if_true (true && b) (object s n).charge) e

pub charge_no : (s : Store) (at : ℕ → ℕ) (regions : ℕ → Class) (passes : ℕ → Class → Bool) (n : ℕ) → is_held s n ≡ true → passes n (class_at regions (at n)) ≡ false → charge_in s at regions passes n ≡ 0
charge_no s at regions passes n h e =
    ap (λ (b : Bool). if_true (b && passes n (class_at regions (at n))) (object s n).charge) h ∙ ap (λ (b : Bool). if_true (true && b) (object s n).charge) e

module _ (s : Store) (at at' : ℕ → ℕ) (regions : ℕ → Class) (passes : ℕ → Class → Bool) (n : ℕ) (below : n < length s.objects)
    (held : is_held s n ≡ true) (place : (m : ℕ) → (m ≡ n → ⊥) → at' m ≡ at m) where
  moved : charges_in s at' regions passes + charge_in s at regions passes n ≡ charges_in s at regions passes + charge_in s at' regions passes n
  moved = charges_changed s s at at' regions passes n below refl (λ m ne. refl) (λ m ne. refl) place

  pub charges_leave : passes n (class_at regions (at n)) ≡ true → passes n (class_at regions (at' n)) ≡ false → charges_in s at' regions passes + (object s n).charge ≡ charges_in s at regions passes
  charges_leave x y = let a = charge_yes s at regions passes n held x in let b = charge_no s at' regions passes n held y in let c = moved in omega arith

  pub charges_enter : passes n (class_at regions (at n)) ≡ false → passes n (class_at regions (at' n)) ≡ true → charges_in s at' regions passes ≡ charges_in s at regions passes + (object s n).charge
  charges_enter x y = let a = charge_no s at regions passes n held x in let b = charge_yes s at' regions passes n held y in let c = moved in omega arith

  pub charges_stay : passes n (class_at regions (at n)) ≡ passes n (class_at regions (at' n)) → charges_in s at' regions passes ≡ charges_in s at regions passes
  charges_stay x =
      let c = moved in
      let z : charge_in s at regions passes n ≡ charge_in s at' regions passes n = ap (λ (b : Bool). if_true (is_held s n && b) (object s n).charge) x in omega arith

-- a grown block: its charge changes in the class in which it remains
pub charges_grown : (s s' : Store) (at at' : ℕ → ℕ) (regions : ℕ → Class) (passes : ℕ → Class → Bool) (n : ℕ) → n < length s.objects → length s'.objects ≡ length s.objects
    → ((m : ℕ) → s'.held m ≡ s.held m) → ((m : ℕ) → (m ≡ n → ⊥) → object s' m ≡ object s m) → ((m : ℕ) → (m ≡ n → ⊥) → at' m ≡ at m)
    → is_held s n ≡ true → passes n (class_at regions (at n)) ≡ true → class_at regions (at' n) ≡ class_at regions (at n)
    → charges_in s' at' regions passes + (object s n).charge ≡ charges_in s at regions passes + (object s' n).charge
charges_grown s s' at at' regions passes n below size held same place h x class =
    let a = charge_yes s at regions passes n h x in
    let b = charge_yes s' at' regions passes n (ap (λ (o : Option ℕ). Rattle.std.specs.Prelude.is_some o) (held n) ∙ h) (ap (passes n) class ∙ x) in
    let c = charges_changed s s' at at' regions passes n below size (λ m ne. held m) same place in
    omega arith

-- New names, at the end

module _ (s s' : Store) (at at' : ℕ → ℕ) (regions : ℕ → Class) (passes : ℕ → Class → Bool) (count each : ℕ)
    (size : length s'.objects ≡ length s.objects + count) (held : (m : ℕ) → m < length s.objects → s'.held m ≡ s.held m)
    (same : (m : ℕ) → m < length s.objects → object s' m ≡ object s m) (place : (m : ℕ) → m < length s.objects → at' m ≡ at m)
    (new_held : (i : ℕ) → i < count → is_held s' (length s.objects + i) ≡ true) (charge : (i : ℕ) → i < count → (object s' (length s.objects + i)).charge ≡ each) where
  old_part : total (charge_in s' at' regions passes) (length s.objects) ≡ charges_in s at regions passes
  old_part = total-cong (charge_in s' at' regions passes) (charge_in s at regions passes) (length s.objects) (λ m l.
      ap (λ (a : ℕ). if_true (is_held s' m && passes m (class_at regions a)) (object s' m).charge) (place m l)
      ∙ ap (λ (o : Object). if_true (is_held s' m && passes m (class_at regions (at m))) o.charge) (same m l)
      ∙ ap (λ (h : Option ℕ). if_true (Rattle.std.specs.Prelude.is_some h && passes m (class_at regions (at m))) (object s m).charge) (held m l))

  both : charges_in s' at' regions passes ≡ charges_in s at regions passes + total (λ i. charge_in s' at' regions passes (length s.objects + i)) count
  both = ap (total (charge_in s' at' regions passes)) size ∙ total-split (charge_in s' at' regions passes) (length s.objects) count
      ∙ ap (λ (x : ℕ). x + total (λ i. charge_in s' at' regions passes (length s.objects + i)) count) old_part

  pub charges_new : ((i : ℕ) → i < count → passes (length s.objects + i) (class_at regions (at' (length s.objects + i))) ≡ true)
      → charges_in s' at' regions passes ≡ charges_in s at regions passes + each * count
  charges_new f =
      let a = total-cong (λ i. charge_in s' at' regions passes (length s.objects + i)) (λ i. each) count
      (λ i l. charge_yes s' at' regions passes (length s.objects + i) (new_held i l) (f i l) ∙ charge i l) in
      both ∙ ap (λ (x : ℕ). charges_in s at regions passes + x) (a ∙ total-const each count)

  pub charges_new_else : ((i : ℕ) → i < count → passes (length s.objects + i) (class_at regions (at' (length s.objects + i))) ≡ false)
      → charges_in s' at' regions passes ≡ charges_in s at regions passes
  charges_new_else f =
      let a = total-none (λ i. charge_in s' at' regions passes (length s.objects + i)) count
      (λ i l. charge_no s' at' regions passes (length s.objects + i) (new_held i l) (f i l)) in
      let b = both in omega arith
