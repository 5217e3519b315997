-- The account of an area from its classes; room and work when objects are laid.
use Rattle.std.proofs.Common.{◌≡◌, ℕ, ◌+◌, ◌<◌, ◌⊎◌, inl, inr, Bool, true, false, ◌&&◌, ◌==◌, refl, sym, ◌∙◌, ap, arith, length, nat_eq, Option}
use Rattle.std.proofs.lemmas.Bool.{cases_Bool}
use Rattle.std.proofs.lemmas.Grind.{common_steps}
use Rattle.lisp_graph.specs.declared.object.Object.{Object}
use Rattle.lisp_meaning.specs.machine.Charges.{charges, per_area}
use Rattle.lisp_meaning.specs.invariants.ChargesIn.{charge_in, charges_in, spare_in, spares_in, is_cell}
use Rattle.lisp_meaning.specs.reading.Classes.{Class, class_at, in_class, in_old_class}
use Rattle.lisp_meaning.specs.invariants.Fits.{Roled}
use Rattle.lisp_meaning.specs.reading.Image.{Standing, Live, Old, Free, is_live, is_old, is_free}
use Rattle.lisp_meaning.specs.invariants.Roles.{Role, RoleMap, kind_of}
use Rattle.lisp_meaning.specs.machine.State.{Store, object, is_held, in_use}
use Rattle.lisp_graph.specs.store_word.Words.{Parts}
use Rattle.lisp_meaning.proofs.sums.Charges.{total-none, total-one, total-swap}
use Rattle.lisp_meaning.proofs.layout.Layout.{other_is}
use Rattle.lisp_meaning.proofs.maps.Frames.{Frame}
use Rattle.lisp_meaning.proofs.maps.Patches.{begins_owner}
use Rattle.std.specs.Prelude.{is_some}
use Rattle.lisp_graph.specs.Totals.{total, if_true}
use Rattle.lisp_graph.proofs.Totals.{total-cong, total-at, total-add}

-- each name is counted as before, by other tests, classes or places
pub charges_same : (s s' : Store) (at at' : ℕ → ℕ) (regions regions' : ℕ → Class) (passes passes' : ℕ → Class → Bool) → length s'.objects ≡ length s.objects
    → ((n : ℕ) → object s' n ≡ object s n) → ((n : ℕ) → (is_held s' n && passes' n (class_at regions' (at' n))) ≡ (is_held s n && passes n (class_at regions (at n))))
    → charges_in s' at' regions' passes' ≡ charges_in s at regions passes
charges_same s s' at at' regions regions' passes passes' size same test =
    ap (total (charge_in s' at' regions' passes')) size
    ∙ total-cong (charge_in s' at' regions' passes') (charge_in s at regions passes) (length s.objects) (λ n l.
    ap (λ (b : Bool). if_true b (object s' n).charge) (test n) ∙ ap (λ (o : Object). if_true (is_held s n && passes n (class_at regions (at n))) o.charge) (same n))

-- The account of an area is the sum over its classes

same_number : (a b : ℕ) → a ≡ b → nat_eq a b ≡ true
same_number a b e = grind (arith, common_steps)

pub other_number : (a b : ℕ) → (a ≡ b → ⊥) → nat_eq a b ≡ false
other_number a b ne = grind (arith, common_steps)

abbrev in_level : Bool → Standing → Bool → ℕ → ℕ → ℕ → ℕ
in_level held standing here level charge l = if_true (held && (is_live standing && (here && nat_eq level l))) charge + if_true (held && (is_old standing && (here && nat_eq level l))) charge

pub one_level : (level charge levels : ℕ) → level < levels → total (λ l. if_true (nat_eq level l) charge) levels ≡ charge
one_level level charge levels low =
    total-one (λ l. if_true (nat_eq level l) charge) level levels low (λ m l ne. ap (λ (b : Bool). if_true b charge) (other_number level m (λ (z : level ≡ m). ne (sym z))))
    ∙ ap (λ (b : Bool). if_true b charge) (same_number level level refl)

levels_of : (held : Bool) (standing : Standing) (here : Bool) (level charge levels : ℕ) → (held ≡ true → is_free standing ≡ false) → (held ≡ true → level < levels)
    → total (in_level held standing here level charge) levels ≡ if_true (held && here) charge
levels_of false standing here level charge levels f low = total-none (in_level false standing here level charge) levels (λ m l. refl)
levels_of true Free here level charge levels f low = let x = f refl in cc
levels_of true Live false level charge levels f low = total-none (in_level true Live false level charge) levels (λ m l. refl)
levels_of true Live true level charge levels f low =
    total-cong (in_level true Live true level charge) (λ l. if_true (nat_eq level l) charge) levels (λ m l. (let z : if_true (nat_eq level m) charge + 0 ≡ if_true (nat_eq level m) charge = omega arith in z))
    ∙ one_level level charge levels (low refl)
levels_of true Old false level charge levels f low = total-none (in_level true Old false level charge) levels (λ m l. refl)
levels_of true Old true level charge levels f low =
    total-cong (in_level true Old true level charge) (λ l. if_true (nat_eq level l) charge) levels (λ m l. (let z : 0 + if_true (nat_eq level m) charge ≡ if_true (nat_eq level m) charge = omega arith in z))
    ∙ one_level level charge levels (low refl)

-- if each held name is in a region of its area, at one of the levels, that isn't free
pub account_of_classes : (s : Store) (at : ℕ → ℕ) (regions : ℕ → Class) (area levels : ℕ)
    → ((n : ℕ) → in_use s n → ((class_at regions (at n)).area ≡ (object s n).area) × ((class_at regions (at n)).level < levels) × (is_free (class_at regions (at n)).standing ≡ false))
    → total (λ l. charges_in s at regions (in_class area l) + charges_in s at regions (in_old_class area l)) levels ≡ charges s (λ n. is_held s n && per_area s area n)
account_of_classes s at regions area levels classes =
    total-cong (λ l. charges_in s at regions (in_class area l) + charges_in s at regions (in_old_class area l))
    (λ l. total (λ n. charge_in s at regions (in_class area l) n + charge_in s at regions (in_old_class area l) n) (length s.objects)) levels
    (λ l q. sym (total-add (charge_in s at regions (in_class area l)) (charge_in s at regions (in_old_class area l)) (length s.objects)))
    ∙ total-swap (λ l n. charge_in s at regions (in_class area l) n + charge_in s at regions (in_old_class area l) n) levels (length s.objects)
    ∙ total-cong (λ n. total (λ l. charge_in s at regions (in_class area l) n + charge_in s at regions (in_old_class area l) n) levels)
    (λ n. if_true (is_held s n && per_area s area n) (object s n).charge) (length s.objects) (λ n q. each n (cases_Bool (is_held s n)))
  where
    each : (n : ℕ) → (is_held s n ≡ true) ⊎ (is_held s n ≡ false)
        → total (λ l. charge_in s at regions (in_class area l) n + charge_in s at regions (in_old_class area l) n) levels ≡ if_true (is_held s n && per_area s area n) (object s n).charge
    each n (inl u) =
        let c = classes n u in
        levels_of (is_held s n) (class_at regions (at n)).standing (nat_eq (class_at regions (at n)).area area) (class_at regions (at n)).level (object s n).charge levels (λ e. c.2) (λ e. c.1)
        ∙ ap (λ (x : ℕ). if_true (is_held s n && nat_eq x area) (object s n).charge) c.0
    each n (inr u) =
        total-none (λ l. charge_in s at regions (in_class area l) n + charge_in s at regions (in_old_class area l) n) levels
        (λ l q. ap (λ (b : Bool). if_true (b && in_class area l n (class_at regions (at n))) (object s n).charge + if_true (b && in_old_class area l n (class_at regions (at n))) (object s n).charge) u)
        ∙ ap (λ (b : Bool). if_true (b && per_area s area n) (object s n).charge) (sym u)

-- The words that cells may need

-- if one object is laid out or changed, the others' spare words are unchanged
pub spares_changed : (W : ℕ → Parts) (regions : ℕ → Class) (k k' : RoleMap) (s s' : Store) (passes : ℕ → Class → Bool) (n : ℕ) → Roled W regions k s → Frame k k' s s' (λ m. m == n)
    → n < length s.objects → length s'.objects ≡ length s.objects → ((m : ℕ) → (m ≡ n → ⊥) → s'.held m ≡ s.held m)
    → spares_in s' k' regions passes + spare_in s k regions passes n ≡ spares_in s k regions passes + spare_in s' k' regions passes n
spares_changed W regions k k' s s' passes n R f below size held =
    ap (λ (i : ℕ). total (spare_in s' k' regions passes) i + spare_in s k regions passes n) size
    ∙ total-at (spare_in s' k' regions passes) (spare_in s k regions passes) n (length s.objects) below (λ m l ne. else_at m (λ (z : m ≡ n). ne z) (cases_Bool (is_held s m)))
  where
    else_at : (m : ℕ) → (m ≡ n → ⊥) → (is_held s m ≡ true) ⊎ (is_held s m ≡ false) → spare_in s' k' regions passes m ≡ spare_in s k regions passes m
    else_at m ne (inr u) =
        ap (λ (b : Bool). if_true (b && (passes m (class_at regions (k'.at m)) && is_cell (k'.role (k'.at m)))) 2) (ap is_some (held m ne) ∙ u)
        ∙ ap (λ (b : Bool). if_true (b && (passes m (class_at regions (k.at m)) && is_cell (k.role (k.at m)))) 2) (sym u)
    else_at m ne (inl u) =
        let out : (m == n) ≡ false = other_is m n ne in
        let place = f.place m out in
        let o = begins_owner (kind_of (object s m).body) (k.role (k.at m)) m (R.begins m u) in
        ap (λ (h : Option ℕ). if_true (is_some h && (passes m (class_at regions (k'.at m)) && is_cell (k'.role (k'.at m)))) 2) (held m ne)
        ∙ ap (λ (a : ℕ). if_true (is_held s m && (passes m (class_at regions a) && is_cell (k'.role a))) 2) place
        ∙ ap (λ (r : Role). if_true (is_held s m && (passes m (class_at regions (k.at m)) && is_cell r)) 2) (f.parts (k.at m) m o out)
