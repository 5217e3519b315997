-- Words placed and written: the ground for an object that is laid out there.
use Rattle.std.proofs.Common.{◌≡◌, ℕ, ◌+◌, ◌<◌, ◌≤◌, ◌⊎◌, inl, inr, Bool, true, false, ◌&&◌, refl, sym, ◌∙◌, ap, arith, Option, Some, None, length, nat_eq}
use Rattle.std.proofs.lemmas.Bool.{cases_Bool, eqb-true}
use Rattle.std.proofs.lemmas.Grind.{common_steps}
use Rattle.lisp_graph.specs.Totals.{if_true}
use Rattle.lisp_graph.proofs.Totals.{total-cong}
use Rattle.lisp_meaning.specs.invariants.ChargesIn.{charges_in, spare_in, spares_in, is_cell}
use Rattle.lisp_meaning.specs.reading.Classes.{Class, class_at, in_class, classes}
use Rattle.lisp_meaning.specs.invariants.Fits.{Roled}
use Rattle.lisp_meaning.specs.reading.Image.{Image, word, region, is_free, Live}
use Rattle.lisp_meaning.specs.invariants.Invariant.{MemoryInvariant}
use Rattle.lisp_meaning.specs.invariants.Laid.{scratched}
use Rattle.lisp_meaning.specs.invariants.Placed.{Placed}
use Rattle.lisp_meaning.specs.invariants.Roles.{AsCons, Blank, Scratch, Cell, names_as, owner, RoleMap, kind_of}
use Rattle.lisp_meaning.specs.invariants.Interpretation.{Interpretation}
use Rattle.lisp_meaning.specs.machine.State.{Store, object, is_held, in_use}
use Rattle.lisp_meaning.proofs.maps.Frames.{Frame}
use Rattle.lisp_meaning.proofs.maps.Patches.{begins_owner}
use Rattle.lisp_meaning.proofs.roles.RegionChanges.{written, written_frame, role_within, role_beyond, reclassed}
use Rattle.lisp_meaning.proofs.sums.Accounts.{charges_same}

-- one change after another
pub frame_then : (k k1 k2 : RoleMap) (s s1 s2 : Store) (exempt : ℕ → Bool) → Frame k k1 s s1 (λ m. false) → Frame k1 k2 s1 s2 exempt → Frame k k2 s s2 exempt
frame_then k k1 k2 s s1 s2 exempt f h = record {
  refine = λ kind a n e. h.refine kind a n (f.refine kind a n e);
  place = λ m x. h.place m x ∙ f.place m refl;
  parts = λ c m o x. h.parts c m (ap owner (f.parts c m o refl) ∙ o) x ∙ f.parts c m o refl;
  relaid = λ c m kind e. h.relaid c m kind (f.relaid c m kind e);
  husks = λ c first e. h.husks c first (f.husks c first e);
  cells = λ c m i e. cells c m i (h.cells c m i e);
  ages = λ kind c m e. h.ages kind c m (f.refine kind c m e) ∙ f.ages kind c m e;
  used = λ m u. h.used m (f.used m u);
}
  where
    none : (c : ℕ) (o : Option ℕ) → names_as AsCons (k.role c) ≡ o → names_as AsCons (k1.role c) ≡ None → names_as AsCons (k.role c) ≡ None
    none c None e x = e
    none c (Some m) e x = let y = f.refine AsCons c m e in cc

    cells : (c m i : ℕ) → (k1.role c ≡ Cell m i) ⊎ (names_as AsCons (k1.role c) ≡ None) → (k.role c ≡ Cell m i) ⊎ (names_as AsCons (k.role c) ≡ None)
    cells c m i (inl x) = f.cells c m i x
    cells c m i (inr x) = inr (none c (names_as AsCons (k.role c)) refl x)

-- The ground for a new object: words placed, written, not yet used

module _ (g g' : Image) (it : Interpretation) (h : MemoryInvariant g it) (b count area level : ℕ) (p : Placed g g' b count area level) where
  blank : (a : ℕ) → b ≤ a → a < b + count → it.map.role a ≡ Blank
  blank a l x = h.covered.unused a (p.unused a l x)

  not_free : (a : ℕ) → (it.map.role a ≡ Blank → ⊥) → is_free (region g a).standing ≡ false
  not_free a ne = go (cases_Bool (is_free (region g a).standing))
    where
      go : (is_free (region g a).standing ≡ true) ⊎ (is_free (region g a).standing ≡ false) → is_free (region g a).standing ≡ false
      go (inl e) = absurd (ne (h.covered.free a e))
      go (inr e) = e

  pub opened : Roled (word g) (classes g') it.map it.store
  opened = reclassed (word g) (classes g) (classes g') it.map it.store h.roled (λ a ne. p.class a (not_free a ne))

  -- the words are there, and belong to nothing
  pub ground : Roled (word g') (classes g') (scratched it.map b count) it.store
  ground = written (word g) (word g') (classes g') it.map it.store opened b count blank p.words

  pub scratch_role : (a : ℕ) → (b ≤ a) × (a < b + count) → (scratched it.map b count).role a ≡ Scratch
  scratch_role = role_within (word g) (word g') (classes g') it.map it.store opened b count blank p.words

  pub other_role : (a : ℕ) → ((b ≤ a) × (a < b + count) → ⊥) → (scratched it.map b count).role a ≡ it.map.role a
  other_role = role_beyond (word g) (word g') (classes g') it.map it.store opened b count blank p.words

  pub ground_frame : Frame it.map (scratched it.map b count) it.store it.store (λ m. false)
  ground_frame = written_frame (word g) (word g') (classes g') it.map it.store opened b count blank p.words

  pub class_else : (m : ℕ) → in_use it.store m → class_at (classes g') (it.map.at m) ≡ class_at (classes g) (it.map.at m)
  class_else m u = p.class (it.map.at m) (not_free (it.map.at m) (λ (z : it.map.role (it.map.at m) ≡ Blank).
      let o = begins_owner (kind_of (object it.store m).body) (it.map.role (it.map.at m)) m (h.roled.begins m u) in let x = ap owner z in cc))

  -- what was held counts in the new regions as it did in the old
  pub charges_before_at : (passes : ℕ → Class → Bool) → charges_in it.store it.map.at (classes g') passes ≡ charges_in it.store it.map.at (classes g) passes
  charges_before_at passes = charges_same it.store it.store it.map.at it.map.at (classes g) (classes g') passes passes refl (λ m. refl) (λ m. each m (cases_Bool (is_held it.store m)))
    where
      each : (m : ℕ) → (is_held it.store m ≡ true) ⊎ (is_held it.store m ≡ false) → (is_held it.store m && passes m (class_at (classes g') (it.map.at m))) ≡ (is_held it.store m && passes m (class_at (classes g) (it.map.at m)))
      each m (inl u) = ap (λ (q : Class). is_held it.store m && passes m q) (class_else m u)
      each m (inr u) = ap (λ (x : Bool). x && passes m (class_at (classes g') (it.map.at m))) u ∙ ap (λ (x : Bool). x && passes m (class_at (classes g) (it.map.at m))) (sym u)

  pub spares_before_at : (passes : ℕ → Class → Bool) → spares_in it.store it.map (classes g') passes ≡ spares_in it.store it.map (classes g) passes
  spares_before_at passes = total-cong (spare_in it.store it.map (classes g') passes) (spare_in it.store it.map (classes g) passes) (length it.store.objects) (λ m l. each m (cases_Bool (is_held it.store m)))
    where
      each : (m : ℕ) → (is_held it.store m ≡ true) ⊎ (is_held it.store m ≡ false) → spare_in it.store it.map (classes g') passes m ≡ spare_in it.store it.map (classes g) passes m
      each m (inl u) = ap (λ (q : Class). if_true (is_held it.store m && (passes m q && is_cell (it.map.role (it.map.at m)))) 2) (class_else m u)
      each m (inr u) =
          ap (λ (x : Bool). if_true (x && (passes m (class_at (classes g') (it.map.at m)) && is_cell (it.map.role (it.map.at m)))) 2) u
          ∙ ap (λ (x : Bool). if_true (x && (passes m (class_at (classes g) (it.map.at m)) && is_cell (it.map.role (it.map.at m)))) 2) (sym u)

pub two_numbers : (x y a b : ℕ) → (x ≡ a) ⊎ (x ≡ a → ⊥) → (y ≡ b) ⊎ (y ≡ b → ⊥) → ((x ≡ a) × (y ≡ b)) ⊎ ((x ≡ a) × (y ≡ b) → ⊥)
two_numbers x y a b (inl u) (inl v) = inl (u, v)
two_numbers x y a b (inr u) t = inr (λ z. u z.0)
two_numbers x y a b (inl u) (inr v) = inr (λ z. v z.1)

-- whether the new class is the one that is requested
pub class_yes : (area level x y n : ℕ) → (x ≡ area) × (y ≡ level) → in_class x y n (record { area = area; level = level; standing = Live }) ≡ true
class_yes area level x y n e = let u = e.0 in let v = e.1 in grind (arith, common_steps)

pub class_no : (area level x y n : ℕ) → ((x ≡ area) × (y ≡ level) → ⊥) → in_class x y n (record { area = area; level = level; standing = Live }) ≡ false
class_no area level x y n ne = go (cases_Bool (nat_eq area x)) (cases_Bool (nat_eq level y))
  where
    go : (nat_eq area x ≡ true) ⊎ (nat_eq area x ≡ false) → (nat_eq level y ≡ true) ⊎ (nat_eq level y ≡ false) → (nat_eq area x && nat_eq level y) ≡ false
    go (inr a) t = ap (λ (c : Bool). c && nat_eq level y) a
    go (inl a) (inr c) = ap (λ (c : Bool). nat_eq area x && c) c ∙ ap (λ (c : Bool). c && false) a
    go (inl a) (inl c) = absurd (ne (sym (eqb-true area x a), sym (eqb-true level y c)))
