-- Regions are opened, words are written above what is used, classes are condemned.
use Rattle.std.proofs.Common.{◌≡◌, ℕ, ◌+◌, ◌<◌, ◌≤◌, inr, Bool, false, if◌then◌else◌, refl, sym, ◌∙◌, ap, subst, Some}
use Rattle.lisp_meaning.specs.reading.Classes.{Class, class_at, is_old_at}
use Rattle.lisp_meaning.specs.invariants.Fits.{Fits, Roled}
use Rattle.lisp_meaning.specs.reading.Image.{is_old, is_live}
use Rattle.lisp_meaning.specs.invariants.Laid.{scratched}
use Rattle.lisp_meaning.specs.invariants.Roles.{Kind, AsCons, AsBlock, Role, Blank, Scratch, Waste, HuskWord, PairHead, PairTail, Cell, Head, Field, Moved, Relaid, names_as, owner, RoleMap}
use Rattle.lisp_meaning.specs.machine.State.{Store}
use Rattle.lisp_graph.specs.store_word.Words.{Parts}
use Rattle.lisp_meaning.proofs.maps.Frames.{alike, Frame}
use Rattle.lisp_meaning.proofs.maps.Patches.{Patch, patched, frame}
use Rattle.lisp_meaning.proofs.layout.Layout.{between_yes, between_no, between_which}

none_blank : (kind : Kind) (m : ℕ) → names_as kind Blank ≡ Some m → ⊥
none_blank AsCons m e = cc
none_blank AsBlock m e = cc

none_scratch : (kind : Kind) (m : ℕ) → names_as kind Scratch ≡ Some m → ⊥
none_scratch AsCons m e = cc
none_scratch AsBlock m e = cc

-- The class of a region may be any if each of its words is blank

module _ (W : ℕ → Parts) (regions regions' : ℕ → Class) (k : RoleMap) (s : Store) (R : Roled W regions k s)
    (same : (a : ℕ) → (k.role a ≡ Blank → ⊥) → class_at regions' a ≡ class_at regions a) where
  named_written : (kind : Kind) (a n : ℕ) → names_as kind (k.role a) ≡ Some n → k.role a ≡ Blank → ⊥
  named_written kind a n e z = none_blank kind n (sym (ap (names_as kind) z) ∙ e)

  reclass : (a : ℕ) (w : Parts) (r : Role) → k.role a ≡ r → Fits regions k s a w r → Fits regions' k s a w r
  reclass a w Blank e f = f
  reclass a w Scratch e f = tt
  reclass a w Waste e f = ap (λ (c : Class). is_old c.standing) (same a (λ (z : k.role a ≡ Blank). cc)) ∙ f
  reclass a w (HuskWord b) e f = f
  reclass a w (PairHead n) e f = f
  reclass a w (PairTail n) e f = f
  reclass a w (Cell n i) e f = f
  reclass a w (Head n) e f = f
  reclass a w (Field n i) e f = f
  reclass a w (Moved kind n) e f = record {
    used = f.used;
    old = ap (λ (c : Class). is_old c.standing) (same a (λ (z : k.role a ≡ Blank). cc)) ∙ f.old;
    to = f.to;
    content = f.content;
    named = f.named;
    live = ap (λ (c : Class). is_live c.standing) (same f.to (named_written kind f.to n f.named)) ∙ f.live;
    age = f.age;
  }
  reclass a w (Relaid kind n) e f = record {
    used = f.used;
    to = f.to;
    content = f.content;
    named = f.named;
    class = same f.to (named_written kind f.to n f.named) ∙ f.class ∙ sym (same a (λ (z : k.role a ≡ Blank). cc));
    age = f.age;
  }

  pub reclassed : Roled W regions' k s
  reclassed = record { fits = λ a. reclass a (W a) (k.role a) refl (R.fits a); begins = R.begins; young = R.young }

-- Blank words are written

module _ (W W' : ℕ → Parts) (regions : ℕ → Class) (k : RoleMap) (s : Store) (R : Roled W regions k s) (b count : ℕ)
    (blank : (a : ℕ) → b ≤ a → a < b + count → k.role a ≡ Blank) (words : (a : ℕ) → ((b ≤ a) × (a < b + count) → ⊥) → W' a ≡ W a) where
  pub role_within : (a : ℕ) → (b ≤ a) × (a < b + count) → (scratched k b count).role a ≡ Scratch
  role_within a x = ap (λ (t : Bool). if t then Scratch else k.role a) (between_yes b count a x.0 x.1)

  pub role_beyond : (a : ℕ) → ((b ≤ a) × (a < b + count) → ⊥) → (scratched k b count).role a ≡ k.role a
  role_beyond a x = ap (λ (t : Bool). if t then Scratch else k.role a) (between_no b count a x)

  patch : Patch W W' regions k (scratched k b count) s s (λ a. (b ≤ a) × (a < b + count)) (λ m. false)
  patch = record {
    words = words;
    roles = role_beyond;
    ages = λ a t. refl;
    away = λ a n t o. refl;
    alike = λ a t. alike (k.role a) s s (λ m o. refl);
    place = λ m x. refl;
    used = λ m u. u;
    kinds = λ m u x. (u, refl);
    named = λ kind a n t e. absurd (none_blank kind n (sym (ap (names_as kind) (blank a t.0 t.1)) ∙ e));
    relaid = λ kind a n t e. (let x = blank a t.0 t.1 in cc);
    husks = λ a first t e. (let x = blank a t.0 t.1 in cc);
    owned = λ a n t o x. (let y = ap owner (blank a t.0 t.1) in cc);
    cells = λ a m i t e. inr (ap (names_as AsCons) (blank a t.0 t.1));
    fits = λ f a t. (let P : Role → Type 0 = λ r. Fits regions (scratched k b count) s a (W' a) r in subst P (sym (role_within a t)) tt);
    young = λ kind a n t e. absurd (none_scratch kind n (sym (ap (names_as kind) (role_within a t)) ∙ e));
    begins = λ m u x. cc;
  }

  pub written : Roled W' regions (scratched k b count) s
  written = patched W W' regions k (scratched k b count) s s (λ a. (b ≤ a) × (a < b + count)) (λ m. false) (between_which b count) patch R

  pub written_frame : Frame k (scratched k b count) s s (λ m. false)
  written_frame = frame W W' regions k (scratched k b count) s s (λ a. (b ≤ a) × (a < b + count)) (λ m. false) (between_which b count) patch

-- If no region is old, classes may become old, each as a whole

module _ (W : ℕ → Parts) (regions : ℕ → Class) (k : RoleMap) (s : Store) (R : Roled W regions k s)
    (none : (a : ℕ) → is_old_at regions a ≡ false) (after : Class → Class) where
  condemn : (a : ℕ) (w : Parts) (r : Role) → Fits regions k s a w r → Fits (λ i. after (regions i)) k s a w r
  condemn a w Blank f = f
  condemn a w Scratch f = tt
  condemn a w Waste f = let x = none a in cc
  condemn a w (HuskWord b) f = f
  condemn a w (PairHead n) f = f
  condemn a w (PairTail n) f = f
  condemn a w (Cell n i) f = f
  condemn a w (Head n) f = f
  condemn a w (Field n i) f = f
  condemn a w (Moved kind n) f = let x = none a in let y = f.old in cc
  condemn a w (Relaid kind n) f = record { used = f.used; to = f.to; content = f.content; named = f.named; class = ap after f.class; age = f.age }

  pub condemned : Roled W (λ i. after (regions i)) k s
  condemned = record { fits = λ a. condemn a (W a) (k.role a) (R.fits a); begins = R.begins; young = R.young }
