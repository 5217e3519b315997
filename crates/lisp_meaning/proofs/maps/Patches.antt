-- A change of the map and of some words: what has to be shown of those words; then all others fit too.
use Rattle.std.proofs.Common.{◌≡◌, ℕ, ◌≤◌, ◌⊎◌, inl, inr, Bool, true, false, refl, sym, ◌∙◌, ap, subst, arith, Some, None}
use Rattle.std.proofs.lemmas.Bool.{cases_Bool}
use Rattle.lisp_meaning.specs.reading.Classes.{Class}
use Rattle.lisp_meaning.specs.invariants.Fits.{Fits, Roled}
use Rattle.lisp_meaning.specs.invariants.Roles.{Kind, AsCons, AsBlock, Role, HuskWord, Cell, Relaid, names_as, owner, RoleMap, kind_of, Begins}
use Rattle.lisp_meaning.specs.machine.State.{Store, object, in_use}
use Rattle.lisp_graph.specs.store_word.Words.{Parts}
use Rattle.lisp_meaning.proofs.maps.Frames.{Alike, Frame, framed}

pub record Patch (W W' : ℕ → Parts) (regions : ℕ → Class) (k k' : RoleMap) (s s' : Store) (touched : ℕ → Type 0) (exempt : ℕ → Bool) : Type 0 where
  -- all words that aren't touched are unchanged, and are part of no exempt name
  pub words : (a : ℕ) → (touched a → ⊥) → W' a ≡ W a
  pub roles : (a : ℕ) → (touched a → ⊥) → k'.role a ≡ k.role a
  pub ages : (a : ℕ) → (touched a → ⊥) → k'.age a ≡ k.age a
  pub away : (a n : ℕ) → (touched a → ⊥) → owner (k.role a) ≡ Some n → exempt n ≡ false
  pub alike : (a : ℕ) → (touched a → ⊥) → Alike (k.role a) s s'
  -- the names that aren't exempt are at the same addresses
  pub place : (n : ℕ) → exempt n ≡ false → k'.at n ≡ k.at n
  pub used : (n : ℕ) → in_use s n → in_use s' n
  pub kinds : (n : ℕ) → in_use s' n → exempt n ≡ false → in_use s n × (kind_of (object s' n).body ≡ kind_of (object s n).body)
  -- the words that are touched mean what they meant
  pub named : (kind : Kind) (a n : ℕ) → touched a → names_as kind (k.role a) ≡ Some n → (names_as kind (k'.role a) ≡ Some n) × (k'.age a ≡ k.age a)
  pub relaid : (kind : Kind) (a n : ℕ) → touched a → k.role a ≡ Relaid kind n → k'.role a ≡ Relaid kind n
  pub husks : (a first : ℕ) → touched a → k.role a ≡ HuskWord first → k'.role a ≡ HuskWord first
  pub owned : (a n : ℕ) → touched a → owner (k.role a) ≡ Some n → exempt n ≡ false → k'.role a ≡ k.role a
  pub cells : (a m i : ℕ) → touched a → k'.role a ≡ Cell m i → (k.role a ≡ Cell m i) ⊎ (names_as AsCons (k.role a) ≡ None)
  -- they fit, and the names that are exempt begin
  pub fits : Frame k k' s s' exempt → (a : ℕ) → touched a → Fits regions k' s' a (W' a) (k'.role a)
  pub young : (kind : Kind) (a n : ℕ) → touched a → names_as kind (k'.role a) ≡ Some n → k'.age a ≤ 11
  pub begins : (n : ℕ) → in_use s' n → exempt n ≡ true → Begins (kind_of (object s' n).body) (k'.role (k'.at n)) n

pub begins_owner : (kind : Kind) (r : Role) (n : ℕ) → Begins kind r n → owner r ≡ Some n
begins_owner AsCons r n (inl e) = ap owner e
begins_owner AsCons r n (inr e) = ap owner e.1
begins_owner AsBlock r n e = ap owner e

module _ (W W' : ℕ → Parts) (regions : ℕ → Class) (k k' : RoleMap) (s s' : Store) (touched : ℕ → Type 0) (exempt : ℕ → Bool)
    (decide : (a : ℕ) → touched a ⊎ (touched a → ⊥)) (p : Patch W W' regions k k' s s' touched exempt) where
  refine : (kind : Kind) (a n : ℕ) → touched a ⊎ (touched a → ⊥) → names_as kind (k.role a) ≡ Some n → names_as kind (k'.role a) ≡ Some n
  refine kind a n (inl t) e = (p.named kind a n t e).0
  refine kind a n (inr t) e = ap (names_as kind) (p.roles a t) ∙ e

  parts : (a n : ℕ) → touched a ⊎ (touched a → ⊥) → owner (k.role a) ≡ Some n → exempt n ≡ false → k'.role a ≡ k.role a
  parts a n (inl t) e x = p.owned a n t e x
  parts a n (inr t) e x = p.roles a t

  relaid : (a n : ℕ) (kind : Kind) → touched a ⊎ (touched a → ⊥) → k.role a ≡ Relaid kind n → k'.role a ≡ Relaid kind n
  relaid a n kind (inl t) e = p.relaid kind a n t e
  relaid a n kind (inr t) e = p.roles a t ∙ e

  husks : (a first : ℕ) → touched a ⊎ (touched a → ⊥) → k.role a ≡ HuskWord first → k'.role a ≡ HuskWord first
  husks a first (inl t) e = p.husks a first t e
  husks a first (inr t) e = p.roles a t ∙ e

  cells : (a m i : ℕ) → touched a ⊎ (touched a → ⊥) → k'.role a ≡ Cell m i → (k.role a ≡ Cell m i) ⊎ (names_as AsCons (k.role a) ≡ None)
  cells a m i (inl t) e = p.cells a m i t e
  cells a m i (inr t) e = inl (sym (p.roles a t) ∙ e)

  ages : (kind : Kind) (a n : ℕ) → touched a ⊎ (touched a → ⊥) → names_as kind (k.role a) ≡ Some n → k'.age a ≡ k.age a
  ages kind a n (inl t) e = (p.named kind a n t e).1
  ages kind a n (inr t) e = p.ages a t

  pub frame : Frame k k' s s' exempt
  frame = record {
    refine = λ kind a n e. refine kind a n (decide a) e;
    place = p.place;
    parts = λ a n e x. parts a n (decide a) e x;
    relaid = λ a n kind e. relaid a n kind (decide a) e;
    husks = λ a first e. husks a first (decide a) e;
    cells = λ a m i e. cells a m i (decide a) e;
    ages = λ kind a n e. ages kind a n (decide a) e;
    used = p.used;
  }

  module _ (R : Roled W regions k s) where
    fits : (a : ℕ) → touched a ⊎ (touched a → ⊥) → Fits regions k' s' a (W' a) (k'.role a)
    fits a (inl t) = p.fits frame a t
    fits a (inr t) =
        let P : Role → Type 0 = λ r. Fits regions k' s' a (W' a) r in
        let Q : Parts → Type 0 = λ w. Fits regions k' s' a w (k.role a) in
        subst P (sym (p.roles a t)) (subst Q (sym (p.words a t))
        (framed regions k k' s s' exempt frame a (W a) (k.role a) refl (λ m e. p.away a m t e) (p.alike a t) (R.fits a)))

    begins : (n : ℕ) → in_use s' n → (exempt n ≡ true) ⊎ (exempt n ≡ false) → Begins (kind_of (object s' n).body) (k'.role (k'.at n)) n
    begins n u (inl x) = p.begins n u x
    begins n u (inr x) =
        let q = p.kinds n u x in
        let b = R.begins n q.0 in
        let P : Role → Type 0 = λ r. Begins (kind_of (object s n).body) r n in
        let Q : Kind → Type 0 = λ kind. Begins kind (k'.role (k'.at n)) n in
        subst Q (sym q.1) (subst P (sym (ap k'.role (p.place n x) ∙ frame.parts (k.at n) n (begins_owner (kind_of (object s n).body) (k.role (k.at n)) n b) x)) b)

    young : (kind : Kind) (a n : ℕ) → touched a ⊎ (touched a → ⊥) → names_as kind (k'.role a) ≡ Some n → k'.age a ≤ 11
    young kind a n (inl t) e = p.young kind a n t e
    young kind a n (inr t) e =
        let x = R.young kind a n (sym (ap (names_as kind) (p.roles a t)) ∙ e) in
        let y = p.ages a t in
        omega arith

    -- the whole map fits
    pub patched : Roled W' regions k' s'
    patched = record {
      fits = λ a. fits a (decide a);
      begins = λ n u. begins n u (cases_Bool (exempt n));
      young = λ kind a n e. young kind a n (decide a) e;
    }
