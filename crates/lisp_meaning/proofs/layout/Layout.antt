-- An object is laid at a place whose words are written and not yet used; its old words, if it has any, become forwards, waste or a husk.
use Rattle.std.proofs.Common.{◌≡◌, ℕ, zero, suc, ◌+◌, ◌-◌, ◌<◌, ◌≤◌, ◌⊎◌, inl, inr, ⊎_elim, Bool, true, false, ◌==◌, if◌then◌else◌, refl, sym, ◌∙◌, ap, subst, arith, Some, None}
use Rattle.std.proofs.lemmas.Bool.{cases_eq, cases_Bool, cases_lt}
use Rattle.std.proofs.lemmas.Grind.{common_steps}
use Rattle.lisp_graph.specs.declared.object.Object.{Object}
use Rattle.lisp_meaning.specs.reading.Classes.{Class}
use Rattle.lisp_meaning.specs.invariants.Fits.{Fits, Roled}
use Rattle.lisp_meaning.specs.invariants.Laid.{Shape, ACell, APair, ABlock, size, role_in, between, laid}
use Rattle.lisp_meaning.specs.invariants.Roles.{Kind, AsCons, AsBlock, Role, Blank, Scratch, Waste, HuskWord, PairHead, PairTail, Cell, Head, Field, Moved, Relaid, names_as, owner, RoleMap, kind_of, Begins}
use Rattle.lisp_meaning.specs.machine.State.{Store, object, in_use}
use Rattle.lisp_graph.specs.store_word.Words.{Parts}
use Rattle.lisp_meaning.proofs.maps.Puts.{put_at-same, put_at-other}
use Rattle.lisp_meaning.proofs.maps.Frames.{alike, Frame}
use Rattle.lisp_meaning.proofs.maps.Patches.{Patch, patched, frame}

pub between_yes : (low count a : ℕ) → low ≤ a → a < low + count → between low count a ≡ true
between_yes low count a l h = grind (arith, common_steps)

pub between_no : (low count a : ℕ) → ((low ≤ a) × (a < low + count) → ⊥) → between low count a ≡ false
between_no low count a f = go (cases_Bool (between low count a))
  where
    go : (between low count a ≡ true) ⊎ (between low count a ≡ false) → between low count a ≡ false
    go (inl e) = absurd (f (grind (arith, common_steps), grind (arith, common_steps)))
    go (inr e) = e

pub between_which : (low count a : ℕ) → ((low ≤ a) × (a < low + count)) ⊎ ((low ≤ a) × (a < low + count) → ⊥)
between_which low count a = go (cases_lt a low) (cases_lt a (low + count))
  where
    go : (a < low) ⊎ (low ≤ a) → (a < low + count) ⊎ (low + count ≤ a) → ((low ≤ a) × (a < low + count)) ⊎ ((low ≤ a) × (a < low + count) → ⊥)
    go (inl l) t = inr (λ h. let x = h.0 in omega arith)
    go (inr l) (inl h) = inl (l, h)
    go (inr l) (inr h) = inr (λ g. let x = g.1 in omega arith)

pub is_same : (m n : ℕ) → (m == n) ≡ true → m ≡ n
is_same m n e = grind (arith, common_steps)

pub is_other : (m n : ℕ) → (m == n) ≡ false → m ≡ n → ⊥
is_other m n e z = grind (arith, common_steps)

pub other_is : (m n : ℕ) → (m ≡ n → ⊥) → (m == n) ≡ false
other_is m n ne = grind (arith, common_steps)

-- the first word of an object is the one that names it
pub named_owned : (kind : Kind) (regions : ℕ → Class) (k : RoleMap) (s : Store) (a n m : ℕ) (w : Parts) (r : Role) → Fits regions k s a w r → owner r ≡ Some n → names_as kind r ≡ Some m → (m ≡ n) × (k.at n ≡ a)
named_owned AsCons regions k s a n m w (PairHead p) f o e = (cc, ap k.at (let z : n ≡ p = cc in z) ∙ f.place)
named_owned AsCons regions k s a n m w (Cell p i) f o e = (cc, ap k.at (let z : n ≡ p = cc in z) ∙ f.place)
named_owned AsBlock regions k s a n m w (Head p) f o e = (cc, ap k.at (let z : n ≡ p = cc in z) ∙ f.place)
named_owned AsBlock regions k s a n m w (PairHead p) f o e = cc
named_owned AsBlock regions k s a n m w (Cell p i) f o e = cc
named_owned AsCons regions k s a n m w (Head p) f o e = cc
named_owned AsCons regions k s a n m w (PairTail p) f o e = cc
named_owned AsBlock regions k s a n m w (PairTail p) f o e = cc
named_owned AsCons regions k s a n m w (Field p i) f o e = cc
named_owned AsBlock regions k s a n m w (Field p i) f o e = cc
named_owned kind regions k s a n m w Blank f o e = cc
named_owned kind regions k s a n m w Scratch f o e = cc
named_owned kind regions k s a n m w Waste f o e = cc
named_owned kind regions k s a n m w (HuskWord p) f o e = cc
named_owned kind regions k s a n m w (Moved x p) f o e = cc
named_owned kind regions k s a n m w (Relaid x p) f o e = cc

-- only the first word of a laid object names something
named_in : (kind : Kind) (shape : Shape) (n j m : ℕ) → j < size shape → names_as kind (role_in shape n j) ≡ Some m → j ≡ 0
named_in AsCons (ACell i) n j m l e = omega arith
named_in AsBlock (ACell i) n j m l e = cc
named_in kind APair n zero m l e = refl
named_in AsCons APair n (suc j) m l e = cc
named_in AsBlock APair n (suc j) m l e = cc
named_in kind (ABlock count) n zero m l e = refl
named_in AsCons (ABlock count) n (suc j) m l e = cc
named_in AsBlock (ABlock count) n (suc j) m l e = cc

none_scratch : (kind : Kind) (m : ℕ) → names_as kind Scratch ≡ Some m → ⊥
none_scratch AsCons m e = cc
none_scratch AsBlock m e = cc

abbrev pub OldWord : ℕ → ℕ → ℕ → Type 0
OldWord a gone c = (a ≤ c) × (c < a + gone)

abbrev pub NewWord : ℕ → Shape → ℕ → Type 0
NewWord b shape c = (b ≤ c) × (c < b + size shape)

-- the one object n is relocated, or is laid out for the first time if gone is 0
pub record Laying (W W' : ℕ → Parts) (regions : ℕ → Class) (k : RoleMap) (s s' : Store) (n a gone b : ℕ) (shape : Shape) (first rest : Role) (age : ℕ) : Type 0 where
  -- these are the words of n
  pub all : (c : ℕ) → owner (k.role c) ≡ Some n → (a ≤ c) × (c < a + gone)
  pub only : (j : ℕ) → j < gone → owner (k.role (a + j)) ≡ Some n
  pub place : 0 < gone → k.at n ≡ a
  pub young_old : 0 < gone → k.age a ≤ 11
  pub scratch : (j : ℕ) → j < size shape → k.role (b + j) ≡ Scratch
  pub words : (c : ℕ) → ((a ≤ c) × (c < a + gone) → ⊥) → W' c ≡ W c
  -- what the old words become means what it meant
  pub first_named : (kind : Kind) (m : ℕ) → 0 < gone → names_as kind (k.role a) ≡ Some m → names_as kind first ≡ Some m
  pub first_owner : owner first ≡ None
  pub rest_owner : owner rest ≡ None
  pub rest_named : (kind : Kind) (m : ℕ) → names_as kind rest ≡ Some m → ⊥
  pub young_new : age ≤ 11
  -- the objects
  pub used : (m : ℕ) → in_use s m → in_use s' m
  pub news : (m : ℕ) → in_use s' m → (m ≡ n → ⊥) → in_use s m
  pub same : (m : ℕ) → (m ≡ n → ⊥) → object s' m ≡ object s m
  pub begins : Begins (kind_of (object s' n).body) (role_in shape n 0) n
  -- each word fits
  pub fits_new : Frame k (laid k n a gone b shape first rest age) s s' (λ m. m == n) → (j : ℕ) → j < size shape
      → Fits regions (laid k n a gone b shape first rest age) s' (b + j) (W' (b + j)) (role_in shape n j)
  pub fits_first : Frame k (laid k n a gone b shape first rest age) s s' (λ m. m == n) → 0 < gone
      → Fits regions (laid k n a gone b shape first rest age) s' a (W' a) first
  pub fits_rest : Frame k (laid k n a gone b shape first rest age) s s' (λ m. m == n) → (j : ℕ) → 0 < j → j < gone
      → Fits regions (laid k n a gone b shape first rest age) s' (a + j) (W' (a + j)) rest

-- at the addresses of n's new words there was no word of n
module _ (k : RoleMap) (n a gone b : ℕ) (shape : Shape) (first rest : Role) (age : ℕ)
    (only : (j : ℕ) → j < gone → owner (k.role (a + j)) ≡ Some n) (scratch : (j : ℕ) → j < size shape → k.role (b + j) ≡ Scratch) where
  pub was_scratch : (c : ℕ) → NewWord b shape c → k.role c ≡ Scratch
  was_scratch c x = let l = x.0 in let h = x.1 in ap k.role (let z : c ≡ b + (c - b) = omega arith in z) ∙ scratch (c - b) (omega arith)

  pub was_owned : (c : ℕ) → OldWord a gone c → owner (k.role c) ≡ Some n
  was_owned c x = let l = x.0 in let h = x.1 in ap (λ (i : ℕ). owner (k.role i)) (let z : c ≡ a + (c - a) = omega arith in z) ∙ only (c - a) (omega arith)

  pub apart : (c : ℕ) → OldWord a gone c → NewWord b shape c → ⊥
  apart c x y = let u = was_scratch c y in let v = was_owned c x in let w = ap owner u in cc

  pub role_new : (j : ℕ) → j < size shape → (laid k n a gone b shape first rest age).role (b + j) ≡ role_in shape n j
  role_new j l =
      ap (λ (t : Bool). if t then role_in shape n (b + j - b) else (if between a gone (b + j) then (if b + j == a then first else rest) else k.role (b + j)))
      (between_yes b (size shape) (b + j) (omega arith) (omega arith))
      ∙ ap (role_in shape n) (let z : b + j - b ≡ j = omega arith in z)

  role_old : (c : ℕ) → OldWord a gone c → (laid k n a gone b shape first rest age).role c ≡ (if c == a then first else rest)
  role_old c x =
      ap (λ (t : Bool). if t then role_in shape n (c - b) else (if between a gone c then (if c == a then first else rest) else k.role c))
      (between_no b (size shape) c (λ y. apart c x y))
      ∙ ap (λ (t : Bool). if t then (if c == a then first else rest) else k.role c) (between_yes a gone c x.0 x.1)

  pub role_first : 0 < gone → (laid k n a gone b shape first rest age).role a ≡ first
  role_first l = role_old a (omega arith, omega arith) ∙ ap (λ (t : Bool). if t then first else rest) (let z : (a == a) ≡ true = grind (arith, common_steps) in z)

  pub role_rest : (c : ℕ) → OldWord a gone c → (c ≡ a → ⊥) → (laid k n a gone b shape first rest age).role c ≡ rest
  role_rest c x ne = role_old c x ∙ ap (λ (t : Bool). if t then first else rest) (other_is c a ne)

  pub role_else : (c : ℕ) → (NewWord b shape c → ⊥) → (OldWord a gone c → ⊥) → (laid k n a gone b shape first rest age).role c ≡ k.role c
  role_else c y x =
      ap (λ (t : Bool). if t then role_in shape n (c - b) else (if between a gone c then (if c == a then first else rest) else k.role c))
      (between_no b (size shape) c y)
      ∙ ap (λ (t : Bool). if t then (if c == a then first else rest) else k.role c) (between_no a gone c x)

module _ (W W' : ℕ → Parts) (regions : ℕ → Class) (k : RoleMap) (s s' : Store) (n a gone b : ℕ) (shape : Shape) (first rest : Role) (age : ℕ)
    (R : Roled W regions k s) (p : Laying W W' regions k s s' n a gone b shape first rest age) where
  Touched : ℕ → Type 0
  Touched c = NewWord b shape c ⊎ OldWord a gone c

  decide : (c : ℕ) → Touched c ⊎ (Touched c → ⊥)
  unfolding Touched
  decide c = go (between_which b (size shape) c) (between_which a gone c)
    where
      go : NewWord b shape c ⊎ (NewWord b shape c → ⊥) → OldWord a gone c ⊎ (OldWord a gone c → ⊥) → (NewWord b shape c ⊎ OldWord a gone c) ⊎ (NewWord b shape c ⊎ OldWord a gone c → ⊥)
      go (inl x) t = inl (inl x)
      go (inr x) (inl y) = inl (inr y)
      go (inr x) (inr y) = inr (λ t. ⊎_elim x y t)

  scratch_at : (c : ℕ) → NewWord b shape c → k.role c ≡ Scratch
  scratch_at = was_scratch k n a gone b shape first rest age p.only p.scratch

  owned_at : (c : ℕ) → OldWord a gone c → owner (k.role c) ≡ Some n
  owned_at = was_owned k n a gone b shape first rest age p.only p.scratch

  some : (c : ℕ) → OldWord a gone c → 0 < gone
  some c x = let l = x.0 in let h = x.1 in omega arith

  role_at_first : 0 < gone → (laid k n a gone b shape first rest age).role a ≡ first
  role_at_first = role_first k n a gone b shape first rest age p.only p.scratch

  role_at_rest : (c : ℕ) → OldWord a gone c → (c ≡ a → ⊥) → (laid k n a gone b shape first rest age).role c ≡ rest
  role_at_rest = role_rest k n a gone b shape first rest age p.only p.scratch

  role_at_new : (c : ℕ) → NewWord b shape c → (laid k n a gone b shape first rest age).role c ≡ role_in shape n (c - b)
  role_at_new c x = let l = x.0 in let h = x.1 in
      ap (laid k n a gone b shape first rest age).role (let z : c ≡ b + (c - b) = omega arith in z) ∙ role_new k n a gone b shape first rest age p.only p.scratch (c - b) (omega arith)

  -- the word at b is none of n's old ones
  not_b : (c : ℕ) → OldWord a gone c → c ≡ b → ⊥
  not_b c x z = apart k n a gone b shape first rest age p.only p.scratch c x (let q = positive shape in (omega arith, omega arith))
    where
      positive : (t : Shape) → 0 < size t
      positive (ACell i) = omega arith
      positive APair = omega arith
      positive (ABlock i) = omega arith

  age_old : (c : ℕ) → OldWord a gone c → (laid k n a gone b shape first rest age).age c ≡ k.age c
  age_old c x = put_at-other k.age b age c (not_b c x)

  named : (kind : Kind) (c m : ℕ) → NewWord b shape c ⊎ OldWord a gone c → (c ≡ a) ⊎ (c ≡ a → ⊥) → names_as kind (k.role c) ≡ Some m
      → (names_as kind ((laid k n a gone b shape first rest age).role c) ≡ Some m) × ((laid k n a gone b shape first rest age).age c ≡ k.age c)
  named kind c m (inl x) t e = absurd (none_scratch kind m (sym (ap (names_as kind) (scratch_at c x)) ∙ e))
  named kind c m (inr x) (inl z) e = (
    ap (λ (i : ℕ). names_as kind ((laid k n a gone b shape first rest age).role i)) z ∙ ap (names_as kind) (role_at_first (some c x))
        ∙ p.first_named kind m (some c x) (sym (ap (λ (i : ℕ). names_as kind (k.role i)) z) ∙ e),
    age_old c x,
  )
  named kind c m (inr x) (inr ne) e =
      absurd (ne (sym (named_owned kind regions k s c n m (W c) (k.role c) (R.fits c) (owned_at c x) e).1 ∙ p.place (some c x)))

  not_owned : (c m : ℕ) (r : Role) → NewWord b shape c ⊎ OldWord a gone c → k.role c ≡ r → owner r ≡ Some m → m ≡ n
  not_owned c m r (inl x) e o = let y = scratch_at c x in let z : owner (k.role c) ≡ Some m = ap owner e ∙ o in let v = ap owner y in cc
  not_owned c m r (inr x) e o = let y = owned_at c x in let z : owner (k.role c) ≡ Some m = ap owner e ∙ o in cc

  no_relaid : (kind : Kind) (c m : ℕ) → NewWord b shape c ⊎ OldWord a gone c → k.role c ≡ Relaid kind m → ⊥
  no_relaid kind c m (inl x) e = let y = scratch_at c x in cc
  no_relaid kind c m (inr x) e = let y = owned_at c x in let z = ap owner e in cc

  no_husk : (c m : ℕ) → NewWord b shape c ⊎ OldWord a gone c → k.role c ≡ HuskWord m → ⊥
  no_husk c m (inl x) e = let y = scratch_at c x in cc
  no_husk c m (inr x) e = let y = owned_at c x in let z = ap owner e in cc

  cells : (c m i : ℕ) → NewWord b shape c ⊎ OldWord a gone c → (c ≡ a) ⊎ (c ≡ a → ⊥) → (laid k n a gone b shape first rest age).role c ≡ Cell m i
      → (k.role c ≡ Cell m i) ⊎ (names_as AsCons (k.role c) ≡ None)
  cells c m i (inl x) t e = inr (ap (names_as AsCons) (scratch_at c x))
  cells c m i (inr x) (inl z) e =
      let y : first ≡ Cell m i = sym (role_at_first (some c x)) ∙ sym (ap (laid k n a gone b shape first rest age).role z) ∙ e in
      let o = ap owner y in let q = p.first_owner in cc
  cells c m i (inr x) (inr ne) e =
      let y : rest ≡ Cell m i = sym (role_at_rest c x ne) ∙ e in
      let o = ap owner y in let q = p.rest_owner in cc

  fits : Frame k (laid k n a gone b shape first rest age) s s' (λ m. m == n) → (c : ℕ) → NewWord b shape c ⊎ OldWord a gone c → (c ≡ a) ⊎ (c ≡ a → ⊥)
      → Fits regions (laid k n a gone b shape first rest age) s' c (W' c) ((laid k n a gone b shape first rest age).role c)
  fits f c (inl x) t =
      let P : Role → Type 0 = λ r. Fits regions (laid k n a gone b shape first rest age) s' c (W' c) r in
      let Q : ℕ → Type 0 = λ i. Fits regions (laid k n a gone b shape first rest age) s' i (W' i) (role_in shape n (c - b)) in
      let l = x.0 in let h = x.1 in
      subst P (sym (role_at_new c x)) (subst Q (let z : b + (c - b) ≡ c = omega arith in z) (p.fits_new f (c - b) (omega arith)))
  fits f c (inr x) (inl z) =
      let Q : ℕ → Type 0 = λ i. Fits regions (laid k n a gone b shape first rest age) s' i (W' i) ((laid k n a gone b shape first rest age).role i) in
      let P : Role → Type 0 = λ r. Fits regions (laid k n a gone b shape first rest age) s' a (W' a) r in
      subst Q (sym z) (subst P (sym (role_at_first (some c x))) (p.fits_first f (some c x)))
  fits f c (inr x) (inr ne) =
      let P : Role → Type 0 = λ r. Fits regions (laid k n a gone b shape first rest age) s' c (W' c) r in
      let Q : ℕ → Type 0 = λ i. Fits regions (laid k n a gone b shape first rest age) s' i (W' i) rest in
      let l = x.0 in let h = x.1 in
      subst P (sym (role_at_rest c x ne)) (subst Q (let z : a + (c - a) ≡ c = omega arith in z) (p.fits_rest f (c - a) (omega arith) (omega arith)))

  young : (kind : Kind) (c m : ℕ) → NewWord b shape c ⊎ OldWord a gone c → (c ≡ a) ⊎ (c ≡ a → ⊥) → names_as kind ((laid k n a gone b shape first rest age).role c) ≡ Some m
      → (laid k n a gone b shape first rest age).age c ≤ 11
  young kind c m (inl x) t e =
      let l = x.0 in let h = x.1 in
      let j = named_in kind shape n (c - b) m (omega arith) (sym (ap (names_as kind) (role_at_new c x)) ∙ e) in
      let y = put_at-same k.age b age c (omega arith) in let z = p.young_new in omega arith
  young kind c m (inr x) (inl z) e = let y = age_old c x in let u = ap k.age z in let v = p.young_old (some c x) in omega arith
  young kind c m (inr x) (inr ne) e = absurd (p.rest_named kind m (sym (ap (names_as kind) (role_at_rest c x ne)) ∙ e))

  begins : (m : ℕ) → m ≡ n → Begins (kind_of (object s' m).body) ((laid k n a gone b shape first rest age).role ((laid k n a gone b shape first rest age).at m)) m
  begins m z =
      let at_b : (laid k n a gone b shape first rest age).at n ≡ b = put_at-same k.at n b n refl in
      let P : ℕ → Type 0 = λ i. Begins (kind_of (object s' i).body) ((laid k n a gone b shape first rest age).role ((laid k n a gone b shape first rest age).at i)) i in
      let Q : Role → Type 0 = λ r. Begins (kind_of (object s' n).body) r n in
      subst P (sym z) (subst Q (sym (ap (laid k n a gone b shape first rest age).role (at_b ∙ (let y : b ≡ b + 0 = omega arith in y)) ∙ role_new k n a gone b shape first rest age p.only p.scratch 0 (positive shape))) p.begins)
    where
      positive : (t : Shape) → 0 < size t
      positive (ACell i) = omega arith
      positive APair = omega arith
      positive (ABlock i) = omega arith

  patch : Patch W W' regions k (laid k n a gone b shape first rest age) s s' Touched (λ m. m == n)
  unfolding Touched
  patch = record {
    words = λ c t. p.words c (λ x. t (inr x));
    roles = λ c t. role_else k n a gone b shape first rest age p.only p.scratch c (λ x. t (inl x)) (λ x. t (inr x));
    ages = λ c t. put_at-other k.age b age c (λ (z : c ≡ b). t (inl (let q = positive shape in (omega arith, omega arith))));
    away = λ c m t o. other_is m n (λ (z : m ≡ n). t (inr (p.all c (o ∙ ap Some z))));
    alike = λ c t. alike (k.role c) s s' (λ m o. p.same m (λ (z : m ≡ n). t (inr (p.all c (o ∙ ap Some z)))));
    place = λ m x. put_at-other k.at n b m (is_other m n x);
    used = p.used;
    kinds = λ m u x. (p.news m u (is_other m n x), ap (λ (o : Object). kind_of o.body) (p.same m (is_other m n x)));
    named = λ kind c m t e. named kind c m t (cases_eq c a) e;
    relaid = λ kind c m t e. absurd (no_relaid kind c m t e);
    husks = λ c m t e. absurd (no_husk c m t e);
    owned = λ c m t o x. absurd (is_other m n x (not_owned c m (k.role c) t refl o));
    cells = λ c m i t e. cells c m i t (cases_eq c a) e;
    fits = λ f c t. fits f c t (cases_eq c a);
    young = λ kind c m t e. young kind c m t (cases_eq c a) e;
    begins = λ m u x. begins m (is_same m n x);
  }
    where
      positive : (t : Shape) → 0 < size t
      positive (ACell i) = omega arith
      positive APair = omega arith
      positive (ABlock i) = omega arith

  -- the whole map fits, and each word means what it meant
  pub relaid : Roled W' regions (laid k n a gone b shape first rest age) s'
  relaid = patched W W' regions k (laid k n a gone b shape first rest age) s s' Touched (λ m. m == n) decide patch R

  pub relaid_frame : Frame k (laid k n a gone b shape first rest age) s s' (λ m. m == n)
  relaid_frame = frame W W' regions k (laid k n a gone b shape first rest age) s s' Touched (λ m. m == n) decide patch
