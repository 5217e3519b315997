-- An object is relocated in its class: RPLACD of a cell, growth of a block. The first of its old words becomes a HEADER-FORWARD.
use Rattle.std.proofs.Common.{◌≡◌, ℕ, zero, suc, ◌+◌, ◌*◌, ◌-◌, ◌^◌, ◌<◌, ◌≤◌, ◌⊎◌, inl, inr, ◌==◌, refl, sym, ◌∙◌, ap, subst, arith, Some}
use Rattle.std.proofs.Math.Nat.{pow-suc, pow-le-pow_right}
use Rattle.std.proofs.lemmas.Bool.{cases_lt}
use Rattle.lisp_meaning.specs.reading.Classes.{Class, region_of, class_at}
use Rattle.lisp_meaning.specs.invariants.Fits.{Holds, Fits, Roled}
use Rattle.lisp_meaning.specs.invariants.Laid.{Shape, ACell, APair, ABlock, size, kind_in, role_in, laid}
use Rattle.lisp_meaning.specs.invariants.Roles.{Kind, AsCons, AsBlock, Scratch, HuskWord, Cell, Head, Relaid, names_as, owner, RoleMap, kind_of, car_of, cdr_of, field_of, header_of, Begins}
use Rattle.lisp_meaning.specs.machine.State.{Store, object, in_use}
use Rattle.lisp_graph.specs.store_word.Words.{Parts, null_word}
use Rattle.lisp_graph.specs.store_word.declared.word.CdrCode.TheVariants.{Next as CdrNext, Normal as CdrNormal}
use Rattle.lisp_graph.specs.store_word.declared.word.Content.TheVariants.{Header, HeaderForward}
use Rattle.lisp_meaning.proofs.maps.Puts.{put_at-same, put_at-other}
use Rattle.lisp_meaning.proofs.maps.Frames.{Frame}
use Rattle.lisp_meaning.proofs.layout.Layout.{Laying, relaid, relaid_frame, role_new, role_first, role_rest}
use Rattle.lisp_meaning.proofs.layout.ObjectWords.{Standing, positive, owner_in, names_in, begins_in, cell_fits, block_fits, stands_cell, stands_block, new_pair, new_block}

named_first : (kind : Kind) (shape : Shape) (n m : ℕ) → names_as kind (role_in shape n 0) ≡ Some m → names_as kind (Relaid (kind_in shape) n) ≡ Some m
named_first AsCons (ACell i) n m e = e
named_first AsCons APair n m e = e
named_first AsCons (ABlock count) n m e = cc
named_first AsBlock (ACell i) n m e = cc
named_first AsBlock APair n m e = cc
named_first AsBlock (ABlock count) n m e = e

none_husk : (b : ℕ) (kind : Kind) (m : ℕ) → names_as kind (HuskWord b) ≡ Some m → ⊥
none_husk b AsCons m e = cc
none_husk b AsBlock m e = cc

module _ (W W' : ℕ → Parts) (regions : ℕ → Class) (k : RoleMap) (s s' : Store) (R : Roled W regions k s) (n a b : ℕ)
    (used : in_use s' n) (class : class_at regions b ≡ class_at regions a) (forward : (W' a).content ≡ HeaderForward b)
    (uses : (m : ℕ) → in_use s m → in_use s' m) (news : (m : ℕ) → in_use s' m → in_use s m) (same : (m : ℕ) → (m ≡ n → ⊥) → object s' m ≡ object s m) where
  module _ (from to : Shape) (kinds : kind_in to ≡ kind_in from) (kind : kind_of (object s' n).body ≡ kind_in from) (st : Standing k n a from)
      (low : suc (k.age a) ≤ 11) (scratch : (j : ℕ) → j < size to → k.role (b + j) ≡ Scratch)
      (words : (c : ℕ) → ((a ≤ c) × (c < a + size from) → ⊥) → W' c ≡ W c)
      (blank : (j : ℕ) → 0 < j → j < size from → (W' (a + j) ≡ null_word) × (kind_in from ≡ AsBlock))
      (new : Frame k (laid k n a (size from) b to (Relaid (kind_in from) n) (HuskWord a) (suc (k.age a))) s s' (λ m. m == n) → (j : ℕ) → j < size to
      → Fits regions (laid k n a (size from) b to (Relaid (kind_in from) n) (HuskWord a) (suc (k.age a))) s' (b + j) (W' (b + j)) (role_in to n j)) where
    first : k.role a ≡ role_in from n 0
    first = ap k.role (let z : a ≡ a + 0 = omega arith in z) ∙ st.only 0 (positive from)

    owned : (j : ℕ) → j < size from → owner (k.role (a + j)) ≡ Some n
    owned j l = ap owner (st.only j l) ∙ owner_in from n j

    not_b : a ≡ b → ⊥
    not_b y =
        let u : k.role a ≡ Scratch = ap k.role (y ∙ (let z : b ≡ b + 0 = omega arith in z)) ∙ scratch 0 (positive to) in
        let v : owner (k.role a) ≡ Some n = ap owner first ∙ owner_in from n 0 in
        let w = ap owner u in cc

    laying : Laying W W' regions k s s' n a (size from) b to (Relaid (kind_in from) n) (HuskWord a) (suc (k.age a))
    laying = record {
      all = st.all;
      only = owned;
      place = λ l. st.place;
      young_old = λ l. let x = low in omega arith;
      scratch = scratch;
      words = words;
      first_named = λ kind m l e. named_first kind from n m (sym (ap (names_as kind) first) ∙ e);
      first_owner = refl;
      rest_owner = refl;
      rest_named = none_husk a;
      young_new = low;
      used = uses;
      news = λ m u ne. news m u;
      same = same;
      begins = (let P : Kind → Type 0 = λ x. Begins x (role_in to n 0) n in subst P (kinds ∙ sym kind) (begins_in to n));
      fits_new = new;
      fits_first = λ f l. record {
        used = used;
        to = b;
        content = forward;
        named = ap (λ (i : ℕ). names_as (kind_in from) ((laid k n a (size from) b to (Relaid (kind_in from) n) (HuskWord a) (suc (k.age a))).role i)) (let z : b ≡ b + 0 = omega arith in z)
            ∙ ap (names_as (kind_in from)) (role_new k n a (size from) b to (Relaid (kind_in from) n) (HuskWord a) (suc (k.age a)) owned scratch 0 (positive to))
            ∙ ap (λ (x : Kind). names_as x (role_in to n 0)) (sym kinds) ∙ names_in to n;
        class = class;
        age = put_at-same k.age b (suc (k.age a)) b refl ∙ ap suc (sym (put_at-other k.age b (suc (k.age a)) a (λ z. not_b z)));
      };
      fits_rest = λ f j l h. let x = blank j l h in record {
        blank = x.0;
        after = (omega arith);
        region = st.region j h;
        between = λ c low high. role_rest k n a (size from) b to (Relaid (kind_in from) n) (HuskWord a) (suc (k.age a)) owned scratch c (omega arith, omega arith) (λ z. omega arith);
        block = (n, role_first k n a (size from) b to (Relaid (kind_in from) n) (HuskWord a) (suc (k.age a)) owned scratch (positive from) ∙ ap (λ (y : Kind). Relaid y n) x.1);
      };
    }

    -- the state with the changed object, at its new place; every other word means what it meant
    pub relay : Roled W' regions (laid k n a (size from) b to (Relaid (kind_in from) n) (HuskWord a) (suc (k.age a))) s'
    relay = relaid W W' regions k s s' n a (size from) b to (Relaid (kind_in from) n) (HuskWord a) (suc (k.age a)) R laying

    pub relay_frame : Frame k (laid k n a (size from) b to (Relaid (kind_in from) n) (HuskWord a) (suc (k.age a))) s s' (λ m. m == n)
    relay_frame = relaid_frame W W' regions k s s' n a (size from) b to (Relaid (kind_in from) n) (HuskWord a) (suc (k.age a)) R laying

  not_old : (c count : ℕ) → k.role c ≡ Scratch → ((j : ℕ) → j < count → owner (k.role (a + j)) ≡ Some n) → (a ≤ c) × (c < a + count) → ⊥
  not_old c count e f x =
      let l = x.0 in let h = x.1 in
      let y : owner (k.role c) ≡ Some n = ap (λ (i : ℕ). owner (k.role i)) (let z : c ≡ a + (c - a) = omega arith in z) ∙ f (c - a) (omega arith) in
      let w = ap owner e in cc

  -- the cell of n gets a new cdr, in a pair
  module _ (i : ℕ) (ra : k.role a ≡ Cell n i) (rb : k.role b ≡ Scratch) (rc : k.role (suc b) ≡ Scratch) (near : region_of (suc b) ≡ region_of b)
      (words : (c : ℕ) → (c ≡ a → ⊥) → W' c ≡ W c) (kind : kind_of (object s' n).body ≡ AsCons) (charge : (object s' n).charge ≡ 3)
      (code : (W b).cdr ≡ CdrNormal) (code2 : (W (suc b)).cdr ≡ CdrNext)
      (car : Holds k.role (W b).content (car_of (object s' n).body)) (cdr : Holds k.role (W (suc b)).content (cdr_of (object s' n).body)) where
    not_a : (c : ℕ) → k.role c ≡ Scratch → c ≡ a → ⊥
    not_a c e z = let x = ap owner (sym (ap k.role z) ∙ e) in let y = ap owner ra in cc

    scratch : (j : ℕ) → j < 2 → k.role (b + j) ≡ Scratch
    scratch zero l = ap k.role (let z : b + 0 ≡ b = omega arith in z) ∙ rb
    scratch (suc zero) l = ap k.role (let z : b + 1 ≡ suc b = omega arith in z) ∙ rc
    scratch (suc (suc j)) l = absurd (omega arith)

    cell_new : Frame k (laid k n a 1 b APair (Relaid AsCons n) (HuskWord a) (suc (k.age a))) s s' (λ m. m == n) → (j : ℕ) → j < 2
        → Fits regions (laid k n a 1 b APair (Relaid AsCons n) (HuskWord a) (suc (k.age a))) s' (b + j) (W' (b + j)) (role_in APair n j)
    cell_new =
        let w : W' b ≡ W b = words b (not_a b rb) in
        let w2 : W' (suc b) ≡ W (suc b) = words (suc b) (not_a (suc b) rc) in
        let P : Parts → Type 0 = λ u. Holds k.role u.content (car_of (object s' n).body) in
        let Q : Parts → Type 0 = λ u. Holds k.role u.content (cdr_of (object s' n).body) in
        new_pair W' regions k s s' n a 1 b (Relaid AsCons n) (HuskWord a) (suc (k.age a)) (λ j l. ap (λ (c : ℕ). owner (k.role c)) (let z : a + j ≡ a = omega arith in z) ∙ ap owner ra) used
        scratch (let x = (cell_fits W regions k s R n a i ra).age in omega arith) near (ap (λ (u : Parts). u.cdr) w ∙ code) (inr (charge, ap (λ (u : Parts). u.cdr) w2 ∙ code2))
        (subst P (sym w) car) (subst Q (sym w2) cdr)

    pub relay_cell : Roled W' regions (laid k n a 1 b APair (Relaid AsCons n) (HuskWord a) (suc (k.age a))) s'
    relay_cell = relay (ACell i) APair refl kind (stands_cell W regions k s R n a i ra) (let x = (cell_fits W regions k s R n a i ra).age in omega arith) scratch
        (λ c x. words c (λ (z : c ≡ a). x (omega arith, omega arith))) (λ j l h. absurd (omega arith)) cell_new

    pub relay_cell_frame : Frame k (laid k n a 1 b APair (Relaid AsCons n) (HuskWord a) (suc (k.age a))) s s' (λ m. m == n)
    relay_cell_frame = relay_frame (ACell i) APair refl kind (stands_cell W regions k s R n a i ra) (let x = (cell_fits W regions k s R n a i ra).age in omega arith) scratch
        (λ c x. words c (λ (z : c ≡ a). x (omega arith, omega arith))) (λ j l h. absurd (omega arith)) cell_new

  -- the block of n gets more fields; its old words are a husk
  module _ (ra : k.role a ≡ Head n) (count wide code : ℕ) (sized : count ≡ (block_fits W regions k s R n a ra).size) (more : 2 ^ suc (k.age a) ≤ suc wide) (low : suc (k.age a) ≤ 11)
      (scratch : (j : ℕ) → j < suc wide → k.role (b + j) ≡ Scratch) (near : (j : ℕ) → j < suc wide → region_of (b + j) ≡ region_of b)
      (words : (c : ℕ) → ((a ≤ c) × (c < a + suc count) → ⊥) → W' c ≡ W c) (blank : (j : ℕ) → 0 < j → j < suc count → W' (a + j) ≡ null_word)
      (kind : kind_of (object s' n).body ≡ AsBlock) (cdr : (W b).cdr ≡ CdrNext) (header : (W b).content ≡ Header code wide)
      (body : header_of (object s' n).body ≡ Some (code, wide)) (charge : (object s' n).charge ≡ suc wide)
      (values : (j : ℕ) → j < wide → Holds k.role (W (suc b + j)).content (field_of (object s' n).body j)) where
    stands : Standing k n a (ABlock count)
    stands = let P : ℕ → Type 0 = λ i. Standing k n a (ABlock i) in subst P (sym sized) (stands_block W regions k s R n a ra)

    owned_old : (j : ℕ) → j < suc count → owner (k.role (a + j)) ≡ Some n
    owned_old j l = ap owner (stands.only j l) ∙ owner_in (ABlock count) n j

    written : (j : ℕ) → j < suc wide → W' (b + j) ≡ W (b + j)
    written j l = words (b + j) (not_old (b + j) (suc count) (scratch j l) owned_old)

    block_new : Frame k (laid k n a (suc count) b (ABlock wide) (Relaid AsBlock n) (HuskWord a) (suc (k.age a))) s s' (λ m. m == n) → (j : ℕ) → j < suc wide
        → Fits regions (laid k n a (suc count) b (ABlock wide) (Relaid AsBlock n) (HuskWord a) (suc (k.age a))) s' (b + j) (W' (b + j)) (role_in (ABlock wide) n j)
    block_new =
        let w : W' b ≡ W b = (let z : b ≡ b + 0 = omega arith in ap W' z ∙ written 0 (omega arith) ∙ ap W (sym z)) in
        new_block W' regions k s s' n a (suc count) b (Relaid AsBlock n) (HuskWord a) (suc (k.age a)) owned_old used
        code wide scratch more near (ap (λ (u : Parts). u.cdr) w ∙ cdr) (ap (λ (u : Parts). u.content) w ∙ header) body charge
        (λ i l.
        let P : Parts → Type 0 = λ u. Holds k.role u.content (field_of (object s' n).body i) in
        let z : suc b + i ≡ b + suc i = omega arith in
        subst P (sym (ap W' z ∙ written (suc i) (omega arith) ∙ ap W (sym z))) (values i l))

    pub relay_block : Roled W' regions (laid k n a (suc count) b (ABlock wide) (Relaid AsBlock n) (HuskWord a) (suc (k.age a))) s'
    relay_block = relay (ABlock count) (ABlock wide) refl kind stands low scratch words (λ j l h. (blank j l h, refl)) block_new

    pub relay_block_frame : Frame k (laid k n a (suc count) b (ABlock wide) (Relaid AsBlock n) (HuskWord a) (suc (k.age a))) s s' (λ m. m == n)
    relay_block_frame = relay_frame (ABlock count) (ABlock wide) refl kind stands low scratch words (λ j l h. (blank j l h, refl)) block_new

-- Ages of blocks: each growth doubles, up to the largest block

-- so a block of age 11 can't grow, and the age after a growth is bounded by the new length
pub age_grown : (age count wide : ℕ) → 2 ^ age ≤ suc count → count < wide → wide ≤ 2047 → (2 * count + 1 ≤ wide) ⊎ (wide ≡ 2047) → (2 ^ suc age ≤ suc wide) × (suc age ≤ 11)
age_grown age count wide old l top big = go big (cases_lt age 11)
  where
    doubled : 2 ^ suc age ≡ 2 ^ age * 2
    doubled = pow-suc 2 age

    go : (2 * count + 1 ≤ wide) ⊎ (wide ≡ 2047) → (age < 11) ⊎ (11 ≤ age) → (2 ^ suc age ≤ suc wide) × (suc age ≤ 11)
    go t (inr h) = absurd (let p : 2 ^ 11 ≤ 2 ^ age = pow-le-pow_right {n = 2} (omega arith) h in omega arith)
    go (inl g) (inl h) = (let q = doubled in omega arith, h)
    go (inr g) (inl h) = (let p : 2 ^ suc age ≤ 2 ^ 11 = pow-le-pow_right {n = 2} (omega arith) h in omega arith, h)
