-- Transport of one object: its words are copied to a live region, its first word becomes a GC-FORWARD.
use Rattle.std.proofs.Common.{◌≡◌, ℕ, zero, suc, ◌+◌, ◌^◌, ◌<◌, ◌≤◌, inr, true, ◌==◌, refl, sym, ◌∙◌, ap, subst, arith, Some, None}
use Rattle.lisp_meaning.specs.reading.Classes.{Class, region_of, is_old_at, is_live_at}
use Rattle.lisp_meaning.specs.invariants.Fits.{Holds, CellCdr, PairCode, Fits, Roled}
use Rattle.lisp_meaning.specs.reading.Image.{is_old}
use Rattle.lisp_meaning.specs.invariants.Laid.{Shape, ACell, APair, ABlock, size, kind_in, role_in, laid}
use Rattle.lisp_meaning.specs.invariants.Roles.{Kind, AsCons, AsBlock, Role, Scratch, Waste, PairHead, Cell, Head, Moved, names_as, owner, RoleMap, kind_of, car_of, cdr_of, field_of, Begins}
use Rattle.lisp_meaning.specs.machine.State.{Store, object, in_use}
use Rattle.lisp_graph.specs.store_word.Words.{Parts}
use Rattle.lisp_graph.specs.store_word.declared.word.CdrCode.TheVariants.{Next as CdrNext, Normal as CdrNormal}
use Rattle.lisp_graph.specs.store_word.declared.word.Content.{Content}
use Rattle.lisp_graph.specs.store_word.declared.word.Content.TheVariants.{Header, GcForward}
use Rattle.lisp_meaning.proofs.maps.Puts.{put_at-same, put_at-other}
use Rattle.lisp_meaning.proofs.maps.Frames.{Frame}
use Rattle.lisp_meaning.proofs.layout.Layout.{Laying, relaid, relaid_frame, role_new}
use Rattle.lisp_meaning.proofs.layout.ObjectWords.{Standing, positive, owner_in, names_in, begins_in, kind_begun, cell_fits, head_fits, tail_fits, block_fits, field_fits, stands_cell, stands_pair, stands_block, new_cell, new_pair, new_block}

-- a reference to the first word has a name that the forward has
named_first : (kind : Kind) (shape : Shape) (n m : ℕ) → names_as kind (role_in shape n 0) ≡ Some m → names_as kind (Moved (kind_in shape) n) ≡ Some m
named_first AsCons (ACell i) n m e = e
named_first AsCons APair n m e = e
named_first AsCons (ABlock count) n m e = cc
named_first AsBlock (ACell i) n m e = cc
named_first AsBlock APair n m e = cc
named_first AsBlock (ABlock count) n m e = e

no_owner : (kind : Kind) (n : ℕ) → owner (Moved kind n) ≡ None
no_owner kind n = refl

none_waste : (kind : Kind) (m : ℕ) → names_as kind Waste ≡ Some m → ⊥
none_waste AsCons m e = cc
none_waste AsBlock m e = cc

module _ (W W' : ℕ → Parts) (regions : ℕ → Class) (k : RoleMap) (s : Store) (R : Roled W regions k s) (n a b : ℕ)
    (used : in_use s n) (old : is_old_at regions a ≡ true) (live : is_live_at regions b ≡ true)
    (forward : (W' a).content ≡ GcForward b) (words : (c : ℕ) → (c ≡ a → ⊥) → W' c ≡ W c) where
  module _ (from to : Shape) (kinds : kind_in to ≡ kind_in from) (st : Standing k n a from)
      (scratch : (j : ℕ) → j < size to → k.role (b + j) ≡ Scratch)
      (new : Frame k (laid k n a (size from) b to (Moved (kind_in from) n) Waste (k.age a)) s s (λ m. m == n) → (j : ℕ) → j < size to
      → Fits regions (laid k n a (size from) b to (Moved (kind_in from) n) Waste (k.age a)) s (b + j) (W' (b + j)) (role_in to n j)) where
    first : k.role a ≡ role_in from n 0
    first = ap k.role (let z : a ≡ a + 0 = omega arith in z) ∙ st.only 0 (positive from)

    owned : (j : ℕ) → j < size from → owner (k.role (a + j)) ≡ Some n
    owned j l = ap owner (st.only j l) ∙ owner_in from n j

    old_at : (j : ℕ) → j < size from → is_old_at regions (a + j) ≡ true
    old_at j l = ap (λ (r : ℕ). is_old (regions r).standing) (st.region j l) ∙ old

    young : k.age a ≤ 11
    young = R.young (kind_in from) a n (ap (names_as (kind_in from)) first ∙ names_in from n)

    kind : kind_of (object s n).body ≡ kind_in from
    kind =
        let P : Role → Type 0 = λ r. Begins (kind_of (object s n).body) r n in
        kind_begun (kind_of (object s n).body) from n (subst P (ap k.role st.place ∙ first) (R.begins n used))

    not_b : (c : ℕ) → c ≡ a → c ≡ b → ⊥
    not_b c x y =
        let u : k.role a ≡ Scratch = ap k.role (sym x ∙ y ∙ (let z : b ≡ b + 0 = omega arith in z)) ∙ scratch 0 (positive to) in
        let v : owner (k.role a) ≡ Some n = ap owner first ∙ owner_in from n 0 in
        let w = ap owner u in cc

    laying : Laying W W' regions k s s n a (size from) b to (Moved (kind_in from) n) Waste (k.age a)
    laying = record {
      all = st.all;
      only = owned;
      place = λ l. st.place;
      young_old = λ l. young;
      scratch = scratch;
      words = λ c x. words c (λ (z : c ≡ a). x (let p = positive from in (omega arith, omega arith)));
      first_named = λ kind m l e. named_first kind from n m (sym (ap (names_as kind) first) ∙ e);
      first_owner = no_owner (kind_in from) n;
      rest_owner = refl;
      rest_named = none_waste;
      young_new = young;
      used = λ m u. u;
      news = λ m u ne. u;
      same = λ m ne. refl;
      begins = (let P : Kind → Type 0 = λ x. Begins x (role_in to n 0) n in subst P (kinds ∙ sym kind) (begins_in to n));
      fits_new = new;
      fits_first = λ f l. record {
        used = used;
        old = old;
        to = b;
        content = forward;
        named = ap (λ (i : ℕ). names_as (kind_in from) ((laid k n a (size from) b to (Moved (kind_in from) n) Waste (k.age a)).role i)) (let z : b ≡ b + 0 = omega arith in z)
            ∙ ap (names_as (kind_in from)) (role_new k n a (size from) b to (Moved (kind_in from) n) Waste (k.age a) owned scratch 0 (positive to))
            ∙ ap (λ (x : Kind). names_as x (role_in to n 0)) (sym kinds) ∙ names_in to n;
        live = live;
        age = put_at-same k.age b (k.age a) b refl ∙ sym (put_at-other k.age b (k.age a) a (λ z. not_b a refl z));
      };
      fits_rest = λ f j l h. old_at j h;
    }

    -- the same state, with n at its new place; each word means what it meant
    pub flip : Roled W' regions (laid k n a (size from) b to (Moved (kind_in from) n) Waste (k.age a)) s
    flip = relaid W W' regions k s s n a (size from) b to (Moved (kind_in from) n) Waste (k.age a) R laying

    pub flip_frame : Frame k (laid k n a (size from) b to (Moved (kind_in from) n) Waste (k.age a)) s s (λ m. m == n)
    flip_frame = relaid_frame W W' regions k s s n a (size from) b to (Moved (kind_in from) n) Waste (k.age a) R laying

  not_a : (c m : ℕ) → k.role c ≡ Scratch → owner (k.role a) ≡ Some m → c ≡ a → ⊥
  not_a c m e o z = let x = ap owner (sym (ap k.role z) ∙ e) in cc

  scratch_one : k.role b ≡ Scratch → (j : ℕ) → j < 1 → k.role (b + j) ≡ Scratch
  scratch_one e j l = ap k.role (let z : b + j ≡ b = omega arith in z) ∙ e

  scratch_two : k.role b ≡ Scratch → k.role (suc b) ≡ Scratch → (j : ℕ) → j < 2 → k.role (b + j) ≡ Scratch
  scratch_two e f zero l = ap k.role (let z : b + 0 ≡ b = omega arith in z) ∙ e
  scratch_two e f (suc zero) l = ap k.role (let z : b + 1 ≡ suc b = omega arith in z) ∙ f
  scratch_two e f (suc (suc j)) l = absurd (omega arith)

  -- a cell stays a cell: what follows the copy must be the rest of the list
  module _ (i : ℕ) (ra : k.role a ≡ Cell n i) (rb : k.role b ≡ Scratch) (copy : (W b).content ≡ (W a).content)
      (next : CellCdr k.role b i (cdr_of (object s n).body) (W b).cdr) where
    cell_new : Frame k (laid k n a 1 b (ACell i) (Moved AsCons n) Waste (k.age a)) s s (λ m. m == n) → (j : ℕ) → j < 1
        → Fits regions (laid k n a 1 b (ACell i) (Moved AsCons n) Waste (k.age a)) s (b + j) (W' (b + j)) (role_in (ACell i) n j)
    cell_new =
        let f = cell_fits W regions k s R n a i ra in
        let w : W' b ≡ W b = words b (not_a b n rb (ap owner ra)) in
        let P : Parts → Type 0 = λ u. Holds k.role u.content (car_of (object s n).body) in
        let Q : Parts → Type 0 = λ u. CellCdr k.role b i (cdr_of (object s n).body) u.cdr in
        let C : Content → Type 0 = λ u. Holds k.role u (car_of (object s n).body) in
        new_cell W' regions k s s n a 1 b (Moved AsCons n) Waste (k.age a) (λ j l. ap (λ (c : ℕ). owner (k.role c)) (let z : a + j ≡ a = omega arith in z) ∙ ap owner ra) used
        i (scratch_one rb) f.age f.few f.charge (subst P (sym w) (subst C (sym copy) f.car)) (subst Q (sym w) next)

    pub flip_cell : Roled W' regions (laid k n a 1 b (ACell i) (Moved AsCons n) Waste (k.age a)) s
    flip_cell = flip (ACell i) (ACell i) refl (stands_cell W regions k s R n a i ra) (scratch_one rb) cell_new

    pub flip_cell_frame : Frame k (laid k n a 1 b (ACell i) (Moved AsCons n) Waste (k.age a)) s s (λ m. m == n)
    flip_cell_frame = flip_frame (ACell i) (ACell i) refl (stands_cell W regions k s R n a i ra) (scratch_one rb) cell_new

  -- the last cell of a run before a forward becomes a pair of charge 3
  module _ (i : ℕ) (ra : k.role a ≡ Cell n i) (rb : k.role b ≡ Scratch) (rc : k.role (suc b) ≡ Scratch) (near : region_of (suc b) ≡ region_of b)
      (copy : (W b).content ≡ (W a).content) (code : (W b).cdr ≡ CdrNormal) (code2 : (W (suc b)).cdr ≡ CdrNext)
      (cdr : Holds k.role (W (suc b)).content (cdr_of (object s n).body)) where
    last_new : Frame k (laid k n a 1 b APair (Moved AsCons n) Waste (k.age a)) s s (λ m. m == n) → (j : ℕ) → j < 2
        → Fits regions (laid k n a 1 b APair (Moved AsCons n) Waste (k.age a)) s (b + j) (W' (b + j)) (role_in APair n j)
    last_new =
        let f = cell_fits W regions k s R n a i ra in
        let w : W' b ≡ W b = words b (not_a b n rb (ap owner ra)) in
        let w2 : W' (suc b) ≡ W (suc b) = words (suc b) (not_a (suc b) n rc (ap owner ra)) in
        let P : Content → Type 0 = λ u. Holds k.role u (car_of (object s n).body) in
        let Q : Content → Type 0 = λ u. Holds k.role u (cdr_of (object s n).body) in
        new_pair W' regions k s s n a 1 b (Moved AsCons n) Waste (k.age a) (λ j l. ap (λ (c : ℕ). owner (k.role c)) (let z : a + j ≡ a = omega arith in z) ∙ ap owner ra) used
        (scratch_two rb rc) (let x = f.age in omega arith) near (ap (λ (u : Parts). u.cdr) w ∙ code) (inr (f.charge, ap (λ (u : Parts). u.cdr) w2 ∙ code2))
        (subst P (sym (ap (λ (u : Parts). u.content) w ∙ copy)) f.car) (subst Q (sym (ap (λ (u : Parts). u.content) w2)) cdr)

    pub flip_last : Roled W' regions (laid k n a 1 b APair (Moved AsCons n) Waste (k.age a)) s
    flip_last = flip (ACell i) APair refl (stands_cell W regions k s R n a i ra) (scratch_two rb rc) last_new

    pub flip_last_frame : Frame k (laid k n a 1 b APair (Moved AsCons n) Waste (k.age a)) s s (λ m. m == n)
    flip_last_frame = flip_frame (ACell i) APair refl (stands_cell W regions k s R n a i ra) (scratch_two rb rc) last_new

  module _ (ra : k.role a ≡ PairHead n) (rb : k.role b ≡ Scratch) (rc : k.role (suc b) ≡ Scratch) (near : region_of (suc b) ≡ region_of b)
      (copy : W b ≡ W a) (copy2 : W (suc b) ≡ W (suc a)) where
    pair_new : Frame k (laid k n a 2 b APair (Moved AsCons n) Waste (k.age a)) s s (λ m. m == n) → (j : ℕ) → j < 2
        → Fits regions (laid k n a 2 b APair (Moved AsCons n) Waste (k.age a)) s (b + j) (W' (b + j)) (role_in APair n j)
    pair_new =
        let f = head_fits W regions k s R n a ra in
        let g = tail_fits W regions k s R n a ra in
        let st = stands_pair W regions k s R n a ra in
        let w : W' b ≡ W a = words b (not_a b n rb (ap owner ra)) ∙ copy in
        let w2 : W' (suc b) ≡ W (suc a) = words (suc b) (not_a (suc b) n rc (ap owner ra)) ∙ copy2 in
        let P : Parts → Type 0 = λ u. Holds k.role u.content (car_of (object s n).body) in
        let Q : Parts → Type 0 = λ u. Holds k.role u.content (cdr_of (object s n).body) in
        let C : Parts → Type 0 = λ u. PairCode (object s n).charge u.cdr in
        new_pair W' regions k s s n a 2 b (Moved AsCons n) Waste (k.age a) (λ j l. ap owner (st.only j l) ∙ owner_in APair n j) used
        (scratch_two rb rc) f.age near (ap (λ (u : Parts). u.cdr) w ∙ f.code) (subst C (sym w2) g.code) (subst P (sym w) f.car) (subst Q (sym w2) g.cdr)

    pub flip_pair : Roled W' regions (laid k n a 2 b APair (Moved AsCons n) Waste (k.age a)) s
    flip_pair = flip APair APair refl (stands_pair W regions k s R n a ra) (scratch_two rb rc) pair_new

    pub flip_pair_frame : Frame k (laid k n a 2 b APair (Moved AsCons n) Waste (k.age a)) s s (λ m. m == n)
    flip_pair_frame = flip_frame APair APair refl (stands_pair W regions k s R n a ra) (scratch_two rb rc) pair_new

  module _ (ra : k.role a ≡ Head n) (count : ℕ) (sized : count ≡ (block_fits W regions k s R n a ra).size)
      (scratch : (j : ℕ) → j < suc count → k.role (b + j) ≡ Scratch) (near : (j : ℕ) → j < suc count → region_of (b + j) ≡ region_of b)
      (copy : (j : ℕ) → j < suc count → W (b + j) ≡ W (a + j)) where
    block_stands : Standing k n a (ABlock count)
    block_stands = let P : ℕ → Type 0 = λ i. Standing k n a (ABlock i) in subst P (sym sized) (stands_block W regions k s R n a ra)

    copied : (j : ℕ) → j < suc count → W' (b + j) ≡ W (a + j)
    copied j l = words (b + j) (not_a (b + j) n (scratch j l) (ap owner ra)) ∙ copy j l

    block_new : Frame k (laid k n a (suc count) b (ABlock count) (Moved AsBlock n) Waste (k.age a)) s s (λ m. m == n) → (j : ℕ) → j < suc count
        → Fits regions (laid k n a (suc count) b (ABlock count) (Moved AsBlock n) Waste (k.age a)) s (b + j) (W' (b + j)) (role_in (ABlock count) n j)
    block_new =
        let f = block_fits W regions k s R n a ra in
        let w : W' b ≡ W a = ap W' (let z : b ≡ b + 0 = omega arith in z) ∙ copied 0 (omega arith) ∙ ap W (let z : a + 0 ≡ a = omega arith in z) in
        let A : ℕ → Type 0 = λ i. 2 ^ k.age a ≤ suc i in
        new_block W' regions k s s n a (suc count) b (Moved AsBlock n) Waste (k.age a) (λ j l. ap owner (block_stands.only j l) ∙ owner_in (ABlock count) n j) used
        f.kind count scratch (subst A (sym sized) f.age) near (ap (λ (u : Parts). u.cdr) w ∙ f.code)
        (ap (λ (u : Parts). u.content) w ∙ f.content ∙ ap (Header f.kind) (sym sized)) (f.header ∙ ap (λ (i : ℕ). Some (f.kind, i)) (sym sized)) (f.charge ∙ ap suc (sym sized))
        (λ i l.
        let P : Parts → Type 0 = λ u. Holds k.role u.content (field_of (object s n).body i) in
        let g = field_fits W regions k s R n a ra i (let z = sized in omega arith) in
        subst P (sym (ap W' (let z : suc b + i ≡ b + suc i = omega arith in z) ∙ copied (suc i) (omega arith) ∙ ap W (let z : a + suc i ≡ suc a + i = omega arith in z))) g.value)

    pub flip_block : Roled W' regions (laid k n a (suc count) b (ABlock count) (Moved AsBlock n) Waste (k.age a)) s
    flip_block = flip (ABlock count) (ABlock count) refl block_stands scratch block_new

    pub flip_block_frame : Frame k (laid k n a (suc count) b (ABlock count) (Moved AsBlock n) Waste (k.age a)) s s (λ m. m == n)
    flip_block_frame = flip_frame (ABlock count) (ABlock count) refl block_stands scratch block_new
