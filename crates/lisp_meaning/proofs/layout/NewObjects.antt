-- New objects in words that are written and not yet used: a pair, a block, a compact run of cells.
use Rattle.std.proofs.Common.{◌≡◌, ℕ, zero, suc, ◌+◌, ◌-◌, ◌<◌, ◌≤◌, ◌⊎◌, inl, inr, Bool, true, ◌==◌, if◌then◌else◌, refl, sym, ◌∙◌, ap, subst, arith, Some}
use Rattle.std.proofs.lemmas.Bool.{cases_lt}
use Rattle.lisp_graph.specs.declared.object.Value.TheVariants as V
use Rattle.lisp_graph.specs.declared.object.Object.{Object}
use Rattle.lisp_meaning.specs.reading.Classes.{Class, region_of}
use Rattle.lisp_meaning.specs.invariants.Fits.{Holds, CellCdr, PairCode, IsCell, Fits, Roled}
use Rattle.lisp_meaning.specs.invariants.Laid.{run_laid, Shape, APair, ABlock, size, kind_in, role_in, between, laid}
use Rattle.lisp_meaning.specs.invariants.Roles.{Kind, AsCons, AsBlock, Role, Blank, Scratch, Waste, HuskWord, PairHead, PairTail, Cell, Head, Field, Moved, Relaid, names_as, owner, RoleMap, kind_of, car_of, cdr_of, field_of, header_of, Begins}
use Rattle.lisp_meaning.specs.machine.State.{Store, object, in_use}
use Rattle.lisp_graph.specs.store_word.Words.{Parts}
use Rattle.lisp_graph.specs.store_word.declared.word.CdrCode.{CdrCode}
use Rattle.lisp_graph.specs.store_word.declared.word.CdrCode.TheVariants.{Next as CdrNext, Nil as CdrNil, Normal as CdrNormal}
use Rattle.lisp_graph.specs.store_word.declared.word.Content.TheVariants.{Header}
use Rattle.lisp_meaning.proofs.maps.Frames.{alike, Frame, holds}
use Rattle.lisp_meaning.proofs.maps.Patches.{Patch, patched, frame}
use Rattle.lisp_meaning.proofs.layout.Layout.{Laying, relaid, relaid_frame, between_yes, between_no, between_which}
use Rattle.lisp_meaning.proofs.layout.ObjectWords.{begins_in, new_pair, new_block}

-- only names that are held have words
pub owner_used : (regions : ℕ → Class) (k : RoleMap) (s : Store) (a n : ℕ) (w : Parts) (r : Role) → Fits regions k s a w r → owner r ≡ Some n → in_use s n
owner_used regions k s a n w (PairHead m) f o = let P : ℕ → Type 0 = λ i. in_use s i in subst P (let z : m ≡ n = cc in z) f.used
owner_used regions k s a n w (PairTail m) f o = let P : ℕ → Type 0 = λ i. in_use s i in subst P (let z : m ≡ n = cc in z) f.used
owner_used regions k s a n w (Cell m i) f o = let P : ℕ → Type 0 = λ i. in_use s i in subst P (let z : m ≡ n = cc in z) f.used
owner_used regions k s a n w (Head m) f o = let P : ℕ → Type 0 = λ i. in_use s i in subst P (let z : m ≡ n = cc in z) f.used
owner_used regions k s a n w (Field m i) f o = let P : ℕ → Type 0 = λ i. in_use s i in subst P (let z : m ≡ n = cc in z) f.used
owner_used regions k s a n w Blank f o = cc
owner_used regions k s a n w Scratch f o = cc
owner_used regions k s a n w Waste f o = cc
owner_used regions k s a n w (HuskWord m) f o = cc
owner_used regions k s a n w (Moved kind m) f o = cc
owner_used regions k s a n w (Relaid kind m) f o = cc

none_waste : (kind : Kind) (m : ℕ) → names_as kind Waste ≡ Some m → ⊥
none_waste AsCons m e = cc
none_waste AsBlock m e = cc

module _ (W : ℕ → Parts) (regions : ℕ → Class) (k : RoleMap) (s s' : Store) (R : Roled W regions k s) (n b : ℕ)
    (new : in_use s n → ⊥) (used : in_use s' n) (uses : (m : ℕ) → in_use s m → in_use s' m) (news : (m : ℕ) → in_use s' m → (m ≡ n → ⊥) → in_use s m)
    (same : (m : ℕ) → (m ≡ n → ⊥) → object s' m ≡ object s m) where
  module _ (shape : Shape) (kind : kind_of (object s' n).body ≡ kind_in shape) (scratch : (j : ℕ) → j < size shape → k.role (b + j) ≡ Scratch)
      (fits : Frame k (laid k n 0 0 b shape Waste Waste 0) s s' (λ m. m == n) → (j : ℕ) → j < size shape
      → Fits regions (laid k n 0 0 b shape Waste Waste 0) s' (b + j) (W (b + j)) (role_in shape n j)) where
    laying : Laying W W regions k s s' n 0 0 b shape Waste Waste 0
    laying = record {
      all = λ c o. absurd (new (owner_used regions k s c n (W c) (k.role c) (R.fits c) o));
      only = λ j l. absurd (omega arith);
      place = λ l. absurd (omega arith);
      young_old = λ l. absurd (omega arith);
      scratch = scratch;
      words = λ c x. refl;
      first_named = λ kind m l e. absurd (omega arith);
      first_owner = refl;
      rest_owner = refl;
      rest_named = none_waste;
      young_new = omega arith;
      used = uses;
      news = news;
      same = same;
      begins = (let P : Kind → Type 0 = λ x. Begins x (role_in shape n 0) n in subst P (sym kind) (begins_in shape n));
      fits_new = fits;
      fits_first = λ f l. absurd (omega arith);
      fits_rest = λ f j l h. absurd (omega arith);
    }

    pub make : Roled W regions (laid k n 0 0 b shape Waste Waste 0) s'
    make = relaid W W regions k s s' n 0 0 b shape Waste Waste 0 R laying

    pub make_frame : Frame k (laid k n 0 0 b shape Waste Waste 0) s s' (λ m. m == n)
    make_frame = relaid_frame W W regions k s s' n 0 0 b shape Waste Waste 0 R laying

  module _ (rb : k.role b ≡ Scratch) (rc : k.role (suc b) ≡ Scratch) (near : region_of (suc b) ≡ region_of b) (kind : kind_of (object s' n).body ≡ AsCons)
      (code : (W b).cdr ≡ CdrNormal) (code2 : PairCode (object s' n).charge (W (suc b)).cdr)
      (car : Holds k.role (W b).content (car_of (object s' n).body)) (cdr : Holds k.role (W (suc b)).content (cdr_of (object s' n).body)) where
    scratch : (j : ℕ) → j < 2 → k.role (b + j) ≡ Scratch
    scratch zero l = ap k.role (let z : b + 0 ≡ b = omega arith in z) ∙ rb
    scratch (suc zero) l = ap k.role (let z : b + 1 ≡ suc b = omega arith in z) ∙ rc
    scratch (suc (suc j)) l = absurd (omega arith)

    pair_new : Frame k (laid k n 0 0 b APair Waste Waste 0) s s' (λ m. m == n) → (j : ℕ) → j < 2
        → Fits regions (laid k n 0 0 b APair Waste Waste 0) s' (b + j) (W (b + j)) (role_in APair n j)
    pair_new = new_pair W regions k s s' n 0 0 b Waste Waste 0 (λ j l. absurd (omega arith)) used scratch (omega arith) near code code2 car cdr

    pub make_pair : Roled W regions (laid k n 0 0 b APair Waste Waste 0) s'
    make_pair = make APair kind scratch pair_new

    pub make_pair_frame : Frame k (laid k n 0 0 b APair Waste Waste 0) s s' (λ m. m == n)
    make_pair_frame = make_frame APair kind scratch pair_new

  module _ (count code : ℕ) (scratch_all : (j : ℕ) → j < suc count → k.role (b + j) ≡ Scratch) (near : (j : ℕ) → j < suc count → region_of (b + j) ≡ region_of b)
      (kind : kind_of (object s' n).body ≡ AsBlock) (cdr : (W b).cdr ≡ CdrNext) (header : (W b).content ≡ Header code count)
      (body : header_of (object s' n).body ≡ Some (code, count)) (charge : (object s' n).charge ≡ suc count)
      (values : (j : ℕ) → j < count → Holds k.role (W (suc b + j)).content (field_of (object s' n).body j)) where
    block_new : Frame k (laid k n 0 0 b (ABlock count) Waste Waste 0) s s' (λ m. m == n) → (j : ℕ) → j < suc count
        → Fits regions (laid k n 0 0 b (ABlock count) Waste Waste 0) s' (b + j) (W (b + j)) (role_in (ABlock count) n j)
    block_new = new_block W regions k s s' n 0 0 b Waste Waste 0 (λ j l. absurd (omega arith)) used code count scratch_all (omega arith) near cdr header body charge values

    pub make_block : Roled W regions (laid k n 0 0 b (ABlock count) Waste Waste 0) s'
    make_block = make (ABlock count) kind scratch_all block_new

    pub make_block_frame : Frame k (laid k n 0 0 b (ABlock count) Waste Waste 0) s s' (λ m. m == n)
    make_block_frame = make_frame (ABlock count) kind scratch_all block_new

-- A compact run: `count` new names, from one on, in `count` words from b on

module _ (W : ℕ → Parts) (regions : ℕ → Class) (k : RoleMap) (s s' : Store) (R : Roled W regions k s) (from b count : ℕ) (few : count ≤ 1024)
    (new : (j : ℕ) → j < count → in_use s (from + j) → ⊥) (used : (j : ℕ) → j < count → in_use s' (from + j))
    (uses : (m : ℕ) → in_use s m → in_use s' m) (news : (m : ℕ) → in_use s' m → ((from ≤ m) × (m < from + count) → ⊥) → in_use s m)
    (same : (m : ℕ) → ((from ≤ m) × (m < from + count) → ⊥) → object s' m ≡ object s m)
    (scratch : (j : ℕ) → j < count → k.role (b + j) ≡ Scratch) (near : (j : ℕ) → j < count → region_of (b + j) ≡ region_of b)
    (kind : (j : ℕ) → j < count → kind_of (object s' (from + j)).body ≡ AsCons) (charge : (j : ℕ) → j < count → (object s' (from + j)).charge ≡ 3)
    (cars : (j : ℕ) → j < count → Holds k.role (W (b + j)).content (car_of (object s' (from + j)).body))
    (inner : (j : ℕ) → suc j < count → ((W (b + j)).cdr ≡ CdrNext) × (cdr_of (object s' (from + j)).body ≡ Some (V.Ref (from + suc j))))
    (last : (j : ℕ) → suc j ≡ count → ((W (b + j)).cdr ≡ CdrNil) × (cdr_of (object s' (from + j)).body ≡ Some V.Nil)) where
  pub run_role : (j : ℕ) → j < count → (run_laid k from b count).role (b + j) ≡ Cell (from + j) j
  run_role j l =
      ap (λ (t : Bool). if t then Cell (from + (b + j - b)) (b + j - b) else k.role (b + j)) (between_yes b count (b + j) (omega arith) (omega arith))
      ∙ ap (λ (i : ℕ). Cell (from + i) i) (let z : b + j - b ≡ j = omega arith in z)

  run_age : (j : ℕ) → j < count → (run_laid k from b count).age (b + j) ≡ 0
  run_age j l = ap (λ (t : Bool). if t then 0 else k.age (b + j)) (between_yes b count (b + j) (omega arith) (omega arith))

  pub run_at : (j : ℕ) → j < count → (run_laid k from b count).at (from + j) ≡ b + j
  run_at j l =
      ap (λ (t : Bool). if t then b + (from + j - from) else k.at (from + j)) (between_yes from count (from + j) (omega arith) (omega arith))
      ∙ ap (λ (i : ℕ). b + i) (let z : from + j - from ≡ j = omega arith in z)

  scratch_at : (c : ℕ) → (b ≤ c) × (c < b + count) → k.role c ≡ Scratch
  scratch_at c x = let l = x.0 in let h = x.1 in ap k.role (let z : c ≡ b + (c - b) = omega arith in z) ∙ scratch (c - b) (omega arith)

  none_scratch : (kind : Kind) (m : ℕ) → names_as kind Scratch ≡ Some m → ⊥
  none_scratch AsCons m e = cc
  none_scratch AsBlock m e = cc

  not_new : (m : ℕ) → in_use s m → (from ≤ m) × (m < from + count) → ⊥
  not_new m u x =
      let l = x.0 in let h = x.1 in
      let P : ℕ → Type 0 = λ i. in_use s i in
      new (m - from) (omega arith) (subst P (let z : m ≡ from + (m - from) = omega arith in z) u)

  cell_new : Frame k (run_laid k from b count) s s' (between from count) → (j : ℕ) → j < count → IsCell (run_laid k from b count) s' (b + j) (W (b + j)) (from + j) j
  cell_new f j l = record {
    used = used j l;
    place = run_at j l;
    charge = charge j l;
    few = omega arith;
    age = run_age j l;
    car = holds regions k (run_laid k from b count) s s' (between from count) f (W (b + j)).content _ _ refl (cars j l);
    cdr = go (cases_lt (suc j) count);
  }
    where
      go : (suc j < count) ⊎ (count ≤ suc j) → CellCdr (run_laid k from b count).role (b + j) j (cdr_of (object s' (from + j)).body) (W (b + j)).cdr
      go (inl h) =
          let P : CdrCode → Type 0 = λ x. CellCdr (run_laid k from b count).role (b + j) j (cdr_of (object s' (from + j)).body) x in
          let z : suc (b + j) ≡ b + suc j = omega arith in
          let r : (run_laid k from b count).role (suc (b + j)) ≡ Cell (from + suc j) (suc j) = ap (run_laid k from b count).role z ∙ run_role (suc j) h in
          subst P (sym (inner j h).0) (
            from + suc j,
            ap (names_as AsCons) r,
            (inner j h).1,
            ap region_of z ∙ near (suc j) h ∙ sym (near j l),
            λ p i e. (let y : Cell p i ≡ Cell (from + suc j) (suc j) = sym e ∙ r in cc),
          )
      go (inr h) =
          let P : CdrCode → Type 0 = λ x. CellCdr (run_laid k from b count).role (b + j) j (cdr_of (object s' (from + j)).body) x in
          subst P (sym (last j (omega arith)).0) (last j (omega arith)).1

  patch : Patch W W regions k (run_laid k from b count) s s' (λ c. (b ≤ c) × (c < b + count)) (between from count)
  patch = record {
    words = λ c t. refl;
    roles = λ c t. ap (λ (x : Bool). if x then Cell (from + (c - b)) (c - b) else k.role c) (between_no b count c t);
    ages = λ c t. ap (λ (x : Bool). if x then 0 else k.age c) (between_no b count c t);
    away = λ c m t o. between_no from count m (not_new m (owner_used regions k s c m (W c) (k.role c) (R.fits c) o));
    alike = λ c t. alike (k.role c) s s' (λ m o. same m (not_new m (owner_used regions k s c m (W c) (k.role c) (R.fits c) o)));
    place = λ m x. ap (λ (t : Bool). if t then b + (m - from) else k.at m) x;
    used = uses;
    kinds = λ m u x.
        let out : (from ≤ m) × (m < from + count) → ⊥ = λ y. (let z = between_yes from count m y.0 y.1 in cc) in
        (news m u out, ap (λ (o : Object). kind_of o.body) (same m out));
    named = λ kind c m t e. absurd (none_scratch kind m (sym (ap (names_as kind) (scratch_at c t)) ∙ e));
    relaid = λ kind c m t e. (let x = scratch_at c t in cc);
    husks = λ c m t e. (let x = scratch_at c t in cc);
    owned = λ c m t o x. (let y = ap owner (scratch_at c t) in cc);
    cells = λ c m i t e. inr (ap (names_as AsCons) (scratch_at c t));
    fits = λ f c t.
        let l = t.0 in let h = t.1 in
        let z : b + (c - b) ≡ c = omega arith in
        let P : ℕ → Type 0 = λ i. Fits regions (run_laid k from b count) s' i (W i) ((run_laid k from b count).role i) in
        let Q : Role → Type 0 = λ r. Fits regions (run_laid k from b count) s' (b + (c - b)) (W (b + (c - b))) r in
        subst P z (subst Q (sym (run_role (c - b) (omega arith))) (cell_new f (c - b) (omega arith)));
    young = λ kind c m t e. (let x = ap (λ (y : Bool). if y then 0 else k.age c) (between_yes b count c t.0 t.1) in omega arith);
    begins = λ m u x. begins m (between_which from count m) x;
  }
    where
      begins : (m : ℕ) → ((from ≤ m) × (m < from + count)) ⊎ ((from ≤ m) × (m < from + count) → ⊥) → between from count m ≡ true
          → Begins (kind_of (object s' m).body) ((run_laid k from b count).role ((run_laid k from b count).at m)) m
      begins m (inr out) x = let y = between_no from count m out in cc
      begins m (inl y) x =
          let l = y.0 in let h = y.1 in
          let z : from + (m - from) ≡ m = omega arith in
          let P : ℕ → Type 0 = λ i. Begins (kind_of (object s' i).body) ((run_laid k from b count).role ((run_laid k from b count).at i)) i in
          let Q : Kind → Type 0 = λ q. Begins q ((run_laid k from b count).role ((run_laid k from b count).at (from + (m - from)))) (from + (m - from)) in
          subst P z (subst Q (sym (kind (m - from) (omega arith)))
          (inr (m - from, ap (run_laid k from b count).role (run_at (m - from) (omega arith)) ∙ run_role (m - from) (omega arith))))

  pub make_cells : Roled W regions (run_laid k from b count) s'
  make_cells = patched W W regions k (run_laid k from b count) s s' (λ c. (b ≤ c) × (c < b + count)) (between from count) (between_which b count) patch R

  pub make_cells_frame : Frame k (run_laid k from b count) s s' (between from count)
  make_cells_frame = frame W W regions k (run_laid k from b count) s s' (λ c. (b ≤ c) × (c < b + count)) (between from count) (between_which b count) patch
