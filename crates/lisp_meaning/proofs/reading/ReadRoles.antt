-- From the roles of words to the reading: objects are stored with their values, and no used word of a live region is stale.
use Rattle.std.proofs.Common.{◌≡◌, ℕ, suc, ◌+◌, ◌-◌, ◌<◌, ◌≤◌, ◌⊎◌, inl, inr, true, false, refl, sym, ◌∙◌, ap, subst, arith, Option, Some, None, List, length, IsTrue}
use Rattle.std.proofs.lemmas.Bool.{cases_Bool, cases_lt}
use Rattle.std.proofs.lemmas.Option.{get_or_from_slice_get}
use Rattle.lisp_graph.specs.declared.object.Value.TheVariants as V
use Rattle.lisp_graph.specs.declared.object.Body.{Body}
use Rattle.lisp_graph.specs.declared.object.Body.TheVariants.{Cons, Block}
use Rattle.lisp_graph.specs.declared.object.Value.{Value}
use Rattle.lisp_meaning.specs.reading.Classes.{Class, class_at, is_old_at, classes}
use Rattle.lisp_meaning.specs.invariants.Fits.{IsHuskWord, Holds, CellCdr, PairCode, Fits, Roled}
use Rattle.lisp_meaning.specs.reading.Image.{Image, word, region, is_used, is_old, is_free, Standing, Live, Old, Free}
use Rattle.lisp_meaning.specs.invariants.Invariant.{Covered}
use Rattle.lisp_meaning.specs.reading.Objects.{StandsAt, pair_2, pair_3, last_cell, cell, whole_block, words_of, words_at, Within, Objects}
use Rattle.lisp_meaning.specs.invariants.Roles.{Kind, AsCons, AsBlock, Role, Blank, Scratch, Waste, HuskWord, PairHead, PairTail, Cell, Head, Field, Moved, Relaid, names_as, owner, as_ref, value_of, RoleMap, kind_of, car_of, cdr_of, field_of, header_of, Begins}
use Rattle.lisp_meaning.specs.reading.Stands.{Owned, by_object, by_forward, by_husk, NoStale}
use Rattle.lisp_meaning.specs.machine.State.{Store, object, in_use}
use Rattle.lisp_meaning.specs.reading.Value.{Means, fixnum, nil, cons, block, Distinct}
use Rattle.lisp_graph.specs.store_word.Words.{null_word}
use Rattle.lisp_graph.specs.store_word.declared.word.CdrCode.{CdrCode}
use Rattle.lisp_graph.specs.store_word.declared.word.CdrCode.TheVariants.{Next as CdrNext, Nil as CdrNil, Normal as CdrNormal, Second as CdrSecond}
use Rattle.lisp_graph.specs.store_word.declared.word.Content.{Content}
use Rattle.lisp_graph.specs.store_word.declared.word.Content.TheVariants.{Null, Nil as NilWord, Fixnum, List as ListAt, Struct as StructAt, Header, HeaderForward, GcForward}
use Rattle.lisp_meaning.proofs.maps.Frames.{names_relaid}
use Rattle.lisp_meaning.proofs.roles.Chains.{named_by, class_end}
use Rattle.lisp_meaning.proofs.roles.FinalAddresses.{final, kind_named}
use Rattle.lisp_meaning.proofs.maps.Patches.{begins_owner}
use Rattle.lisp_meaning.proofs.layout.ObjectWords.{cell_fits, head_fits, tail_fits, block_fits, field_fits, field_within, part_at}
use Rattle.lisp_meaning.proofs.layout.NewObjects.{owner_used}

some_is : {A : Type 0} → (x y : A) → Some x ≡ Some y → x ≡ y
some_is x y e = cc

-- a word that has a value is no header
words_normal : (role : ℕ → Role) (c : Content) (v : Value) → value_of role c ≡ Some v → words_of c CdrNormal ≡ 2
words_normal role Null v e = refl
words_normal role NilWord v e = refl
words_normal role (Fixnum i) v e = refl
words_normal role (ListAt a) v e = refl
words_normal role (StructAt a) v e = refl
words_normal role (Header code n) v e = cc
words_normal role (HeaderForward a) v e = refl
words_normal role (GcForward a) v e = refl

words_next : (role : ℕ → Role) (c : Content) (v : Value) → value_of role c ≡ Some v → words_of c CdrNext ≡ 1
words_next role Null v e = refl
words_next role NilWord v e = refl
words_next role (Fixnum i) v e = refl
words_next role (ListAt a) v e = refl
words_next role (StructAt a) v e = refl
words_next role (Header code n) v e = cc
words_next role (HeaderForward a) v e = refl
words_next role (GcForward a) v e = refl

words_nil : (role : ℕ → Role) (c : Content) (v : Value) → value_of role c ≡ Some v → words_of c CdrNil ≡ 1
words_nil role Null v e = refl
words_nil role NilWord v e = refl
words_nil role (Fixnum i) v e = refl
words_nil role (ListAt a) v e = refl
words_nil role (StructAt a) v e = refl
words_nil role (Header code n) v e = cc
words_nil role (HeaderForward a) v e = refl
words_nil role (GcForward a) v e = refl

module _ (g : Image) (k : RoleMap) (s : Store) (R : Roled (word g) (classes g) k s) where
  -- a value by roles is a value by final addresses
  means_ref : (a : ℕ) (v : Value) (o : Option ℕ) → names_as AsCons (k.role a) ≡ o → as_ref o ≡ Some v → Means g s k.at (ListAt a) v
  means_ref a v None e h = cc
  means_ref a v (Some n) e h =
      let u = (named_by (word g) (classes g) k s AsCons n a (k.role a) (R.fits a) e).used in
      let P : Value → Type 0 = λ x. Means g s k.at (ListAt a) x in
      subst P (some_is (V.Ref n) v h) (go (object s n).body refl (kind_named g (classes g) k s R AsCons n a e) u)
    where
      go : (b : Body) → (object s n).body ≡ b → kind_of (object s n).body ≡ AsCons → in_use s n → Means g s k.at (ListAt a) (V.Ref n)
      go (Cons x y) e2 kind u = cons a n (final g (classes g) k s R AsCons n a e) u e2
      go (Block code fields) e2 kind u = let z = ap kind_of e2 in cc

  means_struct : (a : ℕ) (v : Value) (o : Option ℕ) → names_as AsBlock (k.role a) ≡ o → as_ref o ≡ Some v → Means g s k.at (StructAt a) v
  means_struct a v None e h = cc
  means_struct a v (Some n) e h =
      let u = (named_by (word g) (classes g) k s AsBlock n a (k.role a) (R.fits a) e).used in
      let P : Value → Type 0 = λ x. Means g s k.at (StructAt a) x in
      subst P (some_is (V.Ref n) v h) (go (object s n).body refl (kind_named g (classes g) k s R AsBlock n a e) u)
    where
      go : (b : Body) → (object s n).body ≡ b → kind_of (object s n).body ≡ AsBlock → in_use s n → Means g s k.at (StructAt a) (V.Ref n)
      go (Cons x y) e2 kind u = let z = ap kind_of e2 in cc
      go (Block code fields) e2 kind u = block a n (final g (classes g) k s R AsBlock n a e) u e2

  pub means : (c : Content) (v : Value) → value_of k.role c ≡ Some v → Means g s k.at c v
  means Null v e = cc
  means NilWord v e = let P : Value → Type 0 = λ x. Means g s k.at NilWord x in subst P (some_is V.Nil v e) nil
  means (Fixnum i) v e = let P : Value → Type 0 = λ x. Means g s k.at (Fixnum i) x in subst P (some_is (V.Fix i) v e) (fixnum i)
  means (ListAt a) v e = means_ref a v (names_as AsCons (k.role a)) refl e
  means (StructAt a) v e = means_struct a v (names_as AsBlock (k.role a)) refl e
  means (Header code n) v e = cc
  means (HeaderForward a) v e = cc
  means (GcForward a) v e = cc

  means_part : (c : Content) (p : Option Value) (v : Value) → Holds k.role c p → p ≡ Some v → Means g s k.at c v
  means_part c p v h e = means c v (h.2 ∙ ap Some (some_is h.0 v (sym h.1 ∙ e)))

  -- an object is stored as its role shows: a pair, a cell or a block
  stands_pair : (n : ℕ) (x y : Value) → (object s n).body ≡ Cons x y → k.role (k.at n) ≡ PairHead n → StandsAt g s k.at (k.at n) (object s n)
  stands_pair n x y b e =
      let f = head_fits (word g) (classes g) k s R n (k.at n) e in
      let t = tail_fits (word g) (classes g) k s R n (k.at n) e in
      let car = means_part (word g (k.at n)).content _ x f.car (ap car_of b) in
      let cdr = means_part (word g (suc (k.at n))).content _ y t.cdr (ap cdr_of b) in
      go f.code car cdr t.code
    where
      go : (word g (k.at n)).cdr ≡ CdrNormal → Means g s k.at (word g (k.at n)).content x → Means g s k.at (word g (suc (k.at n))).content y → PairCode (object s n).charge (word g (suc (k.at n))).cdr
          → StandsAt g s k.at (k.at n) (object s n)
      go code car cdr (inl c) = pair_2 (k.at n) b c.0 code car c.1 cdr
      go code car cdr (inr c) = pair_3 (k.at n) b c.0 code car c.1 cdr

  stands_cell : (n i : ℕ) (x y : Value) → (object s n).body ≡ Cons x y → k.role (k.at n) ≡ Cell n i → StandsAt g s k.at (k.at n) (object s n)
  stands_cell n i x y b e =
      let f = cell_fits (word g) (classes g) k s R n (k.at n) i e in
      go (word g (k.at n)).cdr refl f.charge (means_part (word g (k.at n)).content _ x f.car (ap car_of b)) f.cdr
    where
      go : (code : CdrCode) → (word g (k.at n)).cdr ≡ code → (object s n).charge ≡ 3 → Means g s k.at (word g (k.at n)).content x → CellCdr k.role (k.at n) i (cdr_of (object s n).body) code
          → StandsAt g s k.at (k.at n) (object s n)
      go CdrNil e2 charge car c = last_cell (k.at n) (b ∙ ap (Cons x) (some_is y V.Nil (sym (ap cdr_of b) ∙ c))) charge e2 car
      go CdrNext e2 charge car c =
          cell (k.at n) b charge e2 car (means (ListAt (suc (k.at n))) y (ap as_ref c.1 ∙ sym (c.2) ∙ ap cdr_of b))
      go CdrNormal e2 charge car c = absurd c
      go CdrSecond e2 charge car c = absurd c

  stands_block : (n code : ℕ) (fields : List Value) → (object s n).body ≡ Block code fields → k.role (k.at n) ≡ Head n → StandsAt g s k.at (k.at n) (object s n)
  stands_block n code fields b e =
      let f = block_fits (word g) (classes g) k s R n (k.at n) e in
      let h : Some (f.kind, f.size) ≡ Some (code, length fields) = sym f.header ∙ ap header_of b in
      let z : f.size ≡ length fields = ap size_of h in
      let w : f.kind ≡ code = ap code_of h in
      whole_block (k.at n) b (f.charge ∙ ap suc z) f.code (f.content ∙ ap (λ (i : ℕ). Header i f.size) w ∙ ap (Header code) z)
      (λ i l.
      let below : i < f.size = (let y : i < length fields = l in let x : f.size ≡ length fields = z in omega arith) in
      let q = (field_fits (word g) (classes g) k s R n (k.at n) e i below).value in
      let v : Rattle.std.specs.Prelude.slice_get fields i ≡ Some q.0 = sym (ap (λ (x : Body). field_of x i) b) ∙ q.1 in
      let P : Value → Type 0 = λ x. Means g s k.at (word g (suc (k.at n) + i)).content x in
      subst P (sym (get_or_from_slice_get fields i q.0 V.Nil v)) (means (word g (suc (k.at n) + i)).content q.0 q.2))
    where
      size_of : Option (ℕ × ℕ) → ℕ
      size_of None = 0
      size_of (Some p) = p.1

      code_of : Option (ℕ × ℕ) → ℕ
      code_of None = 0
      code_of (Some p) = p.0

  pub stands : (n : ℕ) → in_use s n → StandsAt g s k.at (k.at n) (object s n)
  stands n u = go (object s n).body refl (R.begins n u)
    where
      go : (b : Body) → (object s n).body ≡ b → Begins (kind_of b) (k.role (k.at n)) n → StandsAt g s k.at (k.at n) (object s n)
      go (Cons x y) e (inl r) = stands_pair n x y e r
      go (Cons x y) e (inr r) = stands_cell n r.0 x y e r.1
      go (Block code fields) e r = stands_block n code fields e r

  begun : (kind : Kind) (r : Role) (n : ℕ) → Begins kind r n → names_as kind r ≡ Some n
  begun AsCons r n (inl e) = ap (names_as AsCons) e
  begun AsCons r n (inr e) = ap (names_as AsCons) e.1
  begun AsBlock r n e = ap (names_as AsBlock) e

  named_at : (n : ℕ) → in_use s n → names_as (kind_of (object s n).body) (k.role (k.at n)) ≡ Some n
  named_at n u = begun (kind_of (object s n).body) (k.role (k.at n)) n (R.begins n u)

  -- two names are never at one address
  pub distinct : Distinct s k.at
  distinct m n u v e = some_is m n
      (sym (begins_owner (kind_of (object s m).body) (k.role (k.at m)) m (R.begins m u)) ∙ ap (λ (a : ℕ). owner (k.role a)) e ∙ begins_owner (kind_of (object s n).body) (k.role (k.at n)) n (R.begins n v))

  -- how many words an object has that begins at a word with this role
  words_pair : (n : ℕ) → k.role (k.at n) ≡ PairHead n → words_at (word g (k.at n)) ≡ 2
  words_pair n e =
      let f = head_fits (word g) (classes g) k s R n (k.at n) e in
      ap (words_of (word g (k.at n)).content) f.code ∙ words_normal k.role (word g (k.at n)).content f.car.0 f.car.2

  words_cell : (n i : ℕ) → k.role (k.at n) ≡ Cell n i → words_at (word g (k.at n)) ≡ 1
  words_cell n i e =
      let f = cell_fits (word g) (classes g) k s R n (k.at n) i e in go (word g (k.at n)).cdr refl f.cdr f.car
    where
      go : (code : CdrCode) → (word g (k.at n)).cdr ≡ code → CellCdr k.role (k.at n) i (cdr_of (object s n).body) code → Holds k.role (word g (k.at n)).content (car_of (object s n).body) → words_at (word g (k.at n)) ≡ 1
      go CdrNil e c h = ap (words_of (word g (k.at n)).content) e ∙ words_nil k.role (word g (k.at n)).content h.0 h.2
      go CdrNext e c h = ap (words_of (word g (k.at n)).content) e ∙ words_next k.role (word g (k.at n)).content h.0 h.2
      go CdrNormal e c h = absurd c
      go CdrSecond e c h = absurd c

  words_block : (n : ℕ) (e : k.role (k.at n) ≡ Head n) → words_at (word g (k.at n)) ≡ suc (block_fits (word g) (classes g) k s R n (k.at n) e).size
  words_block n e = ap (λ (c : Content). words_of c (word g (k.at n)).cdr) (block_fits (word g) (classes g) k s R n (k.at n) e).content

  -- each word within an object has it as its owner
  within_owner : (n a : ℕ) → in_use s n → Within g (k.at n) a → owner (k.role a) ≡ Some n
  within_owner n a u w = go (kind_of (object s n).body) (R.begins n u)
    where
      pair : k.role (k.at n) ≡ PairHead n → (a < suc (k.at n)) ⊎ (suc (k.at n) ≤ a) → owner (k.role a) ≡ Some n
      pair e (inl l) = let x = w.0 in ap (λ (i : ℕ). owner (k.role i)) (let z : a ≡ k.at n = omega arith in z) ∙ ap owner e
      pair e (inr l) = let x = w.1 in let y = words_pair n e in
          ap (λ (i : ℕ). owner (k.role i)) (let z : a ≡ suc (k.at n) = omega arith in z) ∙ ap owner (head_fits (word g) (classes g) k s R n (k.at n) e).tail

      head : (e : k.role (k.at n) ≡ Head n) → (a < suc (k.at n)) ⊎ (suc (k.at n) ≤ a) → owner (k.role a) ≡ Some n
      head e (inl l) = let x = w.0 in ap (λ (i : ℕ). owner (k.role i)) (let z : a ≡ k.at n = omega arith in z) ∙ ap owner e
      head e (inr l) = let x = w.1 in let y = words_block n e in
          ap (λ (i : ℕ). owner (k.role i)) (let z : a ≡ suc (k.at n) + (a - suc (k.at n)) = omega arith in z)
          ∙ ap owner ((block_fits (word g) (classes g) k s R n (k.at n) e).fields (a - suc (k.at n)) (omega arith))

      go : (kind : Kind) → Begins kind (k.role (k.at n)) n → owner (k.role a) ≡ Some n
      go AsCons (inl e) = pair e (cases_lt a (suc (k.at n)))
      go AsCons (inr e) = let x = w.0 in let y = w.1 in let z = words_cell n e.0 e.1 in ap (λ (i : ℕ). owner (k.role i)) (let v : a ≡ k.at n = omega arith in v) ∙ ap owner e.1
      go AsBlock e = head e (cases_lt a (suc (k.at n)))

  -- and each word that an object owns is within it
  pub owner_within : (a n : ℕ) → owner (k.role a) ≡ Some n → Within g (k.at n) a
  owner_within a n o =
      let u = owner_used (classes g) k s a n (word g a) (k.role a) (R.fits a) o in
      go (part_at (word g) (classes g) k s R n (k.at n) a (k.role a) (R.fits a) o) (first (kind_of (object s n).body) (R.begins n u))
    where
      first : (kind : Kind) → Begins kind (k.role (k.at n)) n → 0 < words_at (word g (k.at n))
      first AsCons (inl e) = let x = words_pair n e in omega arith
      first AsCons (inr e) = let x = words_cell n e.0 e.1 in omega arith
      first AsBlock e = let x = words_block n e in omega arith

      go : (k.at n ≡ a) ⊎ ((suc (k.at n) ≡ a) × (k.role (k.at n) ≡ PairHead n)) ⊎ ((i : ℕ) × (suc (k.at n) + i ≡ a) × (k.role (k.at n) ≡ Head n) × ((v : Value) × (field_of (object s n).body i ≡ Some v)))
          → 0 < words_at (word g (k.at n)) → Within g (k.at n) a
      go (inl z) f = (omega arith, omega arith)
      go (inr (inl z)) f = let y = z.0 in let x = words_pair n z.1 in (omega arith, omega arith)
      go (inr (inr z)) f =
          let y = z.1 in let x = words_block n z.2 in
          let h = block_fits (word g) (classes g) k s R n (k.at n) z.2 in
          let l = field_within (object s n).body z.0 h.kind h.size z.3.0 h.header z.3.1 in
          (omega arith, omega arith)

  module _ (c : Covered g k) where
    pub used_where : (a n : ℕ) → owner (k.role a) ≡ Some n → IsTrue (is_used g a) × (is_free (region g a).standing ≡ false)
    used_where a n o = (used (cases_Bool (is_used g a)), not_free (cases_Bool (is_free (region g a).standing)))
      where
        used : (is_used g a ≡ true) ⊎ (is_used g a ≡ false) → IsTrue (is_used g a)
        used (inl e) = e
        used (inr e) = let x = ap owner (c.unused a e) in cc

        not_free : (is_free (region g a).standing ≡ true) ⊎ (is_free (region g a).standing ≡ false) → is_free (region g a).standing ≡ false
        not_free (inl e) = let x = ap owner (c.free a e) in cc
        not_free (inr e) = e

    -- (a)
    pub objects_read : ((n : ℕ) → in_use s n → n < length s.objects) → Objects g s k.at
    objects_read below = record {
      names = below;
      final = λ n u. final g (classes g) k s R (kind_of (object s n).body) n (k.at n) (named_at n u);
      used = λ n u. used_where (k.at n) n (begins_owner (kind_of (object s n).body) (k.role (k.at n)) n (R.begins n u));
      stands = stands;
      apart = λ m n a u v x y. some_is m n (sym (within_owner m a u x) ∙ within_owner n a v y);
    }

    -- above a used end all is NULL
    pub above_read : (a : ℕ) → is_used g a ≡ false → word g a ≡ null_word
    above_read a e = let P : Role → Type 0 = λ r. Fits (classes g) k s a (word g a) r in subst P (c.unused a e) (R.fits a)

    live_old : (r : Standing) → r ≡ Live → is_old r ≡ false
    live_old Live e = refl
    live_old Old e = cc
    live_old Free e = cc

    -- (g)
    pub no_stale_read : NoStale g s k.at
    no_stale_read a used live = go (k.role a) refl (R.fits a)
      where
        not_old : is_old_at (classes g) a ≡ false
        not_old = live_old (region g a).standing live

        relaid : (kind : Kind) (n : ℕ) → k.role a ≡ Relaid kind n → Fits (classes g) k s a (word g a) (Relaid kind n) → Owned g s k.at a
        relaid kind n e f =
            let named : names_as kind (k.role a) ≡ Some n = ap (names_as kind) e ∙ names_relaid kind n in
            by_forward n (record { used = f.used; to = f.to; content = f.content; final = final g (classes g) k s R kind n f.to f.named; class = class_end (word g) (classes g) k s R a n kind named not_old })

        husk_word : (first : ℕ) → IsHuskWord k a (word g a) first → Owned g s k.at a
        husk_word first h =
            let n = h.block.0 in
            let P : Role → Type 0 = λ r. Fits (classes g) k s first (word g first) r in
            let f = subst P h.block.1 (R.fits first) in
            let named : names_as AsBlock (k.role first) ≡ Some n = ap (names_as AsBlock) h.block.1 ∙ names_relaid AsBlock n in
            let there : class_at (classes g) a ≡ class_at (classes g) first = ap (classes g) h.region in
            let old : is_old_at (classes g) first ≡ false = ap (λ (c : Class). is_old c.standing) (sym there) ∙ not_old in
            let kind = kind_named g (classes g) k s R AsBlock n f.to f.named in
            let Q : Kind → Type 0 = λ x. Begins x (k.role (k.at n)) n in
            let b = block_fits (word g) (classes g) k s R n (k.at n) (subst Q kind (R.begins n f.used)) in
            by_husk n first
            (record { used = f.used; to = f.to; content = f.content; final = final g (classes g) k s R AsBlock n f.to f.named; class = class_end (word g) (classes g) k s R first n AsBlock named old })
            h.after (λ c l t. blank_at c l (cases_lt c a) t) h.region b.kind b.size b.content
          where
            blank_at : (c : ℕ) → first < c → (c < a) ⊎ (a ≤ c) → c ≤ a → word g c ≡ null_word
            blank_at c l (inl x) t = (let P : Role → Type 0 = λ r. Fits (classes g) k s c (word g c) r in let f : IsHuskWord k c (word g c) first = subst P (h.between c l x) (R.fits c) in f.blank)
            blank_at c l (inr x) t = ap (word g) (let z : c ≡ a = omega arith in z) ∙ h.blank

        own : (n : ℕ) → k.role a ≡ k.role a → owner (k.role a) ≡ Some n → Owned g s k.at a
        own n e o = by_object n (owner_used (classes g) k s a n (word g a) (k.role a) (R.fits a) o) (owner_within a n o)

        go : (r : Role) → k.role a ≡ r → Fits (classes g) k s a (word g a) r → Owned g s k.at a
        go Blank e f = absurd (c.used a used e)
        go Scratch e f = absurd (c.done a e)
        go Waste e f = let x = not_old in cc
        go (HuskWord first) e f = husk_word first f
        go (PairHead n) e f = own n refl (ap owner e)
        go (PairTail n) e f = own n refl (ap owner e)
        go (Cell n i) e f = own n refl (ap owner e)
        go (Head n) e f = own n refl (ap owner e)
        go (Field n i) e f = own n refl (ap owner e)
        go (Moved kind n) e f = let x = not_old in let y = f.old in cc
        go (Relaid kind n) e f = relaid kind n e f
