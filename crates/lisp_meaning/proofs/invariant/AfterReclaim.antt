-- The invariant after a reclaim, and that what is held is closed.
use Rattle.std.proofs.Common.{◌≡◌, ℕ, suc, ◌+◌, ◌≤◌, ◌⊎◌, inl, inr, Bool, true, false, ◌&&◌, if◌then◌else◌, refl, sym, ◌∙◌, ap, subst, arith, Option, Some, None, List, [], ◌∷◌, length, get_or, nat_eq, IsTrue}
use Rattle.std.specs.Prelude.{is_some, slice_get}
use Rattle.std.proofs.lemmas.Bool.{cases_Bool, or_cases, eqb-true}
use Rattle.lisp_graph.specs.declared.object.Value.TheVariants as V
use Rattle.lisp_graph.specs.Graph.{no_object, is_ref, refers_in, body_refers}
use Rattle.lisp_graph.specs.declared.object.Body.{Body}
use Rattle.lisp_graph.specs.declared.object.Body.TheVariants.{Cons, Block}
use Rattle.lisp_graph.specs.declared.object.Object.{Object}
use Rattle.lisp_graph.specs.declared.object.Value.{Value}
use Rattle.lisp_meaning.specs.machine.Charges.{account, charges, per_area}
use Rattle.lisp_meaning.specs.invariants.ChargesIn.{charge_in, charges_in, spare_in, spares_in, is_cell, is_of_husk}
use Rattle.lisp_meaning.specs.reading.Classes.{Class, class_at, is_old_at, region_of, in_class, in_old_class, classes}
use Rattle.lisp_meaning.specs.machine.Flip.{graph_of}
use Rattle.lisp_meaning.specs.invariants.Fits.{Roled, Holds, CellCdr}
use Rattle.lisp_meaning.specs.reading.Image.{Image, word, region, is_free, is_used, Standing, Live, Old, Free, is_live, is_old}
use Rattle.lisp_meaning.specs.invariants.Invariant.{Covered, MemoryInvariant, MachineInvariant}
use Rattle.lisp_meaning.specs.machine.Reach.{Closed}
use Rattle.lisp_meaning.specs.invariants.Roles.{Kind, AsCons, AsBlock, Role, Blank, Scratch, RoleMap, names_as, as_ref, value_of, kind_of, car_of, cdr_of, field_of, Begins, PairHead, Cell, Head}
use Rattle.lisp_meaning.specs.invariants.Interpretation.{Interpretation}
use Rattle.lisp_meaning.specs.machine.State.{Store, State, Condemned, no_aim, object, is_held, in_use, survivor}
use Rattle.lisp_meaning.specs.keeping.TableChanges.{free_class, cleared, TableFreed}
use Rattle.lisp_graph.specs.store_word.Words.{Parts, null_word, address_of}
use Rattle.lisp_graph.specs.store_word.declared.word.CdrCode.{CdrCode}
use Rattle.lisp_graph.specs.store_word.declared.word.CdrCode.TheVariants.{Next as CdrNext, Nil as CdrNil, Normal as CdrNormal, Second as CdrSecond}
use Rattle.lisp_graph.specs.store_word.declared.word.Content.{Content}
use Rattle.lisp_graph.specs.store_word.declared.word.Content.TheVariants.{Null, Nil as NilWord, Fixnum, List as ListAt, Struct as StructAt, Header, HeaderForward, GcForward}
use Rattle.lisp_graph.specs.Totals.{total, if_true}
use Rattle.lisp_graph.proofs.Totals.{total-cong, total-le}
use Rattle.lisp_meaning.proofs.sums.Charges.{total-none}
use Rattle.lisp_meaning.proofs.reading.Husks.{NoNewHusks, husks_stay}
use Rattle.lisp_meaning.proofs.sums.Accounts.{charges_same}
use Rattle.lisp_meaning.proofs.roles.Chains.{named_by}
use Rattle.lisp_meaning.proofs.layout.ObjectWords.{cell_fits, head_fits, tail_fits, block_fits, field_fits, field_within}
use Rattle.lisp_meaning.proofs.roles.OldRegions.{dropped, drop}

-- What the held objects refer to is held

refers_which : (n : ℕ) (vs : List Value) → refers_in n vs ≡ true → (i : ℕ) × (v : Value) × (slice_get vs i ≡ Some v) × (is_ref n v ≡ true)
unfolding refers_in
refers_which n [] e = cc
refers_which n (v ∷ vs) e = go (or_cases (is_ref n v) (refers_in n vs) e) (refers_which n vs)
  where
    go : (is_ref n v ≡ true) ⊎ (refers_in n vs ≡ true) → (refers_in n vs ≡ true → (i : ℕ) × (w : Value) × (slice_get vs i ≡ Some w) × (is_ref n w ≡ true)) → (i : ℕ) × (w : Value) × (slice_get (v ∷ vs) i ≡ Some w) × (is_ref n w ≡ true)
    go (inl x) r = (0, v, refl, x)
    go (inr x) r = let q = r x in (suc q.0, q.1, q.2, q.3)

module _ (W : ℕ → Parts) (regions : ℕ → Class) (k : RoleMap) (s : Store) (R : Roled W regions k s) where
  ref_used : (kind : Kind) (a n : ℕ) (v : Value) (o : Option ℕ) → names_as kind (k.role a) ≡ o → as_ref o ≡ Some v → is_ref n v ≡ true → in_use s n
  ref_used kind a n v None e h r = cc
  ref_used kind a n v (Some m) e h r =
      let z : V.Ref m ≡ v = cc in
      let q : nat_eq m n ≡ true = ap (is_ref n) z ∙ r in
      let P : ℕ → Type 0 = λ i. in_use s i in
      subst P (eqb-true m n q) (named_by W regions k s kind m a (k.role a) (R.fits a) e).used

  pub value_used : (c : Content) (v : Value) (n : ℕ) → value_of k.role c ≡ Some v → is_ref n v ≡ true → in_use s n
  value_used Null v n e r = cc
  value_used NilWord v n e r = let z : V.Nil ≡ v = cc in let y : false ≡ true = ap (is_ref n) z ∙ r in cc
  value_used (Fixnum i) v n e r = let z : V.Fix i ≡ v = cc in let y : false ≡ true = ap (is_ref n) z ∙ r in cc
  value_used (ListAt a) v n e r = ref_used AsCons a n v (names_as AsCons (k.role a)) refl e r
  value_used (StructAt a) v n e r = ref_used AsBlock a n v (names_as AsBlock (k.role a)) refl e r
  value_used (Header code i) v n e r = cc
  value_used (HeaderForward a) v n e r = cc
  value_used (GcForward a) v n e r = cc

  part_used : (c : Content) (p : Option Value) (v : Value) (n : ℕ) → Holds k.role c p → p ≡ Some v → is_ref n v ≡ true → in_use s n
  part_used c p v n h e r = value_used c v n (h.2 ∙ (let z : Some h.0 ≡ Some v = sym h.1 ∙ e in z)) r

  cdr_used : (a i : ℕ) (p : Option Value) (code : CdrCode) (v : Value) (n : ℕ) → CellCdr k.role a i p code → p ≡ Some v → is_ref n v ≡ true → in_use s n
  cdr_used a i p CdrNil v n c e r = let z : Some V.Nil ≡ Some v = sym c ∙ e in let y : V.Nil ≡ v = cc in let x : false ≡ true = ap (is_ref n) y ∙ r in cc
  cdr_used a i p CdrNext v n c e r = ref_used AsCons (suc a) n v (Some c.0) c.1 (sym c.2 ∙ e) r
  cdr_used a i p CdrNormal v n c e r = absurd c
  cdr_used a i p CdrSecond v n c e r = absurd c

  pub object_refers : (m n : ℕ) → in_use s m → body_refers n (object s m).body ≡ true → in_use s n
  object_refers m n u r = go (object s m).body refl (R.begins m u) r
    where
      at_cons : (x y : Value) → (object s m).body ≡ Cons x y → (k.role (k.at m) ≡ PairHead m) ⊎ ((i : ℕ) × (k.role (k.at m) ≡ Cell m i)) → (is_ref n x ≡ true) ⊎ (is_ref n y ≡ true) → in_use s n
      at_cons x y e (inl h) (inl q) = part_used (W (k.at m)).content _ x n (head_fits W regions k s R m (k.at m) h).car (ap car_of e) q
      at_cons x y e (inl h) (inr q) = part_used (W (suc (k.at m))).content _ y n (tail_fits W regions k s R m (k.at m) h).cdr (ap cdr_of e) q
      at_cons x y e (inr h) (inl q) = part_used (W (k.at m)).content _ x n (cell_fits W regions k s R m (k.at m) h.0 h.1).car (ap car_of e) q
      at_cons x y e (inr h) (inr q) = cdr_used (k.at m) h.0 _ (W (k.at m)).cdr y n (cell_fits W regions k s R m (k.at m) h.0 h.1).cdr (ap cdr_of e) q

      at_block : (code : ℕ) (fields : List Value) → (object s m).body ≡ Block code fields → k.role (k.at m) ≡ Head m → (i : ℕ) × (v : Value) × (slice_get fields i ≡ Some v) × (is_ref n v ≡ true) → in_use s n
      at_block code fields e h q =
          let f = block_fits W regions k s R m (k.at m) h in
          let field : field_of (object s m).body q.0 ≡ Some q.1 = ap (λ (b : Body). field_of b q.0) e ∙ q.2 in
          part_used (W (suc (k.at m) + q.0)).content _ q.1 n (field_fits W regions k s R m (k.at m) h q.0 (field_within (object s m).body q.0 f.kind f.size q.1 f.header field)).value field q.3

      go : (b : Body) → (object s m).body ≡ b → Begins (kind_of b) (k.role (k.at m)) m → body_refers n b ≡ true → in_use s n
      go (Cons x y) e h q = at_cons x y e h (or_cases (is_ref n x) (is_ref n y) q)
      go (Block code fields) e h q = at_block code fields e h (refers_which n fields q)

-- with the registers' values, the held names are closed
pub held_closed : (g : Image) (k : RoleMap) (s : State) → MachineInvariant g k s → Closed (graph_of s) (is_held s.store)
held_closed g k s h = record {
  from_registers = λ n e. (let q = refers_which n s.registers e in
      let l = Rattle.std.proofs.lemmas.Option.slice_get_within s.registers q.0 q.1 q.2 in
      let v = Rattle.std.proofs.lemmas.Option.get_or_from_slice_get s.registers q.0 q.1 V.Nil q.2 in
      value_used (word g) (classes g) k s.store h.kept.roled (get_or g.registers q.0 null_word).content q.1 n (h.registers q.0 l ∙ ap (λ (x : Value). Some x) v) q.3);
  from_objects = λ m n l u e. object_refers (word g) (classes g) k s.store h.kept.roled m n u e;
}

-- Reclaim

-- what happens to the state: the names in old regions are freed, and what was moved has its survivor's level
pub record Settled (g : Image) (k : RoleMap) (top : ℕ) (s s' : Store) (aim : Condemned) : Type 0 where
  pub objects : s'.objects ≡ s.objects
  pub husks : (x y : ℕ) → s'.husks x y ≡ s.husks x y
  pub gone : (n : ℕ) → is_old_at (classes g) (k.at n) ≡ true → s'.held n ≡ None
  pub unheld : (n : ℕ) → s.held n ≡ None → s'.held n ≡ None
  pub spared : (n level : ℕ) → s.held n ≡ Some level → aim.condemned n ≡ false → is_old_at (classes g) (k.at n) ≡ false → s'.held n ≡ Some level
  pub moved : (n level : ℕ) → s.held n ≡ Some level → aim.condemned n ≡ true → is_old_at (classes g) (k.at n) ≡ false → s'.held n ≡ Some (survivor top aim.what level)

module _ (g g' : Image) (it : Interpretation) (s' : Store) (h : MemoryInvariant g it) (t : TableFreed g g') (d : Settled g it.map it.top it.store s' it.aim)
    (fresh : (a b : ℕ) (v : Value) → is_old_at (classes g) a ≡ false → value_of it.map.role (word g a).content ≡ Some v → address_of (word g a).content ≡ Some b → is_old_at (classes g) b ≡ false) where
  object_same : (n : ℕ) → object s' n ≡ object it.store n
  object_same n = ap (λ (os : List Object). get_or os n no_object) d.objects

  stays : (n : ℕ) → in_use it.store n → is_old_at (classes g) (it.map.at n) ≡ false → in_use s' n
  stays n u e = go (it.store.held n) refl u (cases_Bool (it.aim.condemned n))
    where
      go : (o : Option ℕ) → it.store.held n ≡ o → IsTrue (is_some o) → (it.aim.condemned n ≡ true) ⊎ (it.aim.condemned n ≡ false) → in_use s' n
      go None z u c = absurd (let x : false ≡ true = u in cc)
      go (Some l) z u (inl c) = ap is_some (d.moved n l z c e)
      go (Some l) z u (inr c) = ap is_some (d.spared n l z c e)

  were : (n : ℕ) → in_use s' n → in_use it.store n × (is_old_at (classes g) (it.map.at n) ≡ false)
  were n u = (held (it.store.held n) refl, live (cases_Bool (is_old_at (classes g) (it.map.at n))))
    where
      held : (o : Option ℕ) → it.store.held n ≡ o → in_use it.store n
      held None z = let x = ap is_some (d.unheld n z) in let y : is_some (s'.held n) ≡ true = u in cc
      held (Some l) z = ap is_some z

      live : (is_old_at (classes g) (it.map.at n) ≡ true) ⊎ (is_old_at (classes g) (it.map.at n) ≡ false) → is_old_at (classes g) (it.map.at n) ≡ false
      live (inl z) = let x = ap is_some (d.gone n z) in let y : is_some (s'.held n) ≡ true = u in cc
      live (inr z) = z

  roled : Roled (word g') (classes g') (dropped (classes g) it.map) s'
  roled =
      let P : (ℕ → Parts) → Type 0 = λ W. Roled W (classes g') (dropped (classes g) it.map) s' in
      let Q : (ℕ → Class) → Type 0 = λ C. Roled (cleared (classes g) (word g)) C (dropped (classes g) it.map) s' in
      subst P (λ i a. sym (t.words a) i) (subst Q (λ i r. sym (t.classes_free r) i) (drop (word g) (classes g) it.map it.store s' h.roled fresh object_same stays were))

  role_stays : (a : ℕ) → is_old_at (classes g) a ≡ false → (dropped (classes g) it.map).role a ≡ it.map.role a
  role_stays a e = ap (λ (b : Bool). if b then Blank else it.map.role a) e

  role_gone : (a : ℕ) → is_old_at (classes g) a ≡ true → (dropped (classes g) it.map).role a ≡ Blank
  role_gone a e = ap (λ (b : Bool). if b then Blank else it.map.role a) e

  class_stays : (a : ℕ) → is_old_at (classes g) a ≡ false → class_at (classes g') a ≡ class_at (classes g) a
  class_stays a e = t.classes_free (region_of a) ∙ ap (λ (b : Bool). if b then free_class else class_at (classes g) a) e

  class_gone : (a : ℕ) → is_old_at (classes g) a ≡ true → class_at (classes g') a ≡ free_class
  class_gone a e = t.classes_free (region_of a) ∙ ap (λ (b : Bool). if b then free_class else class_at (classes g) a) e

  covered : Covered g' (dropped (classes g) it.map)
  covered = record {
    used = λ a u e. used a u e (cases_Bool (is_old_at (classes g) a));
    unused = λ a u. unused a u (cases_Bool (is_old_at (classes g) a));
    free = λ a u. free a u (cases_Bool (is_old_at (classes g) a));
    done = λ a e. done a e (cases_Bool (is_old_at (classes g) a));
  }
    where
      used : (a : ℕ) → IsTrue (is_used g' a) → (dropped (classes g) it.map).role a ≡ Blank → (is_old_at (classes g) a ≡ true) ⊎ (is_old_at (classes g) a ≡ false) → ⊥
      used a u e (inl o) = let x = t.used_old a o in let y : is_used g' a ≡ true = u in cc
      used a u e (inr o) = h.covered.used a (sym (t.used_live a o) ∙ u) (sym (role_stays a o) ∙ e)

      unused : (a : ℕ) → is_used g' a ≡ false → (is_old_at (classes g) a ≡ true) ⊎ (is_old_at (classes g) a ≡ false) → (dropped (classes g) it.map).role a ≡ Blank
      unused a u (inl o) = role_gone a o
      unused a u (inr o) = role_stays a o ∙ h.covered.unused a (sym (t.used_live a o) ∙ u)

      free : (a : ℕ) → is_free (region g' a).standing ≡ true → (is_old_at (classes g) a ≡ true) ⊎ (is_old_at (classes g) a ≡ false) → (dropped (classes g) it.map).role a ≡ Blank
      free a u (inl o) = role_gone a o
      free a u (inr o) = role_stays a o ∙ h.covered.free a (sym (ap (λ (c : Class). is_free c.standing) (class_stays a o)) ∙ u)

      done : (a : ℕ) → (dropped (classes g) it.map).role a ≡ Scratch → (is_old_at (classes g) a ≡ true) ⊎ (is_old_at (classes g) a ≡ false) → ⊥
      done a e (inl o) = let x = role_gone a o in cc
      done a e (inr o) = h.covered.done a (sym (role_stays a o) ∙ e)

  -- the level that a name is held at is that of its place
  level_now : (n l : ℕ) → s'.held n ≡ Some l → ((region g' (it.map.at n)).standing ≡ Live) × ((region g' (it.map.at n)).level ≡ l)
  level_now n l e = go (it.store.held n) refl (cases_Bool (it.aim.condemned n))
    where
      q : in_use it.store n × (is_old_at (classes g) (it.map.at n) ≡ false)
      q = were n (ap is_some e)

      r : class_at (classes g') (it.map.at n) ≡ class_at (classes g) (it.map.at n)
      r = class_stays (it.map.at n) q.1

      give : (l0 : ℕ) → (region g (it.map.at n)).standing ≡ Live → (region g (it.map.at n)).level ≡ l0 → s'.held n ≡ Some l0 → ((region g' (it.map.at n)).standing ≡ Live) × ((region g' (it.map.at n)).level ≡ l)
      give l0 x y z = (ap (λ (c : Class). c.standing) r ∙ x, ap (λ (c : Class). c.level) r ∙ y ∙ (let v : Some l0 ≡ Some l = sym z ∙ e in let u : l0 ≡ l = cc in u))

      go : (o : Option ℕ) → it.store.held n ≡ o → (it.aim.condemned n ≡ true) ⊎ (it.aim.condemned n ≡ false) → ((region g' (it.map.at n)).standing ≡ Live) × ((region g' (it.map.at n)).level ≡ l)
      go None z c = let x = d.unheld n z in cc
      go (Some l0) z (inr c) = let x = h.classes_of.spared n l0 z c in give l0 x.0 x.1 (d.spared n l0 z c q.1)
      go (Some l0) z (inl c) = doomed (h.classes_of.doomed n l0 z c)
        where
          doomed : (((region g (it.map.at n)).standing ≡ Old) × ((region g (it.map.at n)).level ≡ l0)) ⊎ (((region g (it.map.at n)).standing ≡ Live) × ((region g (it.map.at n)).level ≡ survivor it.top it.aim.what l0) × (it.aim.bound n ≡ true))
              → ((region g' (it.map.at n)).standing ≡ Live) × ((region g' (it.map.at n)).level ≡ l)
          doomed (inl x) = let y = ap is_old x.0 in let v = q.1 in cc
          doomed (inr x) = give (survivor it.top it.aim.what l0) x.0 x.1 (d.moved n l0 z c q.1)

  held_now : (n : ℕ) → is_old_at (classes g) (it.map.at n) ≡ false → is_held s' n ≡ is_held it.store n
  held_now n e = go (cases_Bool (is_held it.store n)) (cases_Bool (is_held s' n))
    where
      go : (is_held it.store n ≡ true) ⊎ (is_held it.store n ≡ false) → (is_held s' n ≡ true) ⊎ (is_held s' n ≡ false) → is_held s' n ≡ is_held it.store n
      go (inl u) v = stays n u e ∙ sym u
      go (inr u) (inl v) = v ∙ sym (let y : is_held it.store n ≡ true = (were n v).0 in y)
      go (inr u) (inr v) = v ∙ sym u

  live_same : (x y n : ℕ) → (is_held s' n && in_class x y n (class_at (classes g') (it.map.at n))) ≡ (is_held it.store n && in_class x y n (class_at (classes g) (it.map.at n)))
  live_same x y n = go (cases_Bool (is_old_at (classes g) (it.map.at n)))
    where
      no_more : (b : Bool) → (b && false) ≡ false
      no_more true = refl
      no_more false = refl

      old_not : (st : Standing) (b : Bool) → is_old st ≡ true → (is_live st && b) ≡ false
      old_not Old b e = refl
      old_not Live b e = cc
      old_not Free b e = cc

      go : (is_old_at (classes g) (it.map.at n) ≡ true) ⊎ (is_old_at (classes g) (it.map.at n) ≡ false) → (is_held s' n && in_class x y n (class_at (classes g') (it.map.at n))) ≡ (is_held it.store n && in_class x y n (class_at (classes g) (it.map.at n)))
      go (inr e) = ap (λ (b : Bool). b && in_class x y n (class_at (classes g') (it.map.at n))) (held_now n e) ∙ ap (λ (c : Class). is_held it.store n && in_class x y n c) (class_stays (it.map.at n) e)
      go (inl e) =
          ap (λ (c : Class). is_held s' n && in_class x y n c) (class_gone (it.map.at n) e) ∙ no_more (is_held s' n)
          ∙ sym (ap (λ (b : Bool). is_held it.store n && b) (old_not (class_at (classes g) (it.map.at n)).standing (nat_eq (class_at (classes g) (it.map.at n)).area x && nat_eq (class_at (classes g) (it.map.at n)).level y) e) ∙ no_more (is_held it.store n))

  live_sum : (x y : ℕ) → charges_in s' it.map.at (classes g') (in_class x y) ≡ charges_in it.store it.map.at (classes g) (in_class x y)
  live_sum x y = charges_same it.store s' it.map.at it.map.at (classes g) (classes g') (in_class x y) (in_class x y) (ap (λ (os : List Object). length os) d.objects) object_same (live_same x y)

  old_sum : (x y : ℕ) → charges_in s' it.map.at (classes g') (in_old_class x y) ≡ 0
  old_sum x y = total-none (charge_in s' it.map.at (classes g') (in_old_class x y)) (length s'.objects) (λ n l. go n (s'.held n) refl)
    where
      go : (n : ℕ) (o : Option ℕ) → s'.held n ≡ o → charge_in s' it.map.at (classes g') (in_old_class x y) n ≡ 0
      go n None e = ap (λ (q : Option ℕ). if_true (is_some q && in_old_class x y n (class_at (classes g') (it.map.at n))) (object s' n).charge) e
      go n (Some l0) e =
          let v = (level_now n l0 e).0 in
          ap (λ (q : Option ℕ). if_true (is_some q && in_old_class x y n (class_at (classes g') (it.map.at n))) (object s' n).charge) e
          ∙ ap (λ (q : Standing). if_true (is_old q && (nat_eq (class_at (classes g') (it.map.at n)).area x && nat_eq (class_at (classes g') (it.map.at n)).level y)) (object s' n).charge) v

  spares_same : (x y : ℕ) → spares_in s' (dropped (classes g) it.map) (classes g') (in_class x y) ≡ spares_in it.store it.map (classes g) (in_class x y)
  spares_same x y =
      ap (total (spare_in s' (dropped (classes g) it.map) (classes g') (in_class x y))) (ap (λ (os : List Object). length os) d.objects)
      ∙ total-cong (spare_in s' (dropped (classes g) it.map) (classes g') (in_class x y)) (spare_in it.store it.map (classes g) (in_class x y)) (length it.store.objects) (λ n l. go n (cases_Bool (is_old_at (classes g) (it.map.at n))))
    where
      assoc : (a b c : Bool) → (a && (b && c)) ≡ ((a && b) && c)
      assoc true b c = refl
      assoc false b c = refl

      no_cell : (b c d : Bool) → b ≡ false → (b && c) ≡ (b && d)
      no_cell true c d e = cc
      no_cell false c d e = refl

      no_more : (b : Bool) → (b && false) ≡ false
      no_more true = refl
      no_more false = refl

      go : (n : ℕ) → (is_old_at (classes g) (it.map.at n) ≡ true) ⊎ (is_old_at (classes g) (it.map.at n) ≡ false) → spare_in s' (dropped (classes g) it.map) (classes g') (in_class x y) n ≡ spare_in it.store it.map (classes g) (in_class x y) n
      go n (inr e) =
          ap (λ (b : Bool). if_true b 2) (assoc (is_held s' n) (in_class x y n (class_at (classes g') (it.map.at n))) (is_cell ((dropped (classes g) it.map).role (it.map.at n))))
          ∙ ap (λ (b : Bool). if_true (b && is_cell ((dropped (classes g) it.map).role (it.map.at n))) 2) (live_same x y n)
          ∙ ap (λ (r : Role). if_true ((is_held it.store n && in_class x y n (class_at (classes g) (it.map.at n))) && is_cell r) 2) (role_stays (it.map.at n) e)
          ∙ sym (ap (λ (b : Bool). if_true b 2) (assoc (is_held it.store n) (in_class x y n (class_at (classes g) (it.map.at n))) (is_cell (it.map.role (it.map.at n)))))
      go n (inl e) =
          let dead : (is_held s' n && in_class x y n (class_at (classes g') (it.map.at n))) ≡ false = ap (λ (c : Class). is_held s' n && in_class x y n c) (class_gone (it.map.at n) e) ∙ no_more (is_held s' n) in
          ap (λ (b : Bool). if_true b 2) (assoc (is_held s' n) (in_class x y n (class_at (classes g') (it.map.at n))) (is_cell ((dropped (classes g) it.map).role (it.map.at n))))
          ∙ ap (λ (b : Bool). if_true b 2) (no_cell (is_held s' n && in_class x y n (class_at (classes g') (it.map.at n))) (is_cell ((dropped (classes g) it.map).role (it.map.at n))) (is_cell (it.map.role (it.map.at n))) dead)
          ∙ ap (λ (b : Bool). if_true (b && is_cell (it.map.role (it.map.at n))) 2) (live_same x y n)
          ∙ sym (ap (λ (b : Bool). if_true b 2) (assoc (is_held it.store n) (in_class x y n (class_at (classes g) (it.map.at n))) (is_cell (it.map.role (it.map.at n)))))

  account_less : (a : ℕ) → account it.top s' no_aim a ≤ account it.top it.store it.aim a
  account_less a =
      let x = total-cong (s'.husks a) (it.store.husks a) (suc it.top) (λ l q. d.husks a l) in
      let y : charges s' (λ n. is_held s' n && per_area s' a n) ≡ total (λ n. if_true (is_held s' n && per_area it.store a n) (object it.store n).charge) (length it.store.objects) =
      ap (total (λ n. if_true (is_held s' n && per_area s' a n) (object s' n).charge)) (ap (λ (os : List Object). length os) d.objects)
      ∙ total-cong (λ n. if_true (is_held s' n && per_area s' a n) (object s' n).charge) (λ n. if_true (is_held s' n && per_area it.store a n) (object it.store n).charge) (length it.store.objects)
      (λ n l. ap (λ (o : Object). if_true (is_held s' n && nat_eq o.area a) o.charge) (object_same n)) in
      let z = total-le (λ n. if_true (is_held s' n && per_area it.store a n) (object it.store n).charge) (λ n. if_true (is_held it.store n && per_area it.store a n) (object it.store n).charge) (length it.store.objects)
      (λ n l. less n (cases_Bool (is_held s' n))) in
      omega arith
    where
      less : (n : ℕ) → (is_held s' n ≡ true) ⊎ (is_held s' n ≡ false) → if_true (is_held s' n && per_area it.store a n) (object it.store n).charge ≤ if_true (is_held it.store n && per_area it.store a n) (object it.store n).charge
      less n (inl u) = let e : is_held s' n ≡ is_held it.store n = u ∙ sym (let v : is_held it.store n ≡ true = (were n u).0 in v) in let q = ap (λ (b : Bool). if_true (b && per_area it.store a n) (object it.store n).charge) e in omega arith
      less n (inr u) = let q = ap (λ (b : Bool). if_true (b && per_area it.store a n) (object it.store n).charge) u in omega arith

  no_new : NoNewHusks (classes g) (classes g') it.map (dropped (classes g) it.map)
  no_new = record { was = λ a e l. was a e (cases_Bool (is_old_at (classes g) a)) }
    where
      was : (a : ℕ) → is_of_husk ((dropped (classes g) it.map).role a) ≡ true → (is_old_at (classes g) a ≡ true) ⊎ (is_old_at (classes g) a ≡ false)
          → (is_of_husk (it.map.role a) ≡ true) × (class_at (classes g') a ≡ class_at (classes g) a)
      was a e (inl o) = let x = ap is_of_husk (role_gone a o) in cc
      was a e (inr o) = (ap is_of_husk (sym (role_stays a o)) ∙ e, class_stays a o)

  pub kept_reclaimed : MemoryInvariant g' (record it { map = dropped (classes g) it.map; store = s'; aim = no_aim })
  kept_reclaimed = record {
    roled = roled;
    covered = covered;
    names = λ n u. (let x = h.names n (were n u).0 in let y = ap (λ (os : List Object). length os) d.objects in omega arith);
    condemned = λ n e. (let x : false ≡ true = e in cc);
    bound = λ n e. (let x : false ≡ true = e in cc);
    classes_of = record {
      area = λ n u. (let q = were n u in ap (λ (c : Class). c.area) (class_stays (it.map.at n) q.1) ∙ h.classes_of.area n q.0 ∙ sym (ap (λ (o : Object). o.area) (object_same n)));
      spared = λ n l e x. level_now n l e;
      doomed = λ n l e x. cc;
    };
    levels = λ n u. (let q = were n u in let r = ap (λ (c : Class). c.level) (class_stays (it.map.at n) q.1) in let x = h.levels n q.0 in omega arith);
    live_charges = λ x y. t.live_charge x y ∙ h.live_charges x y ∙ sym (live_sum x y);
    old_charges = λ x y. t.old_charge x y ∙ sym (old_sum x y);
    live_husks = λ x y. t.live_husks x y ∙ h.live_husks x y ∙ sym (d.husks x y);
    old_husks = λ x. total-none (g'.old_husks x) (suc it.top) (λ y l. t.old_husks x y);
    quota = λ a l. (let x = h.quota a l in let y = account_less a in omega arith);
    room_live = λ x y. (let a = h.room_live x y in let b = t.live_words x y in let c = t.live_charge x y in let e = t.live_husks x y in let q = spares_same x y in omega arith);
    room_husks = λ x y i. (let a = husks_stay (classes g) (classes g') it.map (dropped (classes g) it.map) no_new x y i in let b = h.room_husks x y i in let c = t.live_husks x y in omega arith);
    room_old = λ x. (let a = t.old_words x in omega arith);
    chains = t.chains;
    marks = t.marks;
  }
