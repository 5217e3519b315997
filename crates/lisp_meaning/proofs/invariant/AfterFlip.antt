-- The invariant after a flip.
use Rattle.std.specs.Prelude.{List}
use Rattle.std.proofs.Common.{◌≡◌, ℕ, suc, ◌+◌, ◌<◌, ◌≤◌, ◌⊎◌, inl, inr, Bool, true, false, ◌&&◌, not, if◌then◌else◌, refl, sym, ◌∙◌, ap, subst, arith, Option, Some, None, length, nat_eq, IsTrue}
use Rattle.std.specs.Prelude.{is_some}
use Rattle.std.proofs.lemmas.Bool.{cases_Bool, and_parts, eqb-true}
use Rattle.lisp_graph.specs.declared.world.AreaRule.{AreaRule}
use Rattle.lisp_meaning.specs.machine.Charges.{account}
use Rattle.lisp_meaning.specs.invariants.ChargesIn.{charge_in, charges_in, spare_in, spares_in, is_cell, is_of_husk, husk_word_in}
use Rattle.lisp_meaning.specs.reading.Classes.{Class, class_at, is_old_at, in_class, in_old_class, classes, of_class}
use Rattle.lisp_meaning.specs.invariants.Fits.{Roled}
use Rattle.lisp_meaning.specs.reading.Image.{Image, word, region, is_free, used_words, Standing, Live, Old, Free, is_live, is_old}
use Rattle.lisp_meaning.specs.invariants.Invariant.{MemoryInvariant}
use Rattle.lisp_meaning.specs.invariants.Interpretation.{Interpretation}
use Rattle.lisp_meaning.specs.machine.State.{Store, Condemned, no_aim, object, is_held, in_use}
use Rattle.lisp_meaning.specs.keeping.TableChanges.{condemned_class, TableFlipped}
use Rattle.lisp_graph.specs.store_word.Words.{Parts}
use Rattle.lisp_graph.specs.Totals.{total, if_true}
use Rattle.lisp_graph.proofs.Totals.{total-cong, total-add}
use Rattle.lisp_meaning.proofs.sums.Charges.{total-none}
use Rattle.lisp_meaning.proofs.sums.Accounts.{charges_same}
use Rattle.lisp_meaning.proofs.reading.Husks.{husks_stay}
use Rattle.lisp_meaning.proofs.roles.RegionChanges.{condemned}
use Rattle.lisp_meaning.proofs.layout.Stores.{restored}
use Rattle.lisp_meaning.proofs.sums.FlipSums.{room_at_flip, live_after_flip, after_live}

-- what a class becomes
class_free : (test : ℕ → ℕ → Bool) (c : Class) → is_free (condemned_class test c).standing ≡ is_free c.standing
class_free test c = go (cases_Bool (is_live c.standing && test c.area c.level))
  where
    live_free : (st : Standing) → is_live st ≡ true → is_free st ≡ false
    live_free Live e = refl
    live_free Old e = cc
    live_free Free e = cc

    go : ((is_live c.standing && test c.area c.level) ≡ true) ⊎ ((is_live c.standing && test c.area c.level) ≡ false) → is_free (condemned_class test c).standing ≡ is_free c.standing
    go (inl e) = ap (λ (b : Bool). is_free (if b then record c { standing = Old } else c).standing) e ∙ sym (live_free c.standing (and_parts (is_live c.standing) (test c.area c.level) e).0)
    go (inr e) = ap (λ (b : Bool). is_free (if b then record c { standing = Old } else c).standing) e

class_doomed : (test : ℕ → ℕ → Bool) (c : Class) → c.standing ≡ Live → test c.area c.level ≡ true → condemned_class test c ≡ record c { standing = Old }
class_doomed test c e t = ap (λ (b : Bool). if b && test c.area c.level then record c { standing = Old } else c) (ap is_live e) ∙ ap (λ (b : Bool). if b then record c { standing = Old } else c) t

class_spared : (test : ℕ → ℕ → Bool) (c : Class) → c.standing ≡ Live → test c.area c.level ≡ false → condemned_class test c ≡ c
class_spared test c e t = ap (λ (b : Bool). if b && test c.area c.level then record c { standing = Old } else c) (ap is_live e) ∙ ap (λ (b : Bool). if b then record c { standing = Old } else c) t

-- a class that is live after it was live before, and the same
still_live : (test : ℕ → ℕ → Bool) (c : Class) → is_live (condemned_class test c).standing ≡ true → condemned_class test c ≡ c
still_live test c l = go (cases_Bool (is_live c.standing && test c.area c.level))
  where
    go : ((is_live c.standing && test c.area c.level) ≡ true) ⊎ ((is_live c.standing && test c.area c.level) ≡ false) → condemned_class test c ≡ c
    go (inl e) = let z = ap (λ (b : Bool). is_live (if b then record c { standing = Old } else c).standing) e in cc
    go (inr e) = ap (λ (b : Bool). if b then record c { standing = Old } else c) e

-- and is none that is condemned
none_live : (test : ℕ → ℕ → Bool) (x y n : ℕ) (c : Class) → test x y ≡ true → in_class x y n (condemned_class test c) ≡ false
none_live test x y n c t = go (cases_Bool (is_live c.standing && test c.area c.level)) (cases_Bool (in_class x y n c))
  where
    go : ((is_live c.standing && test c.area c.level) ≡ true) ⊎ ((is_live c.standing && test c.area c.level) ≡ false) → (in_class x y n c ≡ true) ⊎ (in_class x y n c ≡ false) → in_class x y n (condemned_class test c) ≡ false
    go (inl e) f = ap (λ (b : Bool). in_class x y n (if b then record c { standing = Old } else c)) e
    go (inr e) (inr f) = ap (λ (b : Bool). in_class x y n (if b then record c { standing = Old } else c)) e ∙ f
    go (inr e) (inl f) =
        let p = and_parts (is_live c.standing) (nat_eq c.area x && nat_eq c.level y) f in
        let q = and_parts (nat_eq c.area x) (nat_eq c.level y) p.1 in
        let u : test c.area c.level ≡ true = ap (λ (i : ℕ). test i c.level) (eqb-true c.area x q.0) ∙ ap (test x) (eqb-true c.level y q.1) ∙ t in
        let v : (is_live c.standing && test c.area c.level) ≡ true = ap (λ (b : Bool). b && test c.area c.level) p.0 ∙ u in
        cc

no_more : (b : Bool) → (b && false) ≡ false
no_more true = refl
no_more false = refl

after_old : (test : ℕ → ℕ → Bool) (x y n : ℕ) (held : Bool) (c : Class) → (held ≡ true → c.standing ≡ Live) → (held && in_old_class x y n (condemned_class test c)) ≡ (held && (test x y && in_class x y n c))
after_old test x y n false c live = refl
after_old test x y n true c live = go (cases_Bool (test c.area c.level)) (cases_Bool (nat_eq c.area x && nat_eq c.level y))
  where
    st : c.standing ≡ Live
    st = live refl

    right : (b : Bool) → in_class x y n c ≡ b → (test x y && in_class x y n c) ≡ (test x y && b)
    right b e = ap (λ (q : Bool). test x y && q) e

    same : in_class x y n c ≡ (nat_eq c.area x && nat_eq c.level y)
    same = ap (λ (q : Standing). is_live q && (nat_eq c.area x && nat_eq c.level y)) st

    go : (test c.area c.level ≡ true) ⊎ (test c.area c.level ≡ false) → ((nat_eq c.area x && nat_eq c.level y) ≡ true) ⊎ ((nat_eq c.area x && nat_eq c.level y) ≡ false)
        → in_old_class x y n (condemned_class test c) ≡ (test x y && in_class x y n c)
    go (inl t) (inr z) = ap (in_old_class x y n) (class_doomed test c st t) ∙ z ∙ sym (right false (same ∙ z) ∙ no_more (test x y))
    go (inr t) (inr z) = ap (in_old_class x y n) (class_spared test c st t) ∙ ap (λ (q : Standing). is_old q && (nat_eq c.area x && nat_eq c.level y)) st ∙ sym (right false (same ∙ z) ∙ no_more (test x y))
    go (inl t) (inl z) =
        let p = and_parts (nat_eq c.area x) (nat_eq c.level y) z in
        let u : test x y ≡ true = ap (λ (i : ℕ). test i y) (sym (eqb-true c.area x p.0)) ∙ ap (test c.area) (sym (eqb-true c.level y p.1)) ∙ t in
        ap (in_old_class x y n) (class_doomed test c st t) ∙ z ∙ sym (ap (λ (b : Bool). b && in_class x y n c) u ∙ same ∙ z)
    go (inr t) (inl z) =
        let p = and_parts (nat_eq c.area x) (nat_eq c.level y) z in
        let u : test x y ≡ false = ap (λ (i : ℕ). test i y) (sym (eqb-true c.area x p.0)) ∙ ap (test c.area) (sym (eqb-true c.level y p.1)) ∙ t in
        ap (in_old_class x y n) (class_spared test c st t) ∙ ap (λ (q : Standing). is_old q && (nat_eq c.area x && nat_eq c.level y)) st ∙ sym (ap (λ (b : Bool). b && in_class x y n c) u)

-- husks that are condemned are counted as gone: a flip changes no account
pub account_flipped : (top : ℕ) (areas : List AreaRule) (s : Store) (husks : ℕ → ℕ → ℕ) (aim : Condemned) (test : ℕ → ℕ → Bool) → ((x y : ℕ) → husks x y ≡ if_true (not (test x y)) (s.husks x y))
    → ((x : ℕ) → aim.gone x ≡ total (λ y. if_true (test x y) (s.husks x y)) (suc top)) → (a : ℕ) → account top (record s { husks = husks }) aim a ≡ account top s no_aim a
account_flipped top areas s husks aim test live gone a =
    let x = total-cong (husks a) (λ y. if_true (not (test a y)) (s.husks a y)) (suc top) (λ y l. live a y) in
    let y = total-add (λ y. if_true (not (test a y)) (s.husks a y)) (λ y. if_true (test a y) (s.husks a y)) (suc top) in
    let z = total-cong (λ y. if_true (not (test a y)) (s.husks a y) + if_true (test a y) (s.husks a y)) (s.husks a) (suc top) (λ y l. both (test a y) (s.husks a y)) in
    let v = gone a in
    omega arith
  where
    both : (t : Bool) (h : ℕ) → if_true (not t) h + if_true t h ≡ h
    both true h = omega arith
    both false h = omega arith

module _ (g g' : Image) (it : Interpretation) (h : MemoryInvariant g (record it { aim = no_aim })) (test : ℕ → ℕ → Bool) (t : TableFlipped g g' it.top test)
    (husks : ℕ → ℕ → ℕ) (aim : Condemned) (none : (a : ℕ) → is_old_at (classes g) a ≡ false)
    (husks_live : (x y : ℕ) → husks x y ≡ if_true (not (test x y)) (it.store.husks x y))
    (gone : (x : ℕ) → aim.gone x ≡ total (λ y. if_true (test x y) (it.store.husks x y)) (suc it.top))
    (condemns : (n : ℕ) → aim.condemned n ≡ (is_held it.store n && test (class_at (classes g) (it.map.at n)).area (class_at (classes g) (it.map.at n)).level))
    (bound : (n : ℕ) → IsTrue (aim.bound n) → in_use it.store n) where
  live : (n : ℕ) → in_use it.store n → (class_at (classes g) (it.map.at n)).standing ≡ Live
  live n u = go (it.store.held n) refl u
    where
      go : (o : Option ℕ) → it.store.held n ≡ o → IsTrue (is_some o) → (class_at (classes g) (it.map.at n)).standing ≡ Live
      go None z u = absurd (let x : false ≡ true = u in cc)
      go (Some l) z u = (h.classes_of.spared n l z refl).0

  at_home : (n : ℕ) → in_use it.store n → ((class_at (classes g) (it.map.at n)).area ≡ (object it.store n).area) × ((class_at (classes g) (it.map.at n)).level < suc it.top) × ((class_at (classes g) (it.map.at n)).standing ≡ Live)
  at_home n u = (h.classes_of.area n u, h.levels n u, live n u)

  same_classes : classes g' ≡ (λ i. condemned_class test (classes g i))
  same_classes = λ i r. (t.classes_old r) i

  roled : Roled (word g') (classes g') it.map (record it.store { husks = husks })
  roled =
      let P : (ℕ → Parts) → Type 0 = λ W. Roled W (classes g') it.map (record it.store { husks = husks }) in
      let Q : (ℕ → Class) → Type 0 = λ C. Roled (word g) C it.map (record it.store { husks = husks }) in
      let c' = restored (word g) (λ i. condemned_class test (classes g i)) it.map it.store (record it.store { husks = husks }) (λ n. refl) (λ n u. u) (λ n u. u) (condemned (word g) (classes g) it.map it.store h.roled none (condemned_class test)) in
      subst P (λ i a. sym (t.words a) i) (subst Q (sym same_classes) c')

  free_same : (a : ℕ) → is_free (region g' a).standing ≡ is_free (region g a).standing
  free_same a = ap (λ (c : Class). is_free c.standing) (t.classes_old (Rattle.lisp_meaning.specs.reading.Classes.region_of a)) ∙ class_free test (class_at (classes g) a)

  class_now : (n : ℕ) → class_at (classes g') (it.map.at n) ≡ condemned_class test (class_at (classes g) (it.map.at n))
  class_now n = t.classes_old (Rattle.lisp_meaning.specs.reading.Classes.region_of (it.map.at n))

  test_false : (n : ℕ) → in_use it.store n → aim.condemned n ≡ false → test (class_at (classes g) (it.map.at n)).area (class_at (classes g) (it.map.at n)).level ≡ false
  test_false n u e = sym (ap (λ (b : Bool). b && test (class_at (classes g) (it.map.at n)).area (class_at (classes g) (it.map.at n)).level) u) ∙ sym (condemns n) ∙ e

  spares_after : (x y : ℕ) → spares_in (record it.store { husks = husks }) it.map (classes g') (in_class x y) ≡ if_true (not (test x y)) (spares_in it.store it.map (classes g) (in_class x y))
  spares_after x y = total-cong (spare_in (record it.store { husks = husks }) it.map (classes g') (in_class x y)) (spare_in it.store it.map (classes g) (λ n c. not (test x y) && in_class x y n c)) (length it.store.objects) (λ n l. each n) ∙ last (test x y)
    where
      assoc : (a b c : Bool) → (a && (b && c)) ≡ ((a && b) && c)
      assoc true b c = refl
      assoc false b c = refl

      each : (n : ℕ) → spare_in (record it.store { husks = husks }) it.map (classes g') (in_class x y) n ≡ spare_in it.store it.map (classes g) (λ n c. not (test x y) && in_class x y n c) n
      each n =
          ap (λ (c : Class). if_true (is_held it.store n && (in_class x y n c && is_cell (it.map.role (it.map.at n)))) 2) (class_now n)
          ∙ ap (λ (b : Bool). if_true b 2) (assoc (is_held it.store n) (in_class x y n (condemned_class test (class_at (classes g) (it.map.at n)))) (is_cell (it.map.role (it.map.at n))))
          ∙ ap (λ (b : Bool). if_true (b && is_cell (it.map.role (it.map.at n))) 2)
          (after_live it.store it.map.at (classes g) test aim.condemned (suc it.top) at_home condemns x y (is_held it.store n) (class_at (classes g) (it.map.at n)) (λ u. live n u) n)
          ∙ sym (ap (λ (b : Bool). if_true b 2) (assoc (is_held it.store n) (not (test x y) && in_class x y n (class_at (classes g) (it.map.at n))) (is_cell (it.map.role (it.map.at n)))))

      last : (t : Bool) → spares_in it.store it.map (classes g) (λ n c. not t && in_class x y n c) ≡ if_true (not t) (spares_in it.store it.map (classes g) (in_class x y))
      last false = refl
      last true = total-none (spare_in it.store it.map (classes g) (λ n c. false)) (length it.store.objects) (λ m l. zero_two (is_held it.store m))
        where
          zero_two : (b : Bool) → if_true (b && false) 2 ≡ 0
          zero_two true = refl
          zero_two false = refl

  old_after : (x y : ℕ) → charges_in (record it.store { husks = husks }) it.map.at (classes g') (in_old_class x y) ≡ if_true (test x y) (charges_in it.store it.map.at (classes g) (in_class x y))
  old_after x y =
      charges_same it.store (record it.store { husks = husks }) it.map.at it.map.at (classes g) (classes g') (λ n c. test x y && in_class x y n c) (in_old_class x y) refl (λ n. refl)
      (λ n. ap (λ (c : Class). is_held it.store n && in_old_class x y n c) (class_now n) ∙ after_old test x y n (is_held it.store n) (class_at (classes g) (it.map.at n)) (λ u. live n u))
      ∙ last (test x y)
    where
      last : (t : Bool) → charges_in it.store it.map.at (classes g) (λ n c. t && in_class x y n c) ≡ if_true t (charges_in it.store it.map.at (classes g) (in_class x y))
      last true = refl
      last false = total-none (charge_in it.store it.map.at (classes g) (λ n c. false)) (length it.store.objects) (λ m l. none_there (is_held it.store m) (object it.store m).charge)
        where
          none_there : (b : Bool) (c : ℕ) → if_true (b && false) c ≡ 0
          none_there true c = refl
          none_there false c = refl

  live_after : (x y : ℕ) → charges_in (record it.store { husks = husks }) it.map.at (classes g') (in_class x y) ≡ if_true (not (test x y)) (charges_in it.store it.map.at (classes g) (in_class x y))
  live_after x y =
      let P : (ℕ → Class) → Type 0 = λ C. charges_in it.store it.map.at C (in_class x y) ≡ if_true (not (test x y)) (charges_in it.store it.map.at (classes g) (in_class x y)) in
      subst P (sym same_classes) (live_after_flip it.store it.map.at (classes g) test aim.condemned (suc it.top) at_home condemns x y)

  -- the words of husks in condemned classes are old
  husks_after : (x y i : ℕ) → total (husk_word_in it.map (classes g') x y) i ≤ if_true (not (test x y)) (g.live_husks x y)
  husks_after x y i = go (cases_Bool (test x y))
    where
      became : (a : ℕ) → class_at (classes g') a ≡ condemned_class test (class_at (classes g) a)
      became a = t.classes_old (Rattle.lisp_meaning.specs.reading.Classes.region_of a)

      zero_one : (b : Bool) → if_true (b && false) 1 ≡ 0
      zero_one b = ap (λ (c : Bool). if_true c 1) (no_more b)

      go : (test x y ≡ true) ⊎ (test x y ≡ false) → total (husk_word_in it.map (classes g') x y) i ≤ if_true (not (test x y)) (g.live_husks x y)
      go (inl e) =
          let z = total-none (husk_word_in it.map (classes g') x y) i (λ a l.
          ap (λ (c : Class). if_true (is_of_husk (it.map.role a) && in_class x y a c) 1) (became a)
          ∙ ap (λ (b : Bool). if_true (is_of_husk (it.map.role a) && b) 1) (none_live test x y a (class_at (classes g) a) e) ∙ zero_one (is_of_husk (it.map.role a))) in
          omega arith
      go (inr e) =
          let a = husks_stay (classes g) (classes g') it.map it.map (record { was = λ a h l. (h, became a ∙ still_live test (class_at (classes g) a) (sym (ap (λ (c : Class). is_live c.standing) (became a)) ∙ l)) }) x y i in
          let b = h.room_husks x y i in
          let c : if_true (not (test x y)) (g.live_husks x y) ≡ g.live_husks x y = ap (λ (b : Bool). if_true (not b) (g.live_husks x y)) e in
          omega arith

  room : (b : Bool) (used spares charge husk : ℕ) → used + spares ≤ charge + husk → if_true b used + if_true b spares ≤ if_true b charge + if_true b husk
  room true used spares charge husk l = l
  room false used spares charge husk l = omega arith

  -- the whole invariant, while the collection runs
  pub kept_flipped : MemoryInvariant g' (record it { store = record it.store { husks = husks }; aim = aim })
  kept_flipped = record {
    roled = roled;
    covered = record {
      used = λ a u e. h.covered.used a (sym (t.used a) ∙ u) e;
      unused = λ a u. h.covered.unused a (sym (t.used a) ∙ u);
      free = λ a u. h.covered.free a (sym (free_same a) ∙ u);
      done = h.covered.done;
    };
    names = h.names;
    condemned = λ n e. (and_parts (is_held it.store n) (test (class_at (classes g) (it.map.at n)).area (class_at (classes g) (it.map.at n)).level) (sym (condemns n) ∙ e)).0;
    bound = bound;
    classes_of = record {
      area = λ n u. area_now n u (cases_Bool (aim.condemned n));
      spared = λ n l e x. (let r = class_now n ∙ class_spared test (class_at (classes g) (it.map.at n)) (live n (ap is_some e)) (test_false n (ap is_some e) x) in
          let v = h.classes_of.spared n l e refl in (ap (λ (c : Class). c.standing) r ∙ v.0, ap (λ (c : Class). c.level) r ∙ v.1));
      doomed = λ n l e x. inl (let v = h.classes_of.spared n l e refl in
          let r = class_now n ∙ class_doomed test (class_at (classes g) (it.map.at n)) v.0 (and_parts (is_held it.store n) (test (class_at (classes g) (it.map.at n)).area (class_at (classes g) (it.map.at n)).level) (sym (condemns n) ∙ x)).1 in
          (ap (λ (c : Class). c.standing) r, ap (λ (c : Class). c.level) r ∙ v.1));
    };
    levels = λ n u. level_now n u (cases_Bool (aim.condemned n));
    live_charges = λ x y. t.live_charge x y ∙ ap (if_true (not (test x y))) (h.live_charges x y) ∙ sym (live_after x y);
    old_charges = λ x y. t.old_charge x y ∙ ap (if_true (test x y)) (h.live_charges x y) ∙ sym (old_after x y);
    live_husks = λ x y. t.live_husks x y ∙ ap (if_true (not (test x y))) (h.live_husks x y) ∙ sym (husks_live x y);
    old_husks = λ x. total-cong (g'.old_husks x) (λ y. if_true (test x y) (it.store.husks x y)) (suc it.top) (λ y l. t.old_husks x y ∙ ap (if_true (test x y)) (h.live_husks x y)) ∙ sym (gone x);
    quota = λ a l. (let x = h.quota a l in let y = account_flipped it.top it.areas it.store husks aim test husks_live gone a in omega arith);
    room_live = λ x y. (let a = room (not (test x y)) (used_words g (of_class x y)) (spares_in it.store it.map (classes g) (in_class x y)) (g.live_charge x y) (g.live_husks x y) (h.room_live x y) in
        let b = t.live_words x y in let c = t.live_charge x y in let d = t.live_husks x y in let q = spares_after x y in omega arith);
    room_husks = λ x y i. (let a = husks_after x y i in let e = t.live_husks x y in omega arith);
    room_old = λ x. (let a = room_at_flip it.store it.map.at (classes g) test aim.condemned (suc it.top) at_home condemns x (λ y. used_words g (of_class x y)) (λ y. spares_in it.store it.map (classes g) (in_class x y)) (λ y. g.live_charge x y) (it.store.husks x)
        (λ y. (let r = h.room_live x y in let q = h.live_husks x y in omega arith)) (λ y. h.live_charges x y) in
        let b = t.old_words x in let c = gone x in omega arith);
    chains = t.chains;
    marks = t.marks;
  }
    where
      area_now : (n : ℕ) → in_use it.store n → (aim.condemned n ≡ true) ⊎ (aim.condemned n ≡ false) → (region g' (it.map.at n)).area ≡ (object it.store n).area
      area_now n u (inl x) = ap (λ (c : Class). c.area) (class_now n ∙ class_doomed test (class_at (classes g) (it.map.at n)) (live n u) (and_parts (is_held it.store n) (test (class_at (classes g) (it.map.at n)).area (class_at (classes g) (it.map.at n)).level) (sym (condemns n) ∙ x)).1) ∙ h.classes_of.area n u
      area_now n u (inr x) = ap (λ (c : Class). c.area) (class_now n ∙ class_spared test (class_at (classes g) (it.map.at n)) (live n u) (test_false n u x)) ∙ h.classes_of.area n u

      level_now : (n : ℕ) → in_use it.store n → (aim.condemned n ≡ true) ⊎ (aim.condemned n ≡ false) → (class_at (classes g') (it.map.at n)).level < suc it.top
      level_now n u (inl x) = let r = ap (λ (c : Class). c.level) (class_now n ∙ class_doomed test (class_at (classes g) (it.map.at n)) (live n u) (and_parts (is_held it.store n) (test (class_at (classes g) (it.map.at n)).area (class_at (classes g) (it.map.at n)).level) (sym (condemns n) ∙ x)).1) in let y = h.levels n u in omega arith
      level_now n u (inr x) = let r = ap (λ (c : Class). c.level) (class_now n ∙ class_spared test (class_at (classes g) (it.map.at n)) (live n u) (test_false n u x)) in let y = h.levels n u in omega arith
