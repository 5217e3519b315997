-- A region is opened: the invariant of the image stays.
use Rattle.std.proofs.Common.{◌≡◌, ℕ, suc, ◌+◌, ◌<◌, ◌≤◌, ◌⊎◌, inl, inr, true, refl, sym, ◌∙◌, ap, subst, arith}
use Rattle.std.specs.Prelude.{is_some}
use Rattle.std.proofs.lemmas.Bool.{cases_eq}
use Rattle.area_space.specs.store_word.Words.{Parts}
use Rattle.area_space.specs.lisp_graph.Totals.{total}
use Rattle.lisp_meaning.specs.State.{survivor, in_use}
use Rattle.lisp_meaning.specs.Image.{Image, Live, Old, region, word, is_used, used_words}
use Rattle.lisp_meaning.specs.Classes.{Class, classes, class_at, of_class, in_class, in_old_class}
use Rattle.lisp_meaning.specs.Fits.{Roled}
use Rattle.lisp_meaning.specs.Stands.{Classes}
use Rattle.lisp_meaning.specs.Invariant.{MemoryInvariant}
use Rattle.lisp_meaning.specs.Interpretation.{Interpretation}
use Rattle.lisp_meaning.specs.Marks.{Marks}
use Rattle.lisp_meaning.specs.Placed.{Placed, Charged}
use Rattle.lisp_meaning.proofs.reading.Husks.{husks_placed}
use Rattle.lisp_meaning.proofs.layout.Placement.{opened, class_else, charges_before_at, spares_before_at, two_numbers}

module _ (g g' : Image) (it : Interpretation) (h : MemoryInvariant g it)
    (b area level : ℕ) (p : Placed g g' b 0 area level) (c : Charged g g' area level 0) (marks : Marks g') where
  -- no word is placed
  nowhere : (a : ℕ) → (b ≤ a) × (a < b + 0) → ⊥
  nowhere a w = let x = w.0 in let y = w.1 in absurd (omega arith)

  same_used : (a : ℕ) → is_used g' a ≡ is_used g a
  same_used a = p.used_out a (nowhere a)

  same_class : (n : ℕ) → in_use it.store n → class_at (classes g') (it.map.at n) ≡ class_at (classes g) (it.map.at n)
  same_class = class_else g g' it h b 0 area level p

  words_live : (x y : ℕ) → used_words g' (of_class x y) ≡ used_words g (of_class x y)
  words_live x y = at (two_numbers x y area level (cases_eq x area) (cases_eq y level))
    where
      at : ((x ≡ area) × (y ≡ level)) ⊎ ((x ≡ area) × (y ≡ level) → ⊥) → used_words g' (of_class x y) ≡ used_words g (of_class x y)
      at (inl e) =
          let z = p.used_class in
          let plain : used_words g' (of_class area level) ≡ used_words g (of_class area level) = omega arith in
          subst (λ (l : ℕ). used_words g' (of_class x l) ≡ used_words g (of_class x l)) (sym e.1) (subst (λ (a : ℕ). used_words g' (of_class a level) ≡ used_words g (of_class a level)) (sym e.0) plain)
      at (inr ne) = p.used_else x y ne

  charge_live : (x y : ℕ) → g'.live_charge x y ≡ g.live_charge x y
  charge_live x y = at (two_numbers x y area level (cases_eq x area) (cases_eq y level))
    where
      at : ((x ≡ area) × (y ≡ level)) ⊎ ((x ≡ area) × (y ≡ level) → ⊥) → g'.live_charge x y ≡ g.live_charge x y
      at (inl e) =
          let z = c.live_class in
          let plain : g'.live_charge area level ≡ g.live_charge area level = omega arith in
          subst (λ (l : ℕ). g'.live_charge x l ≡ g.live_charge x l) (sym e.1) (subst (λ (a : ℕ). g'.live_charge a level ≡ g.live_charge a level) (sym e.0) plain)
      at (inr ne) = c.live_else x y ne

  pub kept_opened : MemoryInvariant g' it
  kept_opened = record {
    roled = roled;
    covered = record {
      used = λ a u. h.covered.used a (sym (same_used a) ∙ u);
      unused = λ a u. h.covered.unused a (sym (same_used a) ∙ u);
      free = λ a u. h.covered.free a (p.free a u);
      done = h.covered.done;
    };
    names = h.names;
    condemned = h.condemned;
    bound = h.bound;
    classes_of = places;
    levels = λ n u. (let e = ap (λ (q : Class). q.level) (same_class n u) in let l = h.levels n u in omega arith);
    live_charges = λ x y. charge_live x y ∙ (h.live_charges x y ∙ sym (charges_before_at g g' it h b 0 area level p (in_class x y)));
    old_charges = λ x y. c.old x y ∙ (h.old_charges x y ∙ sym (charges_before_at g g' it h b 0 area level p (in_old_class x y)));
    live_husks = λ x y. c.live_husks x y ∙ h.live_husks x y;
    old_husks = λ x. ap (λ (f : ℕ → ℕ). total f (suc it.top)) (λ i y. (c.old_husks x y) i) ∙ h.old_husks x;
    quota = h.quota;
    room_live = λ x y. (
        let e = words_live x y in
        let f = spares_before_at g g' it h b 0 area level p (in_class x y) in
        let q = charge_live x y in
        let r = c.live_husks x y in
        let z = h.room_live x y in
        omega arith);
    room_husks = husks_placed g g' it.map it.map b 0 area level h.covered p (λ a e. refl) c.live_husks h.room_husks;
    room_old = λ x. (let e = p.used_old x in let z = h.room_old x in omega arith);
    chains = p.chains;
    marks = marks;
  }
    where
      roled : Roled (word g') (classes g') it.map it.store
      roled = subst (λ (W : ℕ → Parts). Roled W (classes g') it.map it.store) (λ i a. (sym (p.words a (nowhere a))) i) (opened g g' it h b 0 area level p)

      doomed_there : (n l : ℕ) → in_use it.store n
          → (((region g (it.map.at n)).standing ≡ Old) × ((region g (it.map.at n)).level ≡ l)) ⊎ (((region g (it.map.at n)).standing ≡ Live) × ((region g (it.map.at n)).level ≡ survivor it.top it.aim.what l) × (it.aim.bound n ≡ true))
          → (((region g' (it.map.at n)).standing ≡ Old) × ((region g' (it.map.at n)).level ≡ l)) ⊎ (((region g' (it.map.at n)).standing ≡ Live) × ((region g' (it.map.at n)).level ≡ survivor it.top it.aim.what l) × (it.aim.bound n ≡ true))
      doomed_there n l u (inl z) = inl (ap (λ (q : Class). q.standing) (same_class n u) ∙ z.0, ap (λ (q : Class). q.level) (same_class n u) ∙ z.1)
      doomed_there n l u (inr z) = inr (ap (λ (q : Class). q.standing) (same_class n u) ∙ z.0, ap (λ (q : Class). q.level) (same_class n u) ∙ z.1, z.2)

      places : Classes g' it.top it.store it.aim it.map.at
      places = record {
        area = λ n u. ap (λ (q : Class). q.area) (same_class n u) ∙ h.classes_of.area n u;
        spared = λ n l e f. (let u : in_use it.store n = ap is_some e in let z = h.classes_of.spared n l e f in (ap (λ (q : Class). q.standing) (same_class n u) ∙ z.0, ap (λ (q : Class). q.level) (same_class n u) ∙ z.1));
        doomed = λ n l e f. doomed_there n l (ap is_some e) (h.classes_of.doomed n l e f);
      }
