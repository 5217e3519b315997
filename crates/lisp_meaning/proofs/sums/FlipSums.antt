-- Sums at a flip: what the condemned names are charged is what their classes were charged; room for the old words follows.
use Rattle.std.proofs.Common.{◌≡◌, ℕ, ◌+◌, ◌<◌, ◌≤◌, ◌⊎◌, inl, inr, Bool, true, false, ◌&&◌, not, if◌then◌else◌, refl, sym, ◌∙◌, ap, arith, length, nat_eq}
use Rattle.std.proofs.lemmas.Bool.{cases_Bool, eqb-true}
use Rattle.std.proofs.lemmas.Grind.{common_steps}
use Rattle.lisp_graph.specs.Totals.{total, if_true}
use Rattle.lisp_graph.proofs.Totals.{total-cong, total-add, total-le}
use Rattle.lisp_meaning.specs.machine.Charges.{charges, per_area}
use Rattle.lisp_meaning.specs.invariants.ChargesIn.{charge_in, charges_in}
use Rattle.lisp_meaning.specs.reading.Classes.{Class, class_at, in_class}
use Rattle.lisp_meaning.specs.reading.Image.{Standing, Live, Old, Free, is_live}
use Rattle.lisp_meaning.specs.machine.State.{Store, object, is_held, in_use}
use Rattle.lisp_meaning.specs.keeping.TableChanges.{condemned_class}
use Rattle.lisp_meaning.proofs.sums.Charges.{total-none, total-one, total-swap}
use Rattle.lisp_meaning.proofs.sums.Accounts.{charges_same}

where_total : (t : Bool) (f : ℕ → ℕ) (n : ℕ) → if_true t (total f n) ≡ total (λ i. if_true t (f i)) n
where_total true f n = refl
where_total false f n = sym (total-none (λ i. 0) n (λ m l. refl))

-- one name, over all levels
abbrev one : (test : ℕ → ℕ → Bool) (x : ℕ) (held : Bool) (standing : Standing) (area level charge y : ℕ) → ℕ
one test x held standing area level charge y = if_true (test x y) (if_true (held && (is_live standing && (nat_eq area x && nat_eq level y))) charge)

number_other : (a b : ℕ) → (a ≡ b → ⊥) → nat_eq a b ≡ false
number_other a b ne = grind (arith, common_steps)

number_same : (a : ℕ) → nat_eq a a ≡ true
number_same a = grind (arith, common_steps)

zero_there : (t : Bool) → if_true t 0 ≡ 0
zero_there true = refl
zero_there false = refl

one_name : (test : ℕ → ℕ → Bool) (x : ℕ) (held : Bool) (standing : Standing) (area level charge levels : ℕ) → (held ≡ true → standing ≡ Live) → (held ≡ true → level < levels)
    → total (one test x held standing area level charge) levels ≡ if_true ((held && test area level) && nat_eq area x) charge
one_name test x false standing area level charge levels live low = total-none (one test x false standing area level charge) levels (λ m l. zero_there (test x m))
one_name test x true Old area level charge levels live low = let z = live refl in cc
one_name test x true Free area level charge levels live low = let z = live refl in cc
one_name test x true Live area level charge levels live low = go (cases_Bool (nat_eq area x))
  where
    and_false : (b : Bool) → (b && false) ≡ false
    and_false true = refl
    and_false false = refl

    and_true : (b : Bool) → (b && true) ≡ b
    and_true true = refl
    and_true false = refl

    go : (nat_eq area x ≡ true) ⊎ (nat_eq area x ≡ false) → total (one test x true Live area level charge) levels ≡ if_true ((true && test area level) && nat_eq area x) charge
    go (inr e) =
        total-none (one test x true Live area level charge) levels (λ m l. ap (λ (b : Bool). if_true (test x m) (if_true (b && nat_eq level m) charge)) e ∙ zero_there (test x m))
        ∙ sym (ap (λ (b : Bool). if_true (test area level && b) charge) e ∙ ap (λ (b : Bool). if_true b charge) (and_false (test area level)))
    go (inl e) =
        total-one (one test x true Live area level charge) level levels (low refl)
        (λ m l ne. ap (λ (b : Bool). if_true (test x m) (if_true (b && nat_eq level m) charge)) e
        ∙ ap (λ (b : Bool). if_true (test x m) (if_true b charge)) (number_other level m (λ (z : level ≡ m). ne (sym z))) ∙ zero_there (test x m))
        ∙ ap (λ (b : Bool). if_true (test x level) (if_true (b && nat_eq level level) charge)) e
        ∙ ap (λ (b : Bool). if_true (test x level) (if_true b charge)) (number_same level)
        ∙ ap (λ (i : ℕ). if_true (test i level) charge) (sym (eqb-true area x e))
        ∙ sym (ap (λ (b : Bool). if_true (test area level && b) charge) e ∙ ap (λ (b : Bool). if_true b charge) (and_true (test area level)))

module _ (s : Store) (at : ℕ → ℕ) (regions : ℕ → Class) (test : ℕ → ℕ → Bool) (condemned : ℕ → Bool) (levels : ℕ)
    (classes : (n : ℕ) → in_use s n → ((class_at regions (at n)).area ≡ (object s n).area) × ((class_at regions (at n)).level < levels) × ((class_at regions (at n)).standing ≡ Live))
    (condemns : (n : ℕ) → condemned n ≡ (is_held s n && test (class_at regions (at n)).area (class_at regions (at n)).level)) where
  pub charges_at_flip : (x : ℕ) → total (λ y. if_true (test x y) (charges_in s at regions (in_class x y))) levels ≡ charges s (λ n. condemned n && per_area s x n)
  charges_at_flip x =
      total-cong (λ y. if_true (test x y) (charges_in s at regions (in_class x y))) (λ y. total (λ n. if_true (test x y) (charge_in s at regions (in_class x y) n)) (length s.objects)) levels
      (λ y l. where_total (test x y) (charge_in s at regions (in_class x y)) (length s.objects))
      ∙ total-swap (λ y n. if_true (test x y) (charge_in s at regions (in_class x y) n)) levels (length s.objects)
      ∙ total-cong (λ n. total (λ y. if_true (test x y) (charge_in s at regions (in_class x y) n)) levels) (λ n. if_true (condemned n && per_area s x n) (object s n).charge) (length s.objects)
      (λ n l. each n (cases_Bool (is_held s n)))
    where
      each : (n : ℕ) → (is_held s n ≡ true) ⊎ (is_held s n ≡ false)
          → total (λ y. if_true (test x y) (charge_in s at regions (in_class x y) n)) levels ≡ if_true (condemned n && per_area s x n) (object s n).charge
      each n (inl u) =
          let c = classes n u in
          one_name test x (is_held s n) (class_at regions (at n)).standing (class_at regions (at n)).area (class_at regions (at n)).level (object s n).charge levels (λ e. c.2) (λ e. c.1)
          ∙ ap (λ (b : Bool). if_true (b && nat_eq (class_at regions (at n)).area x) (object s n).charge) (sym (condemns n))
          ∙ ap (λ (i : ℕ). if_true (condemned n && nat_eq i x) (object s n).charge) c.0
      each n (inr u) =
          total-none (λ y. if_true (test x y) (charge_in s at regions (in_class x y) n)) levels
          (λ y l. ap (λ (b : Bool). if_true (test x y) (if_true (b && in_class x y n (class_at regions (at n))) (object s n).charge)) u ∙ zero_there (test x y))
          ∙ sym (ap (λ (b : Bool). if_true (b && per_area s x n) (object s n).charge) (condemns n ∙ ap (λ (b : Bool). b && test (class_at regions (at n)).area (class_at regions (at n)).level) u))

  -- the words of the classes that become old: at most what their names are charged, and their husks
  pub room_at_flip : (x : ℕ) (used spares live husks : ℕ → ℕ) → ((y : ℕ) → used y + spares y ≤ live y + husks y) → ((y : ℕ) → live y ≡ charges_in s at regions (in_class x y))
      → total (λ y. if_true (test x y) (used y)) levels ≤ charges s (λ n. condemned n && per_area s x n) + total (λ y. if_true (test x y) (husks y)) levels
  room_at_flip x used spares live husks room same =
      let a = total-le (λ y. if_true (test x y) (used y)) (λ y. if_true (test x y) (live y) + if_true (test x y) (husks y)) levels (λ y l. part (test x y) (used y) (spares y) (live y) (husks y) (room y)) in
      let b = total-add (λ y. if_true (test x y) (live y)) (λ y. if_true (test x y) (husks y)) levels in
      let c = total-cong (λ y. if_true (test x y) (live y)) (λ y. if_true (test x y) (charges_in s at regions (in_class x y))) levels (λ y l. ap (if_true (test x y)) (same y)) in
      let d = charges_at_flip x in
      omega arith
    where
      part : (t : Bool) (u p l h : ℕ) → u + p ≤ l + h → if_true t u ≤ if_true t l + if_true t h
      part true u p l h r = omega arith
      part false u p l h r = omega arith

  -- the sums of the classes after the flip
  pub after_live : (x y : ℕ) (held : Bool) (c : Class) → (held ≡ true → c.standing ≡ Live) → (n : ℕ) → (held && in_class x y n (condemned_class test c)) ≡ (held && (not (test x y) && in_class x y n c))
  after_live x y false c live n = refl
  after_live x y true c live n = go (cases_Bool (test c.area c.level)) (cases_Bool (nat_eq c.area x && nat_eq c.level y))
    where
      e : is_live c.standing ≡ true
      e = ap is_live (live refl)

      go : (test c.area c.level ≡ true) ⊎ (test c.area c.level ≡ false) → ((nat_eq c.area x && nat_eq c.level y) ≡ true) ⊎ ((nat_eq c.area x && nat_eq c.level y) ≡ false)
          → (true && in_class x y n (condemned_class test c)) ≡ (true && (not (test x y) && in_class x y n c))
      go t (inr z) = first t
        where
          right : (not (test x y) && (is_live c.standing && (nat_eq c.area x && nat_eq c.level y))) ≡ false
          right = ap (λ (b : Bool). not (test x y) && (is_live c.standing && b)) z ∙ ap (λ (b : Bool). not (test x y) && (b && false)) e ∙ no_more (not (test x y))
            where
              no_more : (b : Bool) → (b && false) ≡ false
              no_more true = refl
              no_more false = refl

          first : (test c.area c.level ≡ true) ⊎ (test c.area c.level ≡ false) → (true && in_class x y n (condemned_class test c)) ≡ (true && (not (test x y) && in_class x y n c))
          first (inl t) = ap (λ (b : Bool). in_class x y n (if b && test c.area c.level then record c { standing = Old } else c)) e ∙ ap (λ (b : Bool). in_class x y n (if b then record c { standing = Old } else c)) t ∙ sym right
          first (inr t) = ap (λ (b : Bool). in_class x y n (if b && test c.area c.level then record c { standing = Old } else c)) e ∙ ap (λ (b : Bool). in_class x y n (if b then record c { standing = Old } else c)) t
              ∙ ap (λ (b : Bool). is_live c.standing && b) z ∙ ap (λ (b : Bool). b && false) e ∙ sym right
      go (inl t) (inl z) =
          let p = Rattle.std.proofs.lemmas.Bool.and_parts (nat_eq c.area x) (nat_eq c.level y) z in
          let u : test x y ≡ true = ap (λ (i : ℕ). test i y) (sym (eqb-true c.area x p.0)) ∙ ap (test c.area) (sym (eqb-true c.level y p.1)) ∙ t in
          ap (λ (b : Bool). in_class x y n (if b && test c.area c.level then record c { standing = Old } else c)) e ∙ ap (λ (b : Bool). in_class x y n (if b then record c { standing = Old } else c)) t
          ∙ sym (ap (λ (b : Bool). not b && in_class x y n c) u)
      go (inr t) (inl z) =
          let p = Rattle.std.proofs.lemmas.Bool.and_parts (nat_eq c.area x) (nat_eq c.level y) z in
          let u : test x y ≡ false = ap (λ (i : ℕ). test i y) (sym (eqb-true c.area x p.0)) ∙ ap (test c.area) (sym (eqb-true c.level y p.1)) ∙ t in
          ap (λ (b : Bool). in_class x y n (if b && test c.area c.level then record c { standing = Old } else c)) e ∙ ap (λ (b : Bool). in_class x y n (if b then record c { standing = Old } else c)) t
          ∙ sym (ap (λ (b : Bool). not b && in_class x y n c) u)

  pub live_after_flip : (x y : ℕ) → charges_in s at (λ i. condemned_class test (regions i)) (in_class x y) ≡ if_true (not (test x y)) (charges_in s at regions (in_class x y))
  live_after_flip x y =
      charges_same s s at at regions (λ i. condemned_class test (regions i)) (λ n c. not (test x y) && in_class x y n c) (in_class x y) refl (λ n. refl)
      (λ n. after_live x y (is_held s n) (class_at regions (at n)) (λ u. (classes n u).2) n)
      ∙ last (test x y)
    where
      last : (t : Bool) → charges_in s at regions (λ n c. not t && in_class x y n c) ≡ if_true (not t) (charges_in s at regions (in_class x y))
      last false = refl
      last true = total-none (charge_in s at regions (λ n c. false)) (length s.objects) (λ m l. none (is_held s m) (object s m).charge)
        where
          none : (b : Bool) (c : ℕ) → if_true (b && false) c ≡ 0
          none true c = refl
          none false c = refl
