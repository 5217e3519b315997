-- The next unit, and whether a unit remains to be scanned.
use Rattle.std.proofs.Common.{◌≡◌, ℕ, zero, suc, ◌<◌, ◌⊎◌, inl, inr, Bool, true, false, ◌&&◌, refl, sym, ◌∙◌, ap, arith, Option, Some, None, length}
use Rattle.std.proofs.lemmas.Bool.{cases_eq, and_parts}
use Rattle.lisp_meaning.specs.reading.Image.{Image}
use Rattle.lisp_meaning.specs.reading.Units.{NothingLeft, InRegister, InWord, lowest, lowest_or, on_page_of, first_of, next_unit}
use Rattle.lisp_meaning.specs.Laws.{NextIsLeft}

-- the lowest number that passes

pub lowest-passes : (p : ℕ → Bool) (n m : ℕ) → lowest p n ≡ Some m → (m < n) × (p m ≡ true)
unfolding lowest
lowest-passes p zero m e = cc
lowest-passes p (suc n) m e = go (lowest p n) refl (p n) refl (lowest-passes p n m) e
  where
    go : (o : Option ℕ) → lowest p n ≡ o → (b : Bool) → p n ≡ b → (lowest p n ≡ Some m → (m < n) × (p m ≡ true)) → lowest_or o n b ≡ Some m → (m < suc n) × (p m ≡ true)
    go (Some x) is b here before e = let r = before (is ∙ e) in (let l = r.0 in omega arith, r.1)
    go None is true here before e = let z : n ≡ m = cc in (omega arith, ap p (sym z) ∙ here)
    go None is false here before e = cc

pub lowest-none : (p : ℕ → Bool) (n : ℕ) → lowest p n ≡ None → (m : ℕ) → m < n → p m ≡ false
unfolding lowest
lowest-none p zero e m l = absurd (omega arith)
lowest-none p (suc n) e m l = go (lowest p n) refl (p n) refl (λ z. lowest-none p n z m) e
  where
    go : (o : Option ℕ) → lowest p n ≡ o → (b : Bool) → p n ≡ b → (lowest p n ≡ None → m < n → p m ≡ false) → lowest_or o n b ≡ None → p m ≡ false
    go (Some x) is b here before e = cc
    go None is true here before e = cc
    go None is false here before e = at (cases_eq m n)
      where
        at : (m ≡ n) ⊎ (m ≡ n → ⊥) → p m ≡ false
        at (inl z) = ap p z ∙ here
        at (inr ne) = before is (omega arith)

pub none-lowest : (p : ℕ → Bool) (n : ℕ) → ((m : ℕ) → m < n → p m ≡ false) → lowest p n ≡ None
none-lowest p n none = go (lowest p n) refl
  where
    go : (o : Option ℕ) → lowest p n ≡ o → lowest p n ≡ None
    go None e = e
    go (Some m) e = absurd (let r = lowest-passes p n m e in let x = none m r.0 in let y = r.1 in cc)

-- the next unit

module _ (g : Image) where
  abbrev near_left : ℕ → Bool
  near_left a = g.word_left a && on_page_of g.last_moved a

  of_register : (r : ℕ) (near register far : Option ℕ) → first_of near register far ≡ Some (InRegister r) → register ≡ Some r
  of_register r (Some a) register far e = cc
  of_register r None (Some x) far e = cc
  of_register r None None (Some x) e = cc
  of_register r None None None e = cc

  of_word : (a : ℕ) (near register far : Option ℕ) → first_of near register far ≡ Some (InWord a) → (near ≡ Some a) ⊎ (far ≡ Some a)
  of_word a (Some x) register far e = inl cc
  of_word a None (Some x) far e = cc
  of_word a None None (Some x) e = inr cc
  of_word a None None None e = cc

  of_none : (near register far : Option ℕ) → first_of near register far ≡ None → (register ≡ None) × (far ≡ None)
  of_none (Some x) register far e = cc
  of_none None (Some x) far e = cc
  of_none None None (Some x) e = cc
  of_none None None None e = (refl, refl)

  near_or_far : (a : ℕ) → (lowest near_left (length g.words) ≡ Some a) ⊎ (lowest g.word_left (length g.words) ≡ Some a) → (a < length g.words) × (g.word_left a ≡ true)
  near_or_far a (inl e) = let r = lowest-passes near_left (length g.words) a e in (r.0, (and_parts (g.word_left a) (on_page_of g.last_moved a) r.1).0)
  near_or_far a (inr e) = lowest-passes g.word_left (length g.words) a e

  nothing : NothingLeft g → next_unit g ≡ None
  nothing n =
      ap (λ (x : Option ℕ). first_of x (lowest g.register_left (length g.registers)) (lowest g.word_left (length g.words)))
      (none-lowest near_left (length g.words) (λ a l. ap (λ (b : Bool). b && on_page_of g.last_moved a) (n.1 a l)))
      ∙ ap (λ (x : Option ℕ). first_of None x (lowest g.word_left (length g.words))) (none-lowest g.register_left (length g.registers) n.0)
      ∙ ap (first_of None None) (none-lowest g.word_left (length g.words) n.1)

  pub next_is_left : NextIsLeft g
  next_is_left = record {
    none = λ e. (let r = of_none (lowest near_left (length g.words)) (lowest g.register_left (length g.registers)) (lowest g.word_left (length g.words)) e in
        (λ i l. lowest-none g.register_left (length g.registers) r.0 i l, λ a l. lowest-none g.word_left (length g.words) r.1 a l));
    no_other = nothing;
    register = λ r e. lowest-passes g.register_left (length g.registers) r
        (of_register r (lowest near_left (length g.words)) (lowest g.register_left (length g.registers)) (lowest g.word_left (length g.words)) e);
    word = λ a e. near_or_far a (of_word a (lowest near_left (length g.words)) (lowest g.register_left (length g.registers)) (lowest g.word_left (length g.words)) e);
  }
