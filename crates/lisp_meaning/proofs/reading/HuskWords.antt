-- The used words of live regions that are of no held name are words of husks, by their roles.
use Rattle.std.proofs.Common.{◌≡◌, ℕ, zero, suc, ◌+◌, ◌<◌, ◌≤◌, Bool, true, false, ◌&&◌, ◌==◌, not, refl, sym, ◌∙◌, ap, arith, Some, length, nat_eq}
use Rattle.std.proofs.lemmas.Bool.{and_parts, or_left, or_right}
use Rattle.std.proofs.lemmas.Grind.{common_steps}
use Rattle.lisp_graph.specs.declared.object.Body.{Body}
use Rattle.lisp_graph.specs.declared.object.Body.TheVariants.{Cons, Block}
use Rattle.lisp_graph.specs.KeyedGraph.{is_cons}
use Rattle.lisp_graph.specs.Totals.{total, if_true}
use Rattle.lisp_graph.proofs.Totals.{total-le}
use Rattle.lisp_meaning.specs.machine.State.{Store, object, is_held, in_use}
use Rattle.lisp_meaning.specs.reading.Image.{Image, word, region, is_used, is_live, is_old}
use Rattle.lisp_meaning.specs.reading.Classes.{Class, class_at, is_old_at, classes, of_class}
use Rattle.lisp_meaning.specs.reading.Objects.{words_at, Within, is_within}
use Rattle.lisp_meaning.specs.reading.Stands.{is_forward_to, is_of, is_of_held, husk_words_in}
use Rattle.lisp_meaning.specs.invariants.Roles.{AsCons, AsBlock, Role, Blank, Scratch, Waste, HuskWord, PairHead, PairTail, Cell, Head, Field, Moved, Relaid, names_as, owner, RoleMap, kind_of}
use Rattle.lisp_meaning.specs.invariants.Fits.{Fits, Roled}
use Rattle.lisp_meaning.specs.invariants.ChargesIn.{is_of_husk, husk_word_in}
use Rattle.lisp_meaning.specs.invariants.Invariant.{Covered}
use Rattle.lisp_meaning.proofs.sums.SomeBelow.{some_below-true}
use Rattle.lisp_meaning.proofs.layout.Layout.{between_yes}
use Rattle.lisp_meaning.proofs.roles.Chains.{name_is, live_not_old}
use Rattle.lisp_meaning.proofs.roles.FinalAddresses.{kind_named}
use Rattle.lisp_meaning.proofs.layout.NewObjects.{owner_used}
use Rattle.lisp_meaning.proofs.reading.ReadRoles.{owner_within}

within_yes : (g : Image) (a b : ℕ) → Within g a b → is_within g a b ≡ true
within_yes g a b w = between_yes a (words_at (word g a)) b w.0 w.1

cons_is : (b : Body) → kind_of b ≡ AsCons → is_cons b ≡ true
cons_is (Cons car cdr) e = refl
cons_is (Block code fields) e = cc

same_number : (a b : ℕ) → a ≡ b → (a == b) ≡ true
same_number a b e = grind (arith, common_steps)

module _ (g : Image) (k : RoleMap) (s : Store) (R : Roled (word g) (classes g) k s) where
  -- No cons is relocated twice

  not_twice : (fuel b n : ℕ) → names_as AsCons (k.role b) ≡ Some n → is_old_at (classes g) b ≡ false → 1 < k.age b → 12 ≤ fuel + k.age b → ⊥
  not_twice zero b n named live old f = let y = R.young AsCons b n named in absurd (omega arith)
  not_twice (suc fuel) b n named live old f = go (k.role b) (R.fits b) named (λ to. not_twice fuel to n)
    where
      go : (r : Role) → Fits (classes g) k s b (word g b) r → names_as AsCons r ≡ Some n
          → ((to : ℕ) → names_as AsCons (k.role to) ≡ Some n → is_old_at (classes g) to ≡ false → 1 < k.age to → 12 ≤ fuel + k.age to → ⊥) → ⊥
      go (PairHead m) h e rest = let x = h.age in absurd (omega arith)
      go (Cell m i) h e rest = let x = h.age in absurd (omega arith)
      go (Moved AsCons m) h e rest = let x = h.old in cc
      go (Relaid AsCons m) h e rest = let x = h.age in rest h.to (h.named ∙ e) (ap (λ (c : Class). is_old c.standing) h.class ∙ live) (omega arith) (omega arith)
      go (Moved AsBlock m) h e rest = cc
      go (Relaid AsBlock m) h e rest = cc
      go Blank h e rest = cc
      go Scratch h e rest = cc
      go Waste h e rest = cc
      go (HuskWord m) h e rest = cc
      go (PairTail m) h e rest = cc
      go (Head m) h e rest = cc
      go (Field m i) h e rest = cc

  -- so a forward to a cons leads to it at once
  leads_there : (a to n : ℕ) → names_as AsCons (k.role to) ≡ Some n → class_at (classes g) to ≡ class_at (classes g) a → k.age to ≡ suc (k.age a) → is_old_at (classes g) a ≡ false → to ≡ k.at n
  leads_there a to n named class age live = go (k.role to) (R.fits to) named
    where
      still : is_old_at (classes g) to ≡ false
      still = ap (λ (c : Class). is_old c.standing) class ∙ live

      go : (r : Role) → Fits (classes g) k s to (word g to) r → names_as AsCons r ≡ Some n → to ≡ k.at n
      go (PairHead m) h e = sym h.place ∙ ap k.at (name_is m n e)
      go (Cell m i) h e = let x = h.age in absurd (omega arith)
      go (Moved AsCons m) h e = let x = h.old in let y = still in cc
      go (Relaid AsCons m) h e =
          let x = h.age in absurd (not_twice 12 h.to n (h.named ∙ e) (ap (λ (c : Class). is_old c.standing) h.class ∙ still) (omega arith) (omega arith))
      go (Moved AsBlock m) h e = cc
      go (Relaid AsBlock m) h e = cc
      go Blank h e = cc
      go Scratch h e = cc
      go Waste h e = cc
      go (HuskWord m) h e = cc
      go (PairTail m) h e = cc
      go (Head m) h e = cc
      go (Field m i) h e = cc

  module _ (c : Covered g k) (below : (n : ℕ) → in_use s n → n < length s.objects) where
    of_some : (a n : ℕ) → in_use s n → is_of g s k.at a n ≡ true → is_of_held g s k.at a ≡ true
    of_some a n u e = some_below-true (λ m. is_held s m && is_of g s k.at a m) (length s.objects) n (below n u) (ap (λ (b : Bool). b && is_of g s k.at a n) u ∙ e)

    owned : (a n : ℕ) → owner (k.role a) ≡ Some n → is_of_held g s k.at a ≡ true
    owned a n o =
        let u = owner_used (classes g) k s a n (word g a) (k.role a) (R.fits a) o in
        of_some a n u (or_left (is_within g (k.at n) a) (is_cons (object s n).body && is_forward_to (k.at n) (word g a).content) (within_yes g (k.at n) a (owner_within g k s R a n o)))

    -- a used word of a live region that is of no held name
    husk_role : (a : ℕ) → is_used g a ≡ true → is_live (region g a).standing ≡ true → is_of_held g s k.at a ≡ false → is_of_husk (k.role a) ≡ true
    husk_role a used live alone = go (k.role a) refl (R.fits a)
      where
        not_old : is_old_at (classes g) a ≡ false
        not_old = live_not_old (region g a).standing live

        own : (n : ℕ) → owner (k.role a) ≡ Some n → is_of_husk (k.role a) ≡ true
        own n o = let x = owned a n o in cc

        go : (r : Role) → k.role a ≡ r → Fits (classes g) k s a (word g a) r → is_of_husk (k.role a) ≡ true
        go Blank e f = absurd (c.used a used e)
        go Scratch e f = absurd (c.done a e)
        go Waste e f = let x = not_old in cc
        go (HuskWord first) e f = ap is_of_husk e
        go (PairHead n) e f = own n (ap owner e)
        go (PairTail n) e f = own n (ap owner e)
        go (Cell n i) e f = own n (ap owner e)
        go (Head n) e f = own n (ap owner e)
        go (Field n i) e f = own n (ap owner e)
        go (Moved kind n) e f = let x = not_old in let y = f.old in cc
        go (Relaid AsBlock n) e f = ap is_of_husk e
        go (Relaid AsCons n) e f =
            let to = leads_there a f.to n f.named f.class f.age not_old in
            let cons = cons_is (object s n).body (kind_named g (classes g) k s R AsCons n f.to f.named) in
            let forward : is_forward_to (k.at n) (word g a).content ≡ true = ap (is_forward_to (k.at n)) f.content ∙ same_number f.to (k.at n) to in
            let both : (is_cons (object s n).body && is_forward_to (k.at n) (word g a).content) ≡ true = ap (λ (b : Bool). b && is_forward_to (k.at n) (word g a).content) cons ∙ forward in
            let x = of_some a n f.used (or_right (is_within g (k.at n) a) (is_cons (object s n).body && is_forward_to (k.at n) (word g a).content) both) in
            cc

    -- so they are no more than the words with such a role
    pub husk_words_few : (area level : ℕ) → husk_words_in g s k.at (of_class area level) ≤ total (husk_word_in k (classes g) area level) (length g.words)
    husk_words_few area level =
        total-le (λ a. if_true (is_used g a && (of_class area level (region g a) && not (is_of_held g s k.at a))) 1) (husk_word_in k (classes g) area level) (length g.words)
        (λ a l. one (is_used g a) (of_class area level (region g a)) (is_of_held g s k.at a) (is_of_husk (k.role a)) (λ u p x. husk_role a u (and_parts (is_live (region g a).standing) (nat_eq (region g a).area area && nat_eq (region g a).level level) p).0 x))
      where
        one : (used there of_one husk : Bool) → (used ≡ true → there ≡ true → of_one ≡ false → husk ≡ true) → if_true (used && (there && not of_one)) 1 ≤ if_true (husk && there) 1
        one true true false husk f = let e = ap (λ (b : Bool). if_true (b && true) 1) (f refl refl refl) in omega arith
        one true true true husk f = omega arith
        one true false of_one husk f = omega arith
        one false there of_one husk f = omega arith
