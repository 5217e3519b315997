-- The roles of words give the final address of each reference, after at most one GC-FORWARD and eleven HEADER-FORWARDs.
use Rattle.std.proofs.Common.{◌≡◌, ℕ, zero, suc, ◌+◌, ◌≤◌, ◌⊎◌, inl, inr, Bool, true, false, refl, sym, ◌∙◌, ap, subst, arith, Some, None}
use Rattle.lisp_meaning.specs.reading.Classes.{Class, class_at, is_old_at, is_live_at}
use Rattle.lisp_meaning.specs.invariants.Fits.{Roled}
use Rattle.lisp_graph.specs.store_word.declared.word.Content.TheVariants.{HeaderForward, GcForward}
use Rattle.lisp_meaning.specs.reading.Forwards.{Leads, here, gc_forward, header_forward, Final, forward_of}
use Rattle.lisp_meaning.specs.reading.Image.{Image, word, is_old}
use Rattle.lisp_meaning.specs.invariants.Roles.{Kind, AsCons, AsBlock, Role, RoleMap, kind_of, names_as, Begins}
use Rattle.lisp_meaning.specs.machine.State.{Store, object}
use Rattle.lisp_meaning.proofs.roles.Chains.{Onward, named_by, one_if, rank, live_not_old}

module _ (g : Image) (regions : ℕ → Class) (k : RoleMap) (s : Store) (R : Roled (word g) regions k s) (kind : Kind) (n : ℕ) where
  Reaches : ℕ → Type 0
  Reaches a = (moves relays : ℕ) × (moves ≤ one_if (is_old_at regions a)) × (relays + k.age a ≤ 11) × Leads g moves relays a (k.at n) × (names_as kind (k.role (k.at n)) ≡ Some n)

  step : (a : ℕ) → names_as kind (k.role a) ≡ Some n
      → ((k.at n ≡ a) × (forward_of (word g a).content ≡ None)) ⊎ Onward (word g) regions k kind n a
      → ((b : ℕ) → names_as kind (k.role b) ≡ Some n → suc (rank regions k b) ≤ rank regions k a → Reaches b) → Reaches a
  unfolding Reaches
  step a named (inl x) rest =
      let y = R.young kind a n named in
      (0, 0, omega arith, omega arith, (let P : ℕ → Type 0 = λ i. Leads g 0 0 a i in subst P (sym x.0) (here x.1)), ap (λ (i : ℕ). names_as kind (k.role i)) x.0 ∙ named)
  step a named (inr x) rest = go x.rank
    where
      go : ((is_old_at regions a ≡ true) × (is_live_at regions x.to ≡ true) × (k.age x.to ≡ k.age a) × ((word g a).content ≡ GcForward x.to))
          ⊎ ((class_at regions x.to ≡ class_at regions a) × (k.age x.to ≡ suc (k.age a)) × ((word g a).content ≡ HeaderForward x.to))
          → (moves relays : ℕ) × (moves ≤ one_if (is_old_at regions a)) × (relays + k.age a ≤ 11) × Leads g moves relays a (k.at n) × (names_as kind (k.role (k.at n)) ≡ Some n)
      go (inl y) =
          let oa : one_if (is_old_at regions a) ≡ 1 = ap one_if y.0 in
          let ob : one_if (is_old_at regions x.to) ≡ 0 = ap one_if (live_not_old (class_at regions x.to).standing y.1) in
          let e = y.2 in
          let r = rest x.to x.named (omega arith) in
          let l = r.2 in
          let h = r.3 in
          (suc r.0, r.1, omega arith, omega arith, gc_forward y.3 r.4, r.5)
      go (inr y) =
          let o : one_if (is_old_at regions x.to) ≡ one_if (is_old_at regions a) = ap (λ (c : Class). one_if (is_old c.standing)) y.0 in
          let e = y.1 in
          let yb = R.young kind x.to n x.named in
          let r = rest x.to x.named (omega arith) in
          let l = r.2 in
          let h = r.3 in
          (r.0, suc r.1, omega arith, omega arith, header_forward y.2 r.4, r.5)

  chain : (fuel a : ℕ) → names_as kind (k.role a) ≡ Some n → rank regions k a ≤ fuel → Reaches a
  chain zero a named f = step a named (named_by (word g) regions k s kind n a (k.role a) (R.fits a) named).step (λ b nb l. absurd (omega arith))
  chain (suc fuel) a named f = step a named (named_by (word g) regions k s kind n a (k.role a) (R.fits a) named).step (λ b nb l. chain fuel b nb (omega arith))

  -- each reference to n has n's place as its final address
  pub final : (a : ℕ) → names_as kind (k.role a) ≡ Some n → Final g a (k.at n)
  unfolding Reaches
  final a named =
      let r = chain (rank regions k a) a named (omega arith) in
      (r.0, r.1, (let l = r.2 in let o = at_most (is_old_at regions a) in omega arith), (let l = r.3 in omega arith), r.4)
    where
      at_most : (b : Bool) → one_if b ≤ 1
      at_most true = omega arith
      at_most false = omega arith

  -- the kind of a reference is that of its object
  pub kind_named : (a : ℕ) → names_as kind (k.role a) ≡ Some n → kind_of (object s n).body ≡ kind
  unfolding Reaches
  kind_named a named =
      let r = chain (rank regions k a) a named (omega arith) in
      let u = (named_by (word g) regions k s kind n a (k.role a) (R.fits a) named).used in
      go kind (kind_of (object s n).body) (k.role (k.at n)) r.5 (R.begins n u)
    where
      go : (x y : Kind) (r : Role) → names_as x r ≡ Some n → Begins y r n → y ≡ x
      go AsCons AsCons r e b = refl
      go AsBlock AsBlock r e b = refl
      go AsBlock AsCons r e (inl b) = let z = ap (names_as AsBlock) b in cc
      go AsBlock AsCons r e (inr b) = let z = ap (names_as AsBlock) b.1 in cc
      go AsCons AsBlock r e b = let z = ap (names_as AsCons) b in cc
