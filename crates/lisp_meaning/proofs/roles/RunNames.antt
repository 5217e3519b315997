-- What words alone show of the roles: what is at a final address, and which cells a compact run has.
use Rattle.std.proofs.Common.{◌≡◌, ℕ, zero, suc, ◌+◌, ◌<◌, ◌⊎◌, inl, inr, Bool, true, not, ◌&&◌, refl, sym, ◌∙◌, ap, subst, arith, Option, Some, None, length}
use Rattle.std.proofs.lemmas.Bool.{or_cases, or_right, and_parts}
use Rattle.lisp_graph.specs.store_word.Words.{Parts}
use Rattle.lisp_graph.specs.store_word.declared.word.CdrCode.{CdrCode}
use Rattle.lisp_graph.specs.store_word.declared.word.CdrCode.TheVariants.{Next as CdrNext, Nil as CdrNil, Normal as CdrNormal, Second as CdrSecond}
use Rattle.lisp_graph.specs.declared.object.Value.TheVariants as V
use Rattle.lisp_graph.specs.declared.object.Body.{Body}
use Rattle.lisp_graph.specs.declared.object.Body.TheVariants.{Cons, Block}
use Rattle.lisp_graph.specs.Graph.{is_ref, body_refers}
use Rattle.lisp_meaning.specs.machine.State.{Store, Condemned, object, is_held}
use Rattle.lisp_meaning.specs.machine.Sound.{is_kept}
use Rattle.lisp_meaning.specs.reading.Forwards.{forward_of}
use Rattle.lisp_meaning.specs.reading.Classes.{Class, region_of}
use Rattle.lisp_meaning.specs.invariants.Roles.{AsCons, AsBlock, Role, PairHead, Cell, Head, Moved, Relaid, names_as, RoleMap, cdr_of, name_or, name_at}
use Rattle.lisp_meaning.specs.invariants.Fits.{CellCdr, Fits, Roled}
use Rattle.lisp_meaning.proofs.layout.ObjectWords.{cell_fits}
use Rattle.lisp_meaning.proofs.closure.ClosedSets.{is_ref-same}

pub name_at_is : (k : RoleMap) (a n : ℕ) → names_as AsCons (k.role a) ≡ Some n → names_as AsCons (k.role a) ≡ Some (name_at k a)
name_at_is k a n e = e ∙ ap (λ (o : Option ℕ). Some (name_or o)) (sym e)

module _ (W : ℕ → Parts) (regions : ℕ → Class) (k : RoleMap) (s : Store) (R : Roled W regions k s) where
  fits_as : (c : ℕ) (r : Role) → k.role c ≡ r → Fits regions k s c (W c) r
  fits_as c r e = let P : Role → Type 0 = λ x. Fits regions k s c (W c) x in subst P e (R.fits c)

  -- a pair or a cell, if a reference to a cons leads to a word that is no forward
  pub cons_there : (a n : ℕ) → names_as AsCons (k.role a) ≡ Some n → forward_of (W a).content ≡ None → (k.role a ≡ PairHead n) ⊎ ((i : ℕ) × (k.role a ≡ Cell n i))
  cons_there a n e none = go (k.role a) refl e
    where
      moved : (m : ℕ) → k.role a ≡ Moved AsCons m → (k.role a ≡ PairHead n) ⊎ ((i : ℕ) × (k.role a ≡ Cell n i))
      moved m z = let f = fits_as a (Moved AsCons m) z in let x = ap forward_of f.content in cc

      relaid : (m : ℕ) → k.role a ≡ Relaid AsCons m → (k.role a ≡ PairHead n) ⊎ ((i : ℕ) × (k.role a ≡ Cell n i))
      relaid m z = let f = fits_as a (Relaid AsCons m) z in let x = ap forward_of f.content in cc

      go : (r : Role) → k.role a ≡ r → names_as AsCons r ≡ Some n → (k.role a ≡ PairHead n) ⊎ ((i : ℕ) × (k.role a ≡ Cell n i))
      go (PairHead m) z e = inl (z ∙ ap PairHead (let y : m ≡ n = cc in y))
      go (Cell m i) z e = inr (i, z ∙ ap (λ (x : ℕ). Cell x i) (let y : m ≡ n = cc in y))
      go (Moved AsCons m) z e = moved m z
      go (Relaid AsCons m) z e = relaid m z
      go _ z e = cc

  -- a header, if a reference to a block does
  pub block_there : (a n : ℕ) → names_as AsBlock (k.role a) ≡ Some n → forward_of (W a).content ≡ None → k.role a ≡ Head n
  block_there a n e none = go (k.role a) refl e
    where
      moved : (m : ℕ) → k.role a ≡ Moved AsBlock m → k.role a ≡ Head n
      moved m z = let f = fits_as a (Moved AsBlock m) z in let x = ap forward_of f.content in cc

      relaid : (m : ℕ) → k.role a ≡ Relaid AsBlock m → k.role a ≡ Head n
      relaid m z = let f = fits_as a (Relaid AsBlock m) z in let x = ap forward_of f.content in cc

      go : (r : Role) → k.role a ≡ r → names_as AsBlock r ≡ Some n → k.role a ≡ Head n
      go (Head m) z e = z ∙ ap Head (let y : m ≡ n = cc in y)
      go (Moved AsBlock m) z e = moved m z
      go (Relaid AsBlock m) z e = relaid m z
      go _ z e = cc

  -- a pair has cdr code normal, a cell another
  pub pair_there : (a n : ℕ) → names_as AsCons (k.role a) ≡ Some n → forward_of (W a).content ≡ None → (W a).cdr ≡ CdrNormal → k.role a ≡ PairHead n
  pair_there a n e none code = go (cons_there a n e none)
    where
      cell : (i : ℕ) (c : CdrCode) → (W a).cdr ≡ c → c ≡ CdrNormal → CellCdr k.role a i (cdr_of (object s n).body) c → ⊥
      cell i CdrNext z y x = cc
      cell i CdrNil z y x = cc
      cell i CdrNormal z y x = x
      cell i CdrSecond z y x = x

      go : (k.role a ≡ PairHead n) ⊎ ((i : ℕ) × (k.role a ≡ Cell n i)) → k.role a ≡ PairHead n
      go (inl r) = r
      go (inr r) = absurd (cell r.0 (W a).cdr refl code (cell_fits W regions k s R n a r.0 r.1).cdr)

  pub cell_there : (a n : ℕ) → names_as AsCons (k.role a) ≡ Some n → forward_of (W a).content ≡ None → ((W a).cdr ≡ CdrNormal → ⊥) → (i : ℕ) × (k.role a ≡ Cell n i)
  cell_there a n e none code = go (cons_there a n e none)
    where
      go : (k.role a ≡ PairHead n) ⊎ ((i : ℕ) × (k.role a ≡ Cell n i)) → (i : ℕ) × (k.role a ≡ Cell n i)
      go (inl r) = absurd (code (fits_as a (PairHead n) r).code)
      go (inr r) = r

  -- What follows a cell coded next: the name after it is its cdr, in the same region, and a cell there has the next place

  follower : (a n i : ℕ) → k.role a ≡ Cell n i → (W a).cdr ≡ CdrNext → CellCdr k.role a i (cdr_of (object s n).body) CdrNext
  follower a n i r code = let P : CdrCode → Type 0 = λ c. CellCdr k.role a i (cdr_of (object s n).body) c in subst P code (cell_fits W regions k s R n a i r).cdr

  pub follower_named : (a n i : ℕ) → k.role a ≡ Cell n i → (W a).cdr ≡ CdrNext → names_as AsCons (k.role (suc a)) ≡ Some (name_at k (suc a))
  follower_named a n i r code = name_at_is k (suc a) (follower a n i r code).0 (follower a n i r code).1

  pub follower_cdr : (a n i : ℕ) → k.role a ≡ Cell n i → (W a).cdr ≡ CdrNext → cdr_of (object s n).body ≡ Some (V.Ref (name_at k (suc a)))
  follower_cdr a n i r code = let f = follower a n i r code in f.2 ∙ ap (λ (o : Option ℕ). Some (V.Ref (name_or o))) (sym f.1)

  pub follower_near : (a n i : ℕ) → k.role a ≡ Cell n i → (W a).cdr ≡ CdrNext → region_of (suc a) ≡ region_of a
  follower_near a n i r code = (follower a n i r code).3

  pub follower_cell : (a n i : ℕ) → k.role a ≡ Cell n i → (W a).cdr ≡ CdrNext → forward_of (W (suc a)).content ≡ None → ((W (suc a)).cdr ≡ CdrNormal → ⊥)
      → k.role (suc a) ≡ Cell (name_at k (suc a)) (suc i)
  follower_cell a n i r code none normal =
      let f = follower a n i r code in
      let c = cell_there (suc a) (name_at k (suc a)) (follower_named a n i r code) none normal in
      c.1 ∙ ap (Cell (name_at k (suc a))) (f.4 (name_at k (suc a)) c.0 c.1)

  -- Runs

  -- `count` cells, each coded next except the last; none is a forward
  pub run_cells : (from n start count : ℕ) → k.role from ≡ Cell n start → ((i : ℕ) → suc i < count → (W (from + i)).cdr ≡ CdrNext)
      → ((i : ℕ) → i < count → (forward_of (W (from + i)).content ≡ None) × ((W (from + i)).cdr ≡ CdrNormal → ⊥))
      → (i : ℕ) → i < count → k.role (from + i) ≡ Cell (name_at k (from + i)) (start + i)
  run_cells from n start count r next plain zero l =
      let z : from + 0 ≡ from = omega arith in
      let e : k.role (from + 0) ≡ Cell n start = ap k.role z ∙ r in
      e ∙ ap (λ (m : ℕ). Cell m start) (sym (ap (λ (x : Role). name_or (names_as AsCons x)) e)) ∙ ap (Cell (name_at k (from + 0))) (let y : start ≡ start + 0 = omega arith in y)
  run_cells from n start count r next plain (suc i) l =
      let before = run_cells from n start count r next plain i (omega arith) in
      let z : suc (from + i) ≡ from + suc i = omega arith in
      let P : ℕ → Type 0 = λ c. k.role c ≡ Cell (name_at k c) (suc (start + i)) in
      let Q : ℕ → Type 0 = λ c. forward_of (W c).content ≡ None in
      let N : ℕ → Type 0 = λ c. (W c).cdr ≡ CdrNormal → ⊥ in
      subst P z (follower_cell (from + i) (name_at k (from + i)) (start + i) before (next i l) (subst Q (sym z) (plain (suc i) l).0) (subst N (sym z) (plain (suc i) l).1))
      ∙ ap (Cell (name_at k (from + suc i))) (let y : suc (start + i) ≡ start + suc i = omega arith in y)

-- what a kept object refers to is kept, so a run whose first name is kept has kept names
pub follower_kept : (s : Store) (set : ℕ → Bool) → ((m n : ℕ) → m < length s.objects → set m ≡ true → body_refers n (object s m).body ≡ true → set n ≡ true)
    → (m n : ℕ) → m < length s.objects → set m ≡ true → cdr_of (object s m).body ≡ Some (V.Ref n) → set n ≡ true
follower_kept s set closed m n l k e = closed m n l k (go (object s m).body e)
  where
    go : (b : Body) → cdr_of b ≡ Some (V.Ref n) → body_refers n b ≡ true
    go (Cons car cdr) e = or_right (is_ref n car) (is_ref n cdr) (ap (is_ref n) (let z : cdr ≡ V.Ref n = cc in z) ∙ is_ref-same n)
    go (Block code fields) e = cc

-- a condemned name that is kept is bound
pub kept_bound : (s : Store) (aim : Condemned) (n : ℕ) → is_kept s aim n ≡ true → aim.condemned n ≡ true → aim.bound n ≡ true
kept_bound s aim n e c = go (or_cases (aim.bound n) (is_held s n && not (aim.condemned n)) e)
  where
    go : (aim.bound n ≡ true) ⊎ ((is_held s n && not (aim.condemned n)) ≡ true) → aim.bound n ≡ true
    go (inl x) = x
    go (inr x) = let y = (and_parts (is_held s n) (not (aim.condemned n)) x).1 in let z = ap not c in cc
